use Rattle.std.proofs.Common.{◌<◌, ◌≤◌, ◌/◌, length, arith}
use Rattle.std.proofs.lemmas.Grind.{common_steps}
use Rattle.jm_index.proofs.FlagLemmas.{length-all_flags}
use Rattle.jm_index.proofs.flags.Flags.has.Goals as goal

pub returns-clause-yes : goal.returns-clause-yes
returns-clause-yes c = λ e.
    let low : c.args.object / 64 < length c.self.inside.words.items = grind (arith, common_steps) in
    rw (← c.self.view_is) (omega (arith, low, length-all_flags c.self.inside.words.items))

pub returns-clause-no : goal.returns-clause-no
returns-clause-no c = λ e.
    let high : length c.self.inside.words.items ≤ c.args.object / 64 = grind (arith, common_steps) in
    rw (← c.self.view_is) (omega (arith, high, length-all_flags c.self.inside.words.items))
