use Rattle.std.proofs.Common.{◌<◌, ◌≤◌, length, arith}
use Rattle.std.proofs.lemmas.Grind.{common_steps}
use Rattle.jm_index.proofs.FlagLemmas.{dead_read, dead_missed}
use Rattle.jm_index.proofs.flags.Flags.has_dead.Goals as goal

pub returns-in-Some : goal.returns-in-Some
returns-in-Some c = λ kept o at gone within.
    let below : c.args.index < length c.deref.result.now = grind (arith, common_steps) in
    dead_read _ _ _ _ _ _ _ o c.self.view_is c.deref.ensures.value c.word-dead.ensures below c.in-Some.ensures.lookup.1 kept at gone within

pub returns-in-None : goal.returns-in-None
returns-in-None c = λ t o at gone within.
    let past : length c.deref.result.now ≤ c.args.index = grind (arith, common_steps) in
    absurd (dead_missed _ _ _ _ o c.self.view_is c.deref.ensures.value past at within)
