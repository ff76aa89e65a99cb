use Rattle.std.proofs.Common.{◌<◌, ◌≤◌, ◌/◌, length, arith}
use Rattle.std.proofs.lemmas.Grind.{common_steps}
use Rattle.jm_index.proofs.FlagLemmas.{flag_read, flag_missed}
use Rattle.jm_index.proofs.flags.Flags.is_set.Goals as goal

pub returns-in-Some : goal.returns-in-Some
returns-in-Some c =
    let below : c.args.object / 64 < length c.deref.result.now = grind (arith, common_steps) in
    flag_read _ _ _ _ _ c.self.view_is c.deref.ensures.value below c.in-Some.ensures.lookup.1

pub returns-in-None : goal.returns-in-None
returns-in-None c =
    let past : length c.deref.result.now ≤ c.args.object / 64 = grind (arith, common_steps) in
    flag_missed _ _ _ _ c.self.view_is c.deref.ensures.value past
