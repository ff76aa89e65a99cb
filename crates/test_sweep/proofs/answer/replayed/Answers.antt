use Rattle.std.proofs.Crossing.{crosses}
use denote.Param.Send.{sendable}
use Rattle.jm_machine.proofs.CrossingLemmas.{rules_shared}
use Rattle.test_sweep.proofs.answer.replayed.Goals as goal

pub swept-requires-sync-M : goal.swept-requires-sync-M
swept-requires-sync-M g c κs within = search (rules_shared, crosses, sendable) depth 100 fits 20000
