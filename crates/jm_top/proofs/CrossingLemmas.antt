-- Threads may share a spec set.
use Rattle.std.proofs.Crossing.{crosses}
use Rattle.std.proofs.MapsCrossing.{crosses as maps}
use Rattle.jm_machine.proofs.CrossingLemmas.{rules_shared}
use Rattle.jm_inputs.specs.contracts.spec_set.SpecSet as SpecSet
use denote.Param.Send.{IsSync, sendable}

pub spec_set_shared : IsSync SpecSet.the_row
spec_set_shared = search (rules_shared, crosses, maps, sendable) depth 100 fits 20000
