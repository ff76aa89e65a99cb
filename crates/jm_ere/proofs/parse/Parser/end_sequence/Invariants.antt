use Rattle.std.proofs.Common.{◌≡◌}
use Rattle.jm_ere.specs.Rules.{complements, with_nodes}
use Rattle.jm_ere.proofs.parse.Parser.end_sequence.Given as goal

abbrev pub invariant-loop : goal.invariant-loop
invariant-loop l = l.self ≡ with_nodes l.initial.self (complements l.counter)
