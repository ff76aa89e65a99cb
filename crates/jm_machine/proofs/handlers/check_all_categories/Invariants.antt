use Rattle.std.proofs.Common.{◌≡◌, drop, map}
use Rattle.jm_spec.specs.Trees.{facts_of}
use Rattle.jm_machine.specs.Handlers.{categories_fault}
use Rattle.jm_machine.proofs.handlers.check_all_categories.Given as goal

abbrev pub invariant-loop-number : goal.invariant-loop-number
invariant-loop-number l =
    categories_fault l.bytes (map facts_of (drop l.number l.properties)) (drop l.number l.formulas) ≡ categories_fault l.bytes (map facts_of l.properties) l.formulas
