-- When `compile` refuses. The order of work is that of tables: breadth first, letters in order.
use Rattle.std.specs.Prelude.{ℕ, ◌≡◌, ◌⊎◌, List, Ok, Err}
use Rattle.jm_model.specs.declared.fault.Counted.TheVariants.{Term}
use Rattle.jm_model.specs.declared.fault.SpecFault.{SpecFault}
use Rattle.jm_model.specs.declared.fault.SpecFault.TheVariants.{TooMany, TooManyStates}
use Rattle.jm_table.specs.Explorations.{IsExplored, IsMet, IsCrowded}
use Rattle.jm_ere.specs.Expressions.{Expression}
use Rattle.jm_ere.specs.NormalForms.{forms_of}

-- the work finds these normal forms, one for each state, and all are reached
abbrev pub FindsForms : Expression → ℕ → List Expression → Type 0
FindsForms e letters found = IsExplored (forms_of e) letters (Ok found)

-- the fault comes first in the work
abbrev pub FindsFault : Expression → ℕ → SpecFault → Type 0
FindsFault e letters fault = IsExplored (forms_of e) letters (Err fault)

-- by some word a form or a part of it is found that has more than 4,096 nodes, or 1,025 normal forms are found
abbrev pub IsCause : Expression → ℕ → SpecFault → Type 0
IsCause e letters fault =
    ((fault ≡ TooMany Term) × IsMet (forms_of e) letters fault)
    ⊎ ((fault ≡ TooManyStates) × IsCrowded (forms_of e) letters)
