-- Which of several properties' faults comes first, where each step is done for all properties before the next.
use Rattle.std.specs.Prelude.{ℕ, ◌≡◌, ◌<◌, ◌≤◌, ◌⊎◌, List, Some, slice_get}
use Rattle.jm_model.specs.declared.fault.Counted.{Counted}
use Rattle.jm_model.specs.declared.fault.Counted.TheVariants.{Nesting}
use Rattle.jm_model.specs.declared.fault.SpecFault.{SpecFault}
use Rattle.jm_model.specs.declared.fault.SpecFault.TheVariants.{TooMany, Syntax, ReservedName, NameClash, DuplicateState, DuplicateTransition, TooManyStates}

-- the number of the step in which a reader of formulas finds a fault: the nesting, the grammar, the counts, reserved
-- names and clashes, what is declared twice, the number of states, unknown names
abbrev pub counted_step : Counted → ℕ
counted_step Nesting = 0
counted_step _ = 2

abbrev pub step_of_fault : SpecFault → ℕ
step_of_fault (TooMany what) = counted_step what
step_of_fault (Syntax line) = 1
step_of_fault (ReservedName line) = 3
step_of_fault (NameClash line) = 3
step_of_fault (DuplicateState line) = 4
step_of_fault (DuplicateTransition line) = 4
step_of_fault TooManyStates = 5
step_of_fault _ = 6

-- over what is refused with a fault
module _ {P : Type 0} (IsRefused : P → SpecFault → Type 0) where
  -- the fault of the first property, in the first step in which any has one
  pub record IsFirstRefusal (ps : List P) (fault : SpecFault) : Type 0 where
    pub number : ℕ
    pub property : P
    pub there : slice_get ps number ≡ Some property
    pub refused : IsRefused property fault
    pub first : (i : ℕ) (q : P) (other : SpecFault) → slice_get ps i ≡ Some q → IsRefused q other
        → (step_of_fault fault < step_of_fault other)
        ⊎ ((step_of_fault fault ≡ step_of_fault other) × (number ≤ i))
