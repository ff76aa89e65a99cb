-- Faults of a formula that was read, one step after the other.
use Rattle.std.specs.Prelude.{◌≡◌, List, [], ◌∷◌, Option, Some, None, Result, Ok, Err}
use Rattle.jm_model.specs.declared.fault.SpecError.{SpecError}
use Rattle.jm_model.specs.declared.fault.SpecError.TheVariants.{Bad, NoMemory}
use Rattle.jm_model.specs.declared.fault.SpecFault.{SpecFault}

-- the fault of a step, else that of the next
abbrev pub or_else : Option SpecFault → Option SpecFault → Option SpecFault
or_else (Some fault) next = Some fault
or_else None next = next

-- a value, or the fault that comes first, and then more
infixl 10 ◌>>>◌
abbrev pub ◌>>>◌ : {A B : Type 0} → Result A SpecFault → (A → Result B SpecFault) → Result B SpecFault
(Ok x) >>> f = f x
(Err fault) >>> f = Err fault

-- what a value becomes as the items of a list are added to it one after the other, or the first fault
module _ {A B : Type 0} (with_one : B → A → Result B SpecFault) where
  abbrev pub with_each : B → List A → Result B SpecFault
  with_each b [] = Ok b
  with_each b (x ∷ xs) = with_one b x >>> λ more. with_each more xs

-- the fault in the place of a value, if there is one
abbrev pub fault_of : {X : Type 0} → Result X SpecFault → Option SpecFault
fault_of (Ok x) = None
fault_of (Err fault) = Some fault

-- a call refuses with the fault, if there is one, unless memory is short
abbrev pub Refuses : Option SpecFault → SpecError → Type 0
Refuses fault NoMemory = Unit {0}
Refuses fault (Bad f) = fault ≡ Some f

-- it answers where there is no fault
abbrev pub Checks : {X : Type 0} → Result X SpecError → Option SpecFault → Type 0
Checks (Ok x) fault = fault ≡ None
Checks (Err e) fault = Refuses fault e

-- it makes this, or refuses with its fault
abbrev pub Makes : {X Y : Type 0} → Result X SpecError → Y → Result Y SpecFault → Type 0
Makes (Ok x) new made = made ≡ Ok new
Makes (Err NoMemory) new made = Unit {0}
Makes (Err (Bad f)) new made = made ≡ Err f

-- it answers what was made, or refuses with its fault
abbrev pub Answers : {Y : Type 0} → Result Y SpecError → Result Y SpecFault → Type 0
Answers (Ok y) made = made ≡ Ok y
Answers (Err NoMemory) made = Unit {0}
Answers (Err (Bad f)) made = made ≡ Err f
