-- What a reader of formulas answers, in whichever logic.
use Rattle.std.specs.Prelude.{◌≡◌, Bool, true, false, Option, Some, None, Result, Ok}
use Rattle.jm_model.specs.declared.fault.Counted.TheVariants.{Nesting}
use Rattle.jm_model.specs.declared.fault.SpecError.{SpecError}
use Rattle.jm_model.specs.declared.fault.SpecError.TheVariants.{Bad, NoMemory}
use Rattle.jm_model.specs.declared.fault.SpecFault.{SpecFault}
use Rattle.jm_model.specs.declared.fault.SpecFault.TheVariants.{Syntax, TooMany}

-- over what is spelled and the fault that it has first
module _ {X : Type 0} (IsSpelled : X → Type 0) (first : X → Option SpecFault) where
  -- a formula without a fault is spelled, which says this
  abbrev pub IsReadBy : {Y : Type 0} → (X → Result Y SpecFault) → Y → Type 0
  IsReadBy says y = (x : X) × IsSpelled x × (first x ≡ None) × (says x ≡ Ok y)

  -- no formula is spelled, or one with this first fault, unless memory is short
  abbrev pub IsRefusedBy : SpecError → Type 0
  IsRefusedBy NoMemory = Unit {0}
  IsRefusedBy (Bad (Syntax line)) = (x : X) → IsSpelled x → ⊥
  IsRefusedBy (Bad fault) = (x : X) × IsSpelled x × (first x ≡ Some fault)

  -- where the nesting is looked at first, it is not too deep, and a formula is read,
  abbrev pub IsReadWithin : {Y : Type 0} → Bool → (X → Result Y SpecFault) → Y → Type 0
  IsReadWithin deep says y = (deep ≡ false) × IsReadBy says y

  -- or it is too deep, or else the formula is refused.
  abbrev pub IsRefusedWithin : Bool → SpecError → Type 0
  IsRefusedWithin deep NoMemory = Unit {0}
  IsRefusedWithin deep (Bad (TooMany Nesting)) = deep ≡ true
  IsRefusedWithin deep (Bad fault) = (deep ≡ false) × IsRefusedBy (Bad fault)
