use Rattle.std.proofs.Common.{◌≡◌, ◌<◌, ◌≤◌, ℕ, Bool, true, false, List, [], ◌∷◌, Option, Some, None, length, map, refl, arith}
use Rattle.std.specs.Prelude.{nat_lt, if◌then◌else◌}
use Rattle.std.proofs.lemmas.Bool.{ltb-false}
use Rattle.std.proofs.lemmas.List.{length-map}
use Rattle.jm_model.specs.declared.fault.Counted.TheVariants.{Properties}
use Rattle.jm_model.specs.declared.fault.SpecFault.{SpecFault}
use Rattle.jm_model.specs.declared.fault.SpecFault.TheVariants.{TooMany}
use Rattle.jm_reading.specs.Faults.{or_else}
use Rattle.jm_spec.specs.declared.property.Property.{Property}
use Rattle.jm_spec.specs.declared.frame.Frame.{Frame}
use Rattle.jm_spec.specs.Faults.{modifier_fault, advice_fault, property_fault, frame_fault}
use Rattle.jm_spec.specs.Trees.{PropertyFacts, TellsProperties, facts_of}
use Rattle.jm_machine.proofs.laws.few_properties.Goals as goal

none_of : (a b : Option SpecFault) → or_else a b ≡ None → (a ≡ None) × (b ≡ None)
none_of None b none = (refl, none)
none_of (Some fault) b none = absurd cc

no_fault : (bytes : List ℕ) (frame : Frame) → frame_fault bytes frame ≡ None → property_fault frame.properties ≡ None
unfolding frame_fault
no_fault bytes frame none =
    let later = none_of (modifier_fault frame.modifiers) _ none in
    let last = none_of (advice_fault frame.events) _ later.1 in
    (none_of (property_fault frame.properties) _ last.1).0

few : (ps : List Property) → property_fault ps ≡ None → (0 < length ps) × (length ps ≤ 16)
few [] none = absurd cc
few (p ∷ ps) none = (omega arith, by_case (nat_lt 16 (length (p ∷ ps))) refl none)
  where
    by_case : (many : Bool) → nat_lt 16 (length (p ∷ ps)) ≡ many → (if many then Some (TooMany Properties) else None) ≡ None
        → length (p ∷ ps) ≤ 16
    by_case true is none = absurd cc
    by_case false is none = ltb-false 16 (length (p ∷ ps)) is

as_many : (bytes : List ℕ) (ps : List Property) (facts : List PropertyFacts) → TellsProperties bytes ps facts
    → length facts ≡ length ps
as_many bytes [] [] told = refl
as_many bytes (p ∷ ps) (f ∷ facts) told = let more = as_many bytes ps facts told.1 in omega (arith, more)
as_many bytes [] (f ∷ facts) told = absurd told
as_many bytes (p ∷ ps) [] told = absurd told

pub returns : goal.returns
returns c = λ bytes tokens tree h.
    let frame = h.0 in
    let said = few frame.properties (no_fault bytes frame h.2) in
    let told = as_many bytes frame.properties (map facts_of tree.properties.items) h.3.properties in
    let many = length-map tree.properties.items facts_of in
    (omega (arith, said, told, many), omega (arith, said, told, many))
