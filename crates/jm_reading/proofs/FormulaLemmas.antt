-- A reading of a formula is one: no two values, and never both a value and a fault.
use Rattle.std.proofs.Common.{◌≡◌, Bool, false, Option, Some, None, Result, Ok, sym, ap, subst, ◌∙◌}
use Rattle.std.proofs.lemmas.Bool.{false≢true}
use Rattle.jm_model.specs.declared.fault.Counted.TheVariants.{Nesting}
use Rattle.jm_model.specs.declared.fault.SpecError.{SpecError}
use Rattle.jm_model.specs.declared.fault.SpecError.TheVariants.{Bad, NoMemory}
use Rattle.jm_model.specs.declared.fault.SpecFault.{SpecFault}
use Rattle.jm_model.specs.declared.fault.SpecFault.TheVariants.{Syntax, TooMany}
use Rattle.jm_reading.specs.Faults.{Refuses}
use Rattle.jm_reading.specs.Formulas.{IsReadBy, IsRefusedBy, IsReadWithin, IsRefusedWithin}
use Rattle.jm_reading.proofs.ReadLemmas.{IsOther}

same_ok : {Y : Type 0} {y z : Y} → ◌≡◌ {A = Result Y SpecFault} (Ok y) (Ok z) → y ≡ z
same_ok e = cc

never_some : {fault : SpecFault} → None ≡ Some fault → ⊥
never_some e = cc

module _ {X : Type 0} (IsSpelled : X → Type 0) (first : X → Option SpecFault) where
  -- what is spelled is refused with its fault, which is neither of the grammar nor of parentheses
  module _ (x : X) (spelled : IsSpelled x) (other : IsOther (first x)) where
    pub refused_by : (e : SpecError) → Refuses (first x) e → IsRefusedBy IsSpelled first e
    refused_by NoMemory h = tt
    refused_by (Bad (Syntax line)) h = absurd (subst IsOther h other)
    refused_by (Bad _) h = (x, spelled, h)

    pub refused_within : (deep : Bool) → deep ≡ false → (e : SpecError) → Refuses (first x) e → IsRefusedWithin IsSpelled first deep e
    refused_within deep shallow NoMemory h = tt
    refused_within deep shallow (Bad (Syntax line)) h = absurd (subst IsOther h other)
    refused_within deep shallow (Bad (TooMany Nesting)) h = absurd (subst IsOther h other)
    refused_within deep shallow (Bad _) h = (shallow, (x, spelled, h))

  module _ (one : (x y : X) → IsSpelled x → IsSpelled y → x ≡ y) where
    -- nothing is refused where something without a fault is spelled
    pub never_refused : (x : X) → IsSpelled x → first x ≡ None → (fault : SpecFault) → IsRefusedBy IsSpelled first (Bad fault) → ⊥
    never_refused x spelled none (Syntax line) h = h x spelled
    never_refused x spelled none _ h = never_some (sym none ∙ ap first (one x h.0 spelled h.1) ∙ h.2)

    module _ {Y : Type 0} (says : X → Result Y SpecFault) where
      pub one_read : (y z : Y) → IsReadBy IsSpelled first says y → IsReadBy IsSpelled first says z → y ≡ z
      one_read y z h k = same_ok (sym h.3 ∙ ap says (one h.0 k.0 h.1 k.1) ∙ k.3)

      pub never_both : (y : Y) (fault : SpecFault) → IsReadBy IsSpelled first says y → IsRefusedBy IsSpelled first (Bad fault) → ⊥
      never_both y fault h k = never_refused h.0 h.1 h.2 fault k

      -- the same where the nesting is looked at first
      module _ (deep : Bool) where
        pub one_within : (y z : Y) → IsReadWithin IsSpelled first deep says y → IsReadWithin IsSpelled first deep says z → y ≡ z
        one_within y z h k = one_read y z h.1 k.1

        pub never_both_within : (y : Y) (fault : SpecFault) → IsReadWithin IsSpelled first deep says y → IsRefusedWithin IsSpelled first deep (Bad fault) → ⊥
        never_both_within y (TooMany Nesting) h k = false≢true (sym h.0 ∙ k)
        never_both_within y fault h k = never_both y fault h.1 k.1
