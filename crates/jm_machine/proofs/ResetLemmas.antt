-- Which handlers reset the property.
use Rattle.std.proofs.Common.{◌≡◌, ℕ, zero, suc, ◌⊎◌, inl, inr, List, [], ◌∷◌, Option, Some, None, length, refl, ◌∙◌, ap}
use Rattle.std.specs.Prelude.{IsBitSet, IsSomeAnd, ◌↔◌, Bool, true, false, ◌||◌, codes, slice_get, slice_range, if◌then◌else◌}
use Rattle.std.specs.List.{range_with_len}
use Rattle.std.specs.Option.{option_map_or}
use Rattle.std.proofs.lemmas.Bool.{false≢true}
use Rattle.std.proofs.lemmas.List.{length-map}
use Rattle.std.proofs.lemmas.List.Elements.{filter_agree}
use Rattle.jm_model.specs.declared.fault.SpecFault.{SpecFault}
use Rattle.jm_model.specs.declared.fault.SpecFault.TheVariants.{ResetWithFullBinding}
use Rattle.jm_text.specs.declared.token.Token.{Token}
use Rattle.jm_text.specs.Texts.{is_word}
use Rattle.jm_reading.specs.Tokens.{name_of}
use Rattle.jm_reading.specs.Faults.{or_else}
use Rattle.jm_spec.specs.declared.property.HandlerText.{HandlerText}
use Rattle.jm_machine.specs.Handlers.{handler_names, reset_in, reset_fault, binding_fault, has_reset, is_resetting, resetting_handlers}
use Rattle.jm_machine.specs.CompiledProperties.{has_bit, numbers_of}
use Rattle.jm_machine.proofs.OptionLemmas.{same_bool}
use Rattle.jm_machine.proofs.GoalLemmas.{bit_test, no_bits}

first_none : (a b : Option SpecFault) → or_else a b ≡ None → a ≡ None
first_none None b e = refl
first_none (Some fault) b e = absurd cc

next_none : (a b : Option SpecFault) → or_else a b ≡ None → b ≡ None
next_none None b e = e
next_none (Some fault) b e = absurd cc

-- ---- blocks without the word

no_word : (bytes : List ℕ) (block : List Token) → reset_in bytes block ≡ None → has_reset bytes block ≡ true → ⊥
no_word bytes [] none has = false≢true has
no_word bytes (t ∷ ts) none has = by_case (is_word bytes t (codes "__RESET")) (λ later more. no_word bytes ts later more) none has
  where
    by_case : (b : Bool) → (reset_in bytes ts ≡ None → has_reset bytes ts ≡ true → ⊥) → (if b then Some (ResetWithFullBinding t.line) else reset_in bytes ts) ≡ None → (b || has_reset bytes ts) ≡ true → ⊥
    by_case true later none has = absurd cc
    by_case false later none has = later none has

no_reset : (bytes : List ℕ) (tokens : List Token) (hs : List HandlerText) → reset_fault bytes tokens hs ≡ None → (k : ℕ) → IsSomeAnd (slice_get hs k) (λ h. has_reset bytes (slice_range tokens h.first h.last) ≡ true) → ⊥
no_reset bytes tokens [] none k h = absurd h
no_reset bytes tokens (x ∷ hs) none zero h = no_word bytes (slice_range tokens x.first x.last) (first_none (reset_in bytes (slice_range tokens x.first x.last)) (reset_fault bytes tokens hs) none) h
no_reset bytes tokens (x ∷ hs) none (suc k) h = no_reset bytes tokens hs (next_none (reset_in bytes (slice_range tokens x.first x.last)) (reset_fault bytes tokens hs) none) k h

-- ---- the handlers that reset

module _ (bytes : List ℕ) (tokens : List Token) (hs : List HandlerText) (resets : ℕ) where
  abbrev pub ResetsAt : HandlerText → Type 0
  ResetsAt h = has_reset bytes (slice_range tokens h.first h.last) ≡ true

  module _ (bits : (k : ℕ) → IsBitSet resets k ↔ IsSomeAnd (slice_get hs k) ResetsAt) where
    reset_test : (o : Option HandlerText) → (option_map_or (λ (h : HandlerText). has_reset bytes (slice_range tokens h.first h.last)) o false ≡ true) ↔ IsSomeAnd o ResetsAt
    reset_test None = (λ h. absurd (false≢true h), λ h. absurd h)
    reset_test (Some x) = (λ h. h, λ h. h)

    pub same_resets : (names : List (List ℕ)) → names ≡ handler_names bytes hs → numbers_of resets (length names) ≡ resetting_handlers bytes tokens hs
    same_resets names named =
        ap (numbers_of resets) (ap length named ∙ length-map hs (λ (h : HandlerText). name_of bytes h.category))
        ∙ filter_agree (has_bit resets) (is_resetting bytes tokens hs)
        (λ k.
        let bit = bit_test resets k in
        let test = reset_test (slice_get hs k) in
        let says = bits k in
        same_bool (has_bit resets k) (is_resetting bytes tokens hs k) (λ h. test.1 (says.0 (bit.0 h))) (λ h. bit.1 (says.1 (test.0 h))))
        (range_with_len 0 (length hs))

    -- where the specification is for full bindings alone, and that is no fault, no handler resets
    pub resets_apart : (full : Bool) → binding_fault bytes full tokens hs ≡ None → (resets ≡ 0) ⊎ (full ≡ false)
    resets_apart false none = inr refl
    resets_apart true none = inl (no_bits resets (λ k set. no_reset bytes tokens hs none k ((bits k).0 set)))
