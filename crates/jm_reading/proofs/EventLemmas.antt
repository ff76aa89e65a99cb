-- The names of the events, one after the other.
use Rattle.std.proofs.Common.{ℕ, zero, suc, ◌≡◌, Bool, true, false, List, [], ◌∷◌, Some, map, drop, slice_get, option_map, refl, ap, ◌∙◌}
use Rattle.jm_model.specs.declared.fault.SpecFault.TheVariants.{ReservedName}
use Rattle.jm_events.specs.Events.{EventDefinition}
use Rattle.jm_reading.specs.Events.{reserved_event_fault}

module _ (is_word : List ℕ → Bool) where
  first_bad : (e : EventDefinition) (es : List EventDefinition) (name : List ℕ) (line : ℕ) → e.name ≡ name → e.line ≡ line → is_word name ≡ true → reserved_event_fault is_word (e ∷ es) ≡ Some (ReservedName line)
  first_bad e es name line n l h = let k : is_word e.name ≡ true = ap is_word n ∙ h in rw k (ap (λ x. Some (ReservedName x)) l)

  first_good : (e : EventDefinition) (es : List EventDefinition) (name : List ℕ) → e.name ≡ name → is_word name ≡ false → reserved_event_fault is_word es ≡ reserved_event_fault is_word (e ∷ es)
  first_good e es name n h = let k : is_word e.name ≡ false = ap is_word n ∙ h in rw k refl

  -- an event is named by a word of the grammar
  pub bad_event : (events : List EventDefinition) (k : ℕ) (name : List ℕ) (line : ℕ) → slice_get (map (λ (e : EventDefinition). e.name) events) k ≡ Some name → option_map (λ (e : EventDefinition). e.line) (slice_get events k) ≡ Some line → is_word name ≡ true → reserved_event_fault is_word (drop k events) ≡ Some (ReservedName line)
  bad_event [] k name line at l h = absurd (cc)
  bad_event (e ∷ es) zero name line at l h = first_bad e es name line (cc) (cc) h
  bad_event (e ∷ es) (suc k) name line at l h = bad_event es k name line at l h

  -- an event isn't
  pub good_event : (events : List EventDefinition) (k : ℕ) (name : List ℕ) → slice_get (map (λ (e : EventDefinition). e.name) events) k ≡ Some name → is_word name ≡ false → reserved_event_fault is_word (drop (suc k) events) ≡ reserved_event_fault is_word (drop k events)
  good_event [] k name at h = absurd (cc)
  good_event (e ∷ es) zero name at h = first_good e es name (cc) h
  good_event (e ∷ es) (suc k) name at h = good_event es k name at h
