-- What an event makes of one stored monitor.
use Rattle.std.proofs.Common.{◌≡◌, ℕ, inl, inr, Bool, true, false, List, [], ◌∷◌, ◌++◌, refl, sym, subst}
use Rattle.std.specs.Prelude.{Option, Some, None, Contains}
use Rattle.std.proofs.lemmas.Bool.{both_ways}
use Rattle.jm_model.specs.Bindings.{is_below, is_compatible, join}
use Rattle.jm_model.specs.Meanings.{Meaning, IsHit, IsCutWord}
use Rattle.jm_model.specs.declared.binding.Binding.{Binding}
use Rattle.jm_marks.specs.Marks.{dead_mask_of, IsCovered}
use Rattle.jm_monitors.specs.declared.stored.Stored.{Stored}
use Rattle.jm_store.specs.declared.moves.Move.{Move}
use Rattle.jm_store.specs.Moves.{IsNext, IsAdvanced, IsMoved, IsLeft}

pub advanced_next : (m : Meaning) {S : Type 0} (Stands : S → List ℕ → Type 0) (letter : ℕ) (dead : List Bool) (k : Option ℕ) (t : Binding) (base state : S) (stays : Bool) → IsNext m Stands letter dead t base state stays
    → IsAdvanced m Stands letter dead k t base (record { slot = k; monitor = record { instance = t; state = state }; stays = stays })
advanced_next m Stands letter dead k t base state stays next = record { slot = refl; instance = refl; next = next.next; alive = next.alive; cut = next.cut }

module _ (m : Meaning) {S : Type 0} (Stands : S → List ℕ → Type 0) (letter : ℕ) (b : Binding) (dead : List Bool) (marks : List Binding) where
  -- the binding is a mark, and isn't below
  pub left_known : (s : Stored S) → is_below b s.instance ≡ false → Contains marks b → IsLeft m Stands letter b dead marks s
  left_known s apart known = inl (λ base. elim base.1 [ inl below ↦ both_ways (is_below b s.instance) apart below | inr new ↦ new.0 known ])

  pub left_uncovered : (s : Stored S) (t : Binding) → t ≡ join s.instance b → is_below b s.instance ≡ false → (IsCovered marks t s.instance → ⊥) → IsLeft m Stands letter b dead marks s
  left_uncovered s t is apart open' =
      inl (λ base. elim base.1 [
        | inl below ↦ both_ways (is_below b s.instance) apart below
        | inr new ↦ open' (subst (λ (u : Binding). IsCovered marks u s.instance) (sym is) new.2)
      ])

  pub left_lost : (s : Stored S) (t : Binding) (move : Move S) → t ≡ join s.instance b → is_below b s.instance ≡ false → IsAdvanced m Stands letter dead None t s.state move → move.stays ≡ false
      → ((w : List ℕ) → Stands move.monitor.state w → (k : ℕ) → IsHit m w k → ⊥) → IsLeft m Stands letter b dead marks s
  left_lost s t move is apart advanced goes quiet =
      inr (apart, λ w stands. let after = advanced.next w stands in (quiet (w ++ letter ∷ []) after, subst (λ (u : Binding). IsCutWord m (w ++ letter ∷ []) (dead_mask_of dead u)) is (advanced.cut goes (w ++ letter ∷ []) after)))

  pub moved_above : (k : ℕ) (s : Stored S) (t : Binding) (move : Move S) → t ≡ join s.instance b → is_compatible s.instance b ≡ true → is_below b s.instance ≡ true
      → IsAdvanced m Stands letter dead (Some k) t s.state move → IsMoved m Stands letter b dead marks k s move
  moved_above k s t move is compatible below advanced = record {
    is_base = (compatible, inl below);
    advanced = rw below (subst (λ (u : Binding). IsAdvanced m Stands letter dead (Some k) u s.state move) is advanced);
  }

  pub moved_made : (k : ℕ) (s : Stored S) (t : Binding) (move : Move S) → t ≡ join s.instance b → is_compatible s.instance b ≡ true → is_below b s.instance ≡ false → (Contains marks b → ⊥) → IsCovered marks t s.instance
      → IsAdvanced m Stands letter dead None t s.state move → IsMoved m Stands letter b dead marks k s move
  moved_made k s t move is compatible apart unknown covered advanced = record {
    is_base = (compatible, inr (unknown, apart, subst (λ (u : Binding). IsCovered marks u s.instance) is covered));
    advanced = rw apart (subst (λ (u : Binding). IsAdvanced m Stands letter dead None u s.state move) is advanced);
  }
