-- Some monitors of many were dropped, slot by slot.
use Rattle.std.proofs.Common.{◌≡◌, ℕ, zero, suc, ◌+◌, ◌<◌, inl, inr, Bool, List, [], ◌∷◌, length, get_or, refl, sym, ap, ◌∙◌, subst, arith}
use Rattle.std.specs.Prelude.{Option, Some, None, slice_set}
use Rattle.std.proofs.lemmas.Bool.{cases_eq}
use Rattle.std.proofs.lemmas.List.{get_or-set_same, get_or-set_other}
use Rattle.std.proofs.lemmas.Option.{none-some}
use Rattle.jm_model.specs.Meanings.{Meaning}
use Rattle.jm_awake.specs.Awake.{Lists, Occupants, with_slot, AreSoundBut, AreStill}
use Rattle.jm_monitors.specs.declared.stored.Stored.{Stored}
use Rattle.jm_store.specs.Slots.{monitor_at}
use Rattle.jm_store.specs.Moves.{IsSwept}
use Rattle.jm_store.specs.Contents.{Contents, IsCutDown}
use Rattle.jm_store.specs.Listed.{AreListed, AreLeftOf}
use Rattle.jm_store.proofs.ListedLemmas.{listed_drop, listed_same}

-- the first of some from one list, the others from another
abbrev pub blend : {X : Type 0} → List X → List X → ℕ → List X
blend new old zero = old
blend [] old (suc i) = old
blend (x ∷ new) [] (suc i) = []
blend (x ∷ new) (y ∷ old) (suc i) = x ∷ blend new old i

pub length-blend : {X : Type 0} (new old : List X) (i : ℕ) → length (blend new old i) ≡ length old
length-blend new old zero = refl
length-blend [] old (suc i) = refl
length-blend (x ∷ new) [] (suc i) = refl
length-blend (x ∷ new) (y ∷ old) (suc i) = ap suc (length-blend new old i)

pub blend_next : {X : Type 0} (new old : List X) (i : ℕ) (d : X) → i < length old → length new ≡ length old → blend new old (suc i) ≡ slice_set (blend new old i) i (get_or new i d)
blend_next new [] i d low size = absurd (omega (arith, low))
blend_next [] (y ∷ old) i d low size = absurd (omega (arith, size))
blend_next (x ∷ new) (y ∷ old) zero d low size = refl
blend_next (x ∷ new) (y ∷ old) (suc i) d low size = ap (λ l. x ∷ l) (blend_next new old i d (omega (arith, low)) (omega (arith, size)))

pub blend_here : {X : Type 0} (new old : List X) (i : ℕ) (d : X) → get_or (blend new old i) i d ≡ get_or old i d
blend_here new old zero d = refl
blend_here [] old (suc i) d = refl
blend_here (x ∷ new) [] (suc i) d = refl
blend_here (x ∷ new) (y ∷ old) (suc i) d = blend_here new old i d

pub blend_full : {X : Type 0} (new old : List X) → length new ≡ length old → blend new old (length old) ≡ new
blend_full [] [] size = refl
blend_full (x ∷ new) [] size = absurd (omega (arith, size))
blend_full [] (y ∷ old) size = absurd (omega (arith, size))
blend_full (x ∷ new) (y ∷ old) size = ap (λ l. x ∷ l) (blend_full new old (omega (arith, size)))

module _ (m : Meaning) {S : Type 0} (Stands : S → List ℕ → Type 0) (dead : List Bool) (before after : List (Option (Stored S))) (left : AreLeftOf before after) (i : ℕ) (low : i < length after) where
  low_before : i < length before
  low_before = let size = left.size in omega (arith, low, size)

  -- a slot without a monitor leaves the lists
  pub settled_none : (old new : Lists) → monitor_at after i ≡ None → ((q : Option ℕ) (o : Occupants) → AreSoundBut q o old → AreSoundBut q (with_slot o i None) new) → AreStill (Some i) old new
      → AreListed m Stands dead (blend after before i) old → AreListed m Stands dead (blend after before (i + 1)) new
  settled_none old new none leaves still listed =
      let size = length-blend after before i in
      let next : blend after before (i + 1) ≡ slice_set (blend after before i) i None =
      ap (blend after before) (add_one i) ∙ blend_next after before i None low_before left.size ∙ ap (slice_set (blend after before i) i) none in
      subst (λ (l : List (Option (Stored S))). AreListed m Stands dead l new) (sym next)
      (listed_drop m Stands dead (blend after before i) old new i (omega (arith, size, low_before)) leaves still listed)
    where
      add_one : (n : ℕ) → n + 1 ≡ suc n
      add_one n = omega arith

  -- one with a monitor has it still
  pub settled_some : (lists : Lists) (s : Stored S) → monitor_at after i ≡ Some s → AreListed m Stands dead (blend after before i) lists → AreListed m Stands dead (blend after before (i + 1)) lists
  settled_some lists s some listed =
      let size = length-blend after before i in
      let here : monitor_at (blend after before i) i ≡ Some s = blend_here after before i None ∙ left.each i s some in
      let next : blend after before (i + 1) ≡ slice_set (blend after before i) i (Some s) =
      ap (blend after before) (add_one i) ∙ blend_next after before i None low_before left.size ∙ ap (slice_set (blend after before i) i) some in
      listed_same m Stands dead None (blend after before i) (blend after before (i + 1)) lists (λ k. elim (cases_eq k i) [
        | inl same ↦
            ap (λ (l : List (Option (Stored S))). monitor_at l k) next ∙ ap (monitor_at (slice_set (blend after before i) i (Some s))) same
            ∙ get_or-set_same (blend after before i) i (Some s) None (omega (arith, size, low_before)) ∙ sym here ∙ sym (ap (monitor_at (blend after before i)) same)
        | inr other ↦ ap (λ (l : List (Option (Stored S))). monitor_at l k) next ∙ get_or-set_other (blend after before i) i k (Some s) None other
      ]) listed
    where
      add_one : (n : ℕ) → n + 1 ≡ suc n
      add_one n = omega arith

-- what a pass leaves
pub left_down : (m : Meaning) {S : Type 0} (Stands : S → List ℕ → Type 0) (dead : List Bool) (old new : Contents S) → IsCutDown m Stands dead old new → AreLeftOf old.monitors new.monitors
left_down m {S} Stands dead old new down = record {
  size = down.size;
  each = λ k s at. elim (down.each k) [
    | inl same ↦ sym same ∙ at
    | inr swept ↦ by (monitor_at old.monitors k) (monitor_at new.monitors k) swept s at
  ];
}
  where
    by : (x y : Option (Stored S)) → IsSwept m Stands dead x y → (s : Stored S) → y ≡ Some s → x ≡ Some s
    by None y swept s at = absurd (none-some s (sym swept ∙ at))
    by (Some r) None swept s at = absurd (none-some s at)
    by (Some r) (Some t) swept s at = ap (λ (v : Stored S). Some v) (sym swept.0) ∙ at
