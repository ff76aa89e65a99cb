-- Moves that leave monitors at rest.
use Rattle.std.proofs.Common.{◌≡◌, ℕ, ◌+◌, ◌<◌, inl, inr, true, false, List, [], ◌∷◌, ◌++◌, length, get_or, take, sym, ap, ◌∙◌, subst, eqb}
use Rattle.std.specs.Prelude.{Contains, IsBitSet, ◌↔◌, None}
use Rattle.std.specs.Int.{bit_at}
use Rattle.std.proofs.lemmas.Bool.{eqb-true}
use Rattle.std.proofs.lemmas.List.{take_more}
use Rattle.std.proofs.lemmas.List.Elements.{Contains-push_cases}
use Rattle.std.proofs.lemmas.Nat.Bits.{bit_at-zero}
use Rattle.jm_model.specs.Meanings.{Meaning, IsHit}
use Rattle.jm_monitors.specs.Steps.{IsResting}
use Rattle.jm_store.specs.declared.moves.Move.{Move}
use Rattle.jm_store.proofs.ReportLemmas.{set_from_bit, bit_from_set}

-- what holds of some elements and of the next
pub each_more : {X : Type 0} (P : X → Type 0) (xs : List X) (i : ℕ) (x : X) → i < length xs → x ≡ get_or xs i x → ((y : X) → Contains (take i xs) y → P y) → P x → (y : X) → Contains (take (i + 1) xs) y → P y
each_more {X} P xs i x low is before here y there =
    elim (Contains-push_cases (take i xs) x y (subst (λ (l : List X). Contains l y) (take_more xs i x low ∙ ap (λ (z : X). take i xs ++ z ∷ []) (sym is)) there)) [
      | inl old ↦ before y old
      | inr same ↦ subst P same here
    ]

abbrev pub NoneStays : {S : Type 0} → List (Move S) → Type 0
NoneStays {S} moves = (move : Move S) → Contains moves move → move.stays ≡ false

abbrev pub AllRest : Meaning → {S : Type 0} → (S → List ℕ → Type 0) → ℕ → List (Move S) → Type 0
AllRest m {S} Stands letter moves = (move : Move S) → Contains moves move → move.stays ≡ true → IsResting m Stands letter move.monitor.state

abbrev pub AllSlotted : {S : Type 0} → List (Move S) → Type 0
AllSlotted {S} moves = (move : Move S) → Contains moves move → move.slot ≡ None → ⊥

pub all_slotted_more : {S : Type 0} (moves : List (Move S)) (i : ℕ) (move : Move S) → i < length moves → move ≡ get_or moves i move → AllSlotted (take i moves) → (move.slot ≡ None → ⊥) → AllSlotted (take (i + 1) moves)
all_slotted_more {S} moves i move low is before here = each_more (λ (x : Move S). x.slot ≡ None → ⊥) moves i move low is before here

pub none_stays_more : {S : Type 0} (moves : List (Move S)) (i : ℕ) (move : Move S) → i < length moves → move ≡ get_or moves i move → NoneStays (take i moves) → move.stays ≡ false → NoneStays (take (i + 1) moves)
none_stays_more {S} moves i move low is before here = each_more (λ (x : Move S). x.stays ≡ false) moves i move low is before here

pub all_rest_more : (m : Meaning) {S : Type 0} (Stands : S → List ℕ → Type 0) (letter : ℕ) (moves : List (Move S)) (i : ℕ) (move : Move S) → i < length moves → move ≡ get_or moves i move
    → AllRest m Stands letter (take i moves) → (move.stays ≡ true → IsResting m Stands letter move.monitor.state) → AllRest m Stands letter (take (i + 1) moves)
all_rest_more m {S} Stands letter moves i move low is before here = each_more (λ (x : Move S). x.stays ≡ true → IsResting m Stands letter x.monitor.state) moves i move low is before here

pub rest_from : (m : Meaning) {S : Type 0} (Stands : S → List ℕ → Type 0) (letter hits idle : ℕ) (state : S)
    → ((w : List ℕ) → Stands state w → (k : ℕ) → IsBitSet hits k ↔ IsHit m w k) → ((w : List ℕ) → Stands state w → (e : ℕ) → IsBitSet idle e → Stands state (w ++ e ∷ []))
    → hits ≡ 0 → eqb (bit_at idle letter) 1 ≡ true → IsResting m Stands letter state
rest_from m Stands letter hits idle state hit stays none bit = record {
  stays = λ w stands. stays w stands letter (set_from_bit idle letter (eqb-true (bit_at idle letter) 1 bit));
  quiet = λ w stands k is. let set' : bit_at hits k ≡ 1 = bit_from_set hits k ((hit w stands k).1 is) in
      let zero : bit_at hits k ≡ 0 = ap (λ (n : ℕ). bit_at n k) none ∙ bit_at-zero k in cc;
}
