-- What the states of a table say of the words that lead to them.
use Rattle.std.proofs.Common.{◌≡◌, ℕ, ◌*◌, ◌^◌, ◌<◌, List, [], ◌∷◌, ◌++◌, true, false, refl, sym, ◌∙◌, ap, subst, inl, inr, arith}
use Rattle.std.specs.Prelude.{◌↔◌, IsBitSet, slice_index}
use Rattle.std.specs.Int.{bit_at}
use Rattle.std.proofs.lemmas.Bool.{cases_lt}
use Rattle.std.proofs.lemmas.Nat.Bits.{and_pow, bit_at-lt, bit_at_above}
use mathlib.Core.Bool.{true≢false}
use Rattle.jm_model.specs.Meanings.{IsHit}
use Rattle.testkit_monitor.specs.Tables.{Table, next_state, state_from, has_letter, table_meaning}

bit_from_set : (n k : ℕ) → IsBitSet n k → bit_at n k ≡ 1
bit_from_set n k h =
    elim (cases_lt (bit_at n k) 1) [
      | inl low ↦
          let none : bit_at n k ≡ 0 = omega arith in
          absurd (h (and_pow n k ∙ ap (λ (b : ℕ). b * 2 ^ k) none ∙ zero-mul' (2 ^ k)))
      | inr high ↦ omega (arith, bit_at-lt n k)
    ]
  where
    zero-mul' : (m : ℕ) → 0 * m ≡ 0
    zero-mul' m = omega arith

pub bit_below : (n width k : ℕ) → n < 2 ^ width → IsBitSet n k → k < width
bit_below n width k fits set =
    elim (cases_lt k width) [
      | inl lt ↦ lt
      | inr ge ↦ absurd (omega (arith, bit_from_set n k set, bit_at_above n width k fits ge))
    ]

pub state_from-push : (t : Table) (s : ℕ) (w : List ℕ) (e : ℕ) → state_from t s (w ++ e ∷ []) ≡ next_state t (state_from t s w) e
state_from-push t s [] e = refl
state_from-push t s (d ∷ w) e = state_from-push t (next_state t s d) w e

pub has_letter-push : (w : List ℕ) (e : ℕ) → has_letter (w ++ e ∷ []) ≡ true
has_letter-push [] e = refl
has_letter-push (d ∷ w) e = refl

pub hits_moved : (t : Table) (w : List ℕ) (hits k : ℕ) → has_letter w ≡ true → hits ≡ slice_index t.hits (state_from t 0 w) → hits < 2 ^ 16 → IsBitSet hits k ↔ IsHit (table_meaning t) w k
hits_moved t [] hits k some is fits = absurd (true≢false (sym some))
hits_moved t (e ∷ w) hits k some is fits = (
  (λ set. ((λ (none : e ∷ w ≡ []). absurd cc), inl refl, bit_below hits 16 k fits set, subst (λ (n : ℕ). IsBitSet n k) is set)),
  (λ hit. subst (λ (n : ℕ). IsBitSet n k) (sym is) hit.3),
)

pub hits_unmoved : (t : Table) (w : List ℕ) (k : ℕ) → has_letter w ≡ false → IsBitSet 0 k ↔ IsHit (table_meaning t) w k
hits_unmoved t [] k none = ((λ set. absurd (set refl)), (λ hit. absurd (hit.0 refl)))
hits_unmoved t (e ∷ w) k none = absurd (true≢false none)
