-- Pairs of elements of a list in another order.
use Rattle.std.proofs.Common.{◌≡◌, ◌≢◌, ℕ, ◌<◌, ◌⊎◌, inl, inr, List, [], ◌∷◌, length, get_or, refl, sym, ap, ◌∙◌, subst, arith}
use Rattle.std.specs.Prelude.{AllPairs, swap, slice_set}
use Rattle.std.specs.List.Sorted.{IsPermutation}
use Rattle.std.proofs.Math.ListN.{length-set}
use Rattle.std.proofs.lemmas.Bool.{cases_eq, cases_order}
use Rattle.std.proofs.lemmas.List.{get_or-set_same, get_or-set_other, get_or_default}
use Rattle.std.proofs.lemmas.List.Sorted.{IsPermutation-keeps}

-- where the element at k of the list with i and j swapped comes from
abbrev IsFrom : ℕ → ℕ → ℕ → ℕ → Type 0
IsFrom i j k n = ((k ≡ j) × (n ≡ i)) ⊎ ((k ≢ j) × (((k ≡ i) × (n ≡ j)) ⊎ ((k ≢ i) × (n ≡ k))))

from_apart : (i j a b n m : ℕ) → IsFrom i j a n → IsFrom i j b m → (a ≡ b → ⊥) → n ≡ m → ⊥
from_apart i j a b n m (inl p) (inl q) ne same = ne (p.0 ∙ sym q.0)
from_apart i j a b n m (inl p) (inr (u, inl q)) ne same = ne (omega (arith, p.0, p.1, q.0, q.1, same))
from_apart i j a b n m (inl p) (inr (u, inr q)) ne same = q.0 (omega (arith, p.0, p.1, q.1, same))
from_apart i j a b n m (inr (u, inl p)) (inl q) ne same = ne (omega (arith, p.0, p.1, q.0, q.1, same))
from_apart i j a b n m (inr (u, inr p)) (inl q) ne same = p.0 (omega (arith, p.1, q.0, q.1, same))
from_apart i j a b n m (inr (u, inl p)) (inr (v, inl q)) ne same = ne (p.0 ∙ sym q.0)
from_apart i j a b n m (inr (u, inl p)) (inr (v, inr q)) ne same = v (omega (arith, p.0, p.1, q.1, same))
from_apart i j a b n m (inr (u, inr p)) (inr (v, inl q)) ne same = u (omega (arith, p.1, q.0, q.1, same))
from_apart i j a b n m (inr (u, inr p)) (inr (v, inr q)) ne same = ne (omega (arith, p.1, q.1, same))

module _ {X : Type 0} where
  record IsSwapped (l : List X) (i j k : ℕ) (d : X) : Type 0 where
    place : ℕ
    within : place < length l
    is : get_or (swap l i j) k d ≡ get_or l place d
    from : IsFrom i j k place

  swapped : (x : X) (ys : List X) (i j k : ℕ) (d : X) → i < length (x ∷ ys) → j < length (x ∷ ys) → k < length (x ∷ ys) → IsSwapped (x ∷ ys) i j k d
  swapped x ys i j k d li lj lk =
      let l : List X = x ∷ ys in
      let first : List X = slice_set l i (get_or l j x) in
      let size : length first ≡ length l = length-set l i (get_or l j x) in
      elim (cases_eq k j) [
        | inl same ↦ record {
          place = i;
          within = li;
          is = ap (λ (n : ℕ). get_or (slice_set first j (get_or l i x)) n d) same ∙ get_or-set_same first j (get_or l i x) d (rw size lj) ∙ get_or_default l i x d li;
          from = inl (same, refl);
        }
        | inr other ↦ elim (cases_eq k i) [
          | inl here ↦ record {
            place = j;
            within = lj;
            is = get_or-set_other first j k (get_or l i x) d other ∙ ap (λ (n : ℕ). get_or first n d) here ∙ get_or-set_same l i (get_or l j x) d li ∙ get_or_default l j x d lj;
            from = inr (other, inl (here, refl));
          }
          | inr there ↦ record {
            place = k;
            within = lk;
            is = get_or-set_other first j k (get_or l i x) d other ∙ get_or-set_other l i k (get_or l j x) d there;
            from = inr (other, inr (there, refl));
          }
        ]
      ]

  module _ (Q : X → X → Type 0) (turn : (x y : X) → Q x y → Q y x) where
    any_two : (l : List X) → AllPairs Q l → (a b : ℕ) (d : X) → a < length l → b < length l → (a ≡ b → ⊥) → Q (get_or l a d) (get_or l b d)
    any_two l h a b d la lb ne =
        elim (cases_order a b) [
          | inl same ↦ absurd (ne same)
          | inr (inl lt) ↦ h a b d lt lb
          | inr (inr lt) ↦ turn (get_or l b d) (get_or l a d) (h b a d lt la)
        ]

    length-swap : (l : List X) (i j : ℕ) → length (swap l i j) ≡ length l
    length-swap [] i j = refl
    length-swap (x ∷ ys) i j = length-set (slice_set (x ∷ ys) i (get_or (x ∷ ys) j x)) j (get_or (x ∷ ys) i x) ∙ length-set (x ∷ ys) i (get_or (x ∷ ys) j x)

    pairs_swap : (l : List X) (i j : ℕ) → i < length l → j < length l → AllPairs Q l → AllPairs Q (swap l i j)
    pairs_swap [] i j li lj h = h
    pairs_swap (x ∷ ys) i j li lj h = λ a b d lt lb.
        let within : b < length (x ∷ ys) = omega (arith, lb, length-swap (x ∷ ys) i j) in
        let one = swapped x ys i j a d li lj (omega (arith, lt, within)) in
        let other = swapped x ys i j b d li lj within in
        subst (λ (v : X). Q v (get_or (swap (x ∷ ys) i j) b d)) (sym one.is)
        (subst (λ (v : X). Q (get_or (x ∷ ys) one.place d) v) (sym other.is)
        (any_two (x ∷ ys) h one.place other.place d one.within other.within (from_apart i j a b one.place other.place one.from other.from (omega (arith, lt)))))

    -- what holds of each two elements holds in any order
    pub pairs_permuted : (xs ys : List X) → IsPermutation xs ys → AllPairs Q xs → AllPairs Q ys
    pairs_permuted xs ys p h = IsPermutation-keeps xs (AllPairs Q) h (λ l i j li lj g. pairs_swap l i j li lj g) ys p
