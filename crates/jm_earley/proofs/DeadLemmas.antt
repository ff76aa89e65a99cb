-- The letters that a set of dead parameters leaves.
use Rattle.std.proofs.Common.{◌≡◌, ◌↔◌, ℕ, zero, suc, ◌∷◌, [], ◌<◌, ◌+◌, ◌*◌, ◌%◌, ◌^◌, bit_or, List, ◌++◌, length, Some, slice_get, refl, sym, subst, ◌∙◌, inl, inr, arith}
use Rattle.std.specs.Prelude.{IsBitSet}
use Rattle.std.specs.Int.{w32, bit_at}
use Rattle.std.proofs.lemmas.Bool.{cases_eq}
use Rattle.std.proofs.lemmas.Nat.Bits.{bit_at_set_same, bit_at_set_other}
use Rattle.jm_earley.specs.declared.letter_set.LetterSet.{LetterSet}
use Rattle.jm_earley.specs.DeadSets.{IsLeft}
use Rattle.jm_earley.proofs.BitLemmas.{is_one, from_one}

module _ (P : ℕ → Type 0) (letters n : ℕ) (before : (k : ℕ) → IsBitSet letters k ↔ ((k < n) × P k)) where
  pub one_more : n < 32 → P n → (k : ℕ) → IsBitSet (bit_or letters (1 * 2 ^ n % 2 ^ 32)) k ↔ ((k < n + 1) × P k)
  one_more lt here k = elim (cases_eq k n) [
    | inl e ↦ (
      λ _. (omega arith, subst P (sym e) here),
      λ _. subst (λ (m : ℕ). IsBitSet (bit_or letters (1 * 2 ^ n % 2 ^ 32)) m) (sym e) (from_one _ n (bit_at_set_same w32 letters n lt)),
    )
    | inr differs ↦
        let same : bit_at (bit_or letters (1 * 2 ^ n % 2 ^ 32)) k ≡ bit_at letters k = bit_at_set_other w32 letters n lt k differs in (
          λ h. let old = (before k).0 (from_one letters k (sym same ∙ is_one _ k h)) in (omega (arith, old.0), old.1),
          λ h. from_one _ k (same ∙ is_one letters k ((before k).1 (omega (arith, h.0, differs), h.1))),
        )
  ]

  pub none_more : (P n → ⊥) → (k : ℕ) → IsBitSet letters k ↔ ((k < n + 1) × P k)
  none_more absent k = (
    λ h. let old = (before k).0 h in (omega (arith, old.0), old.1),
    λ h. elim (cases_eq k n) [
      | inl e ↦ absurd (absent (subst P e h.1))
      | inr differs ↦ (before k).1 (omega (arith, h.0, differs), h.1)
    ],
  )

-- ---- lists that grow

pub slice_get_push : {X : Type 0} (xs : List X) (x : X) (n : ℕ) → n ≡ length xs → slice_get (xs ++ x ∷ []) n ≡ Some x
slice_get_push [] x n e = rw e refl
slice_get_push (y ∷ xs) x zero e = absurd (omega arith)
slice_get_push (y ∷ xs) x (suc n) e = slice_get_push xs x n (omega arith)

pub slice_get_kept : {X : Type 0} (xs ys : List X) (n : ℕ) (x : X) → slice_get xs n ≡ Some x → slice_get (xs ++ ys) n ≡ Some x
slice_get_kept [] ys n x e = absurd (cc)
slice_get_kept (y ∷ xs) ys zero x e = e
slice_get_kept (y ∷ xs) ys (suc n) x e = slice_get_kept xs ys n x e

module _ (params : List ℕ) where
  left_kept : (sets added : List LetterSet) (dead number : ℕ) → IsLeft params sets dead number → IsLeft params (sets ++ added) dead number
  left_kept sets added dead number left = record { set = left.set; found = slice_get_kept sets added number left.set left.found; letters = left.letters }

  abbrev pub AreLeft : List LetterSet → List ℕ → ℕ → Type 0
  AreLeft sets numbers n = (dead : ℕ) → dead < n → (number : ℕ) × (slice_get numbers dead ≡ Some number) × IsLeft params sets dead number

  pub one_more_left : (sets added : List LetterSet) (numbers : List ℕ) (n number : ℕ) → length numbers ≡ n → AreLeft sets numbers n → IsLeft params (sets ++ added) n number
      → AreLeft (sets ++ added) (numbers ++ number ∷ []) (n + 1)
  one_more_left sets added numbers n number count each here dead lt = elim (cases_eq dead n) [
    | inl e ↦ (number, slice_get_push numbers number dead (omega arith), subst (λ (d : ℕ). IsLeft params (sets ++ added) d number) (sym e) here)
    | inr differs ↦
        let old = each dead (omega (arith, lt, differs)) in
        (old.0, slice_get_kept numbers (number ∷ []) dead old.0 old.1, left_kept sets added dead old.0 old.2)
  ]
