-- Sets of nonterminals as bits of a number.
use Rattle.std.proofs.Common.{◌≡◌, ◌≢◌, ◌⊎◌, ℕ, zero, suc, ◌<◌, ◌≤◌, ◌*◌, ◌/◌, ◌%◌, ◌^◌, true, bit_and, bit_or, min, sym, ◌∙◌, inl, inr, arith}
use Rattle.std.specs.Prelude.{IsBitSet}
use Rattle.std.specs.Int.{bit_at, w64}
use Rattle.std.proofs.lemmas.Bool.{cases_eq, cases_lt, eqb-true, eqb-false, eq-eqb, ne_eqb, lt-ltb, le-ltb, and_parts, and_from, not-true, not_from_false}
use Rattle.std.proofs.lemmas.Nat.Bits.{bit_at_or, bit_at_and, bit_at-zero, bit_at_set_same, bit_at_set_other, bit_at-lt, bit_at_lowest, bit_at-suc}
use Rattle.jm_grammar.proofs.RoundLemmas.{bit_of, of_bit}
use Rattle.jm_earley.specs.Rules.{only, has, meets}

pub is_one : (bits n : ℕ) → IsBitSet bits n → bit_at bits n ≡ 1
is_one bits n h = eqb-true _ _ (bit_of bits n h)

pub from_one : (bits n : ℕ) → bit_at bits n ≡ 1 → IsBitSet bits n
from_one bits n e = of_bit bits n (eq-eqb (bit_at bits n) 1 e)

pub none_set : (n : ℕ) → IsBitSet 0 n → ⊥
none_set n h = absurd (omega (arith, is_one 0 n h, bit_at-zero n))

pub or_cases : (a b n : ℕ) → IsBitSet (bit_or a b) n → IsBitSet a n ⊎ IsBitSet b n
or_cases a b n h = elim (cases_eq (bit_at a n) 1) [
  | inl e ↦ inl (from_one a n e)
  | inr differs ↦ inr (from_one b n (omega (arith, is_one (bit_or a b) n h, bit_at_or a b n, bit_at-lt a n, bit_at-lt b n, differs)))
]

pub or_l : (a b n : ℕ) → IsBitSet a n → IsBitSet (bit_or a b) n
or_l a b n h = from_one (bit_or a b) n (omega (arith, is_one a n h, bit_at_or a b n, bit_at-lt b n))

pub or_r : (a b n : ℕ) → IsBitSet b n → IsBitSet (bit_or a b) n
or_r a b n h = from_one (bit_or a b) n (omega (arith, is_one b n h, bit_at_or a b n, bit_at-lt a n))

-- a number that isn't 0 has a bit
some_set : (fuel n : ℕ) → n ≤ fuel → n ≢ 0 → (i : ℕ) × (bit_at n i ≡ 1)
some_set zero n le some = absurd (some (omega arith))
some_set (suc fuel) n le some = elim (cases_eq (n % 2) 1) [
  | inl odd ↦ (0, bit_at_lowest n ∙ odd)
  | inr even ↦
      let half : n / 2 ≢ 0 = λ e. some (omega arith) in
      let r = some_set fuel (n / 2) (omega arith) half in
      (suc r.0, bit_at-suc n r.0 ∙ r.1)
]

pub meets_some : (a b : ℕ) → meets a b ≡ true → (n : ℕ) × IsBitSet a n × IsBitSet b n
meets_some a b h =
    let r = some_set (bit_and a b) (bit_and a b) (omega arith) (eqb-false (bit_and a b) 0 (not-true _ h)) in
    let both : min (bit_at a r.0) (bit_at b r.0) ≡ 1 = sym (bit_at_and a b r.0) ∙ r.1 in
    (r.0, from_one a r.0 (omega (arith, both, bit_at-lt a r.0, bit_at-lt b r.0)), from_one b r.0 (omega (arith, both, bit_at-lt a r.0, bit_at-lt b r.0)))

pub some_meets : (a b n : ℕ) → IsBitSet a n → IsBitSet b n → meets a b ≡ true
some_meets a b n h k = not_from_false _ (ne_eqb (bit_and a b) 0 (λ e.
    let none : bit_at (bit_and a b) n ≡ 0 = rw e (bit_at-zero n) in
    omega (arith, none, bit_at_and a b n, is_one a n h, is_one b n k)))

-- ---- one nonterminal

shifted_same : (n : ℕ) → n < 64 → IsBitSet (1 * 2 ^ n % 2 ^ 64) n
shifted_same n lt = elim (or_cases 0 (1 * 2 ^ n % 2 ^ 64) n (from_one _ n (bit_at_set_same w64 0 n lt))) [ inl none ↦ absurd (none_set n none) | inr h ↦ h ]

shifted_only : (n m : ℕ) → n < 64 → IsBitSet (1 * 2 ^ n % 2 ^ 64) m → m ≡ n
shifted_only n m lt h = elim (cases_eq m n) [
  | inl e ↦ e
  | inr differs ↦ absurd (omega (arith, is_one _ m (or_r 0 (1 * 2 ^ n % 2 ^ 64) m h), bit_at_set_other w64 0 n lt m differs, bit_at-zero m))
]

pub only_same : (n : ℕ) → n < 64 → IsBitSet (only n) n
only_same n lt = rw (lt-ltb n 64 lt) (shifted_same n lt)

pub only_only : (n m : ℕ) → IsBitSet (only n) m → m ≡ n
only_only n m h = elim (cases_lt n 64) [
  | inl lt ↦ shifted_only n m lt (rw (lt-ltb n 64 lt) at h)
  | inr above ↦ absurd (none_set m (rw (le-ltb n 64 above) at h))
]

pub has_set : (known n : ℕ) → has known n ≡ true → IsBitSet known n
has_set known n h = of_bit known n (and_parts _ _ h).1

pub set_has : (known n : ℕ) → n < 64 → IsBitSet known n → has known n ≡ true
set_has known n lt h = and_from _ _ (lt-ltb n 64 lt) (bit_of known n h)
