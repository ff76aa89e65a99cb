-- The first low byte from a place on, as the lowest bit of a number tells it.
use Rattle.std.proofs.Common.{subst, ◌≡◌, ℕ, zero, suc, ◌+◌, ◌-◌, ◌*◌, ◌/◌, ◌^◌, ◌<◌, ◌≤◌, Bool, true, false, cond, not, List, [], ◌∷◌, map, length, take, drop, refl, sym, ap, ◌∙◌, arith, length-drop, drop-drop}
use Rattle.std.proofs.Math.Nat.{zero-div, mul_comm, div-div-eq-div-mul, pow-suc}
use Rattle.std.specs.List.{position_or_len}
use Rattle.std.specs.Simd.Lanes.{chunk, mask_l}
use lib.Count.{count_trailing_zeros}
use Rattle.std.proofs.lemmas.Bool.Decides.{nat_tests}
use Rattle.std.proofs.lemmas.List.{get_or-drop, drop-take, drop-map}
use Rattle.std.proofs.lemmas.List.Sums.{position_or_len_is}
use Rattle.std.proofs.lemmas.Nat.{shr-shr}
use Rattle.std.proofs.lemmas.Simd.{length-chunk, trailing_mask_l, run_in_chunk_fails, run_in_chunk_stops}
use Rattle.jm_lines.specs.Low.{is_low, TellsLow}

-- what the test of a byte says
pub low_true : (b : ℕ) → b < 36 → is_low b ≡ true
low_true b lt = grind (arith, nat_tests)

-- ---- the bits of a number

half : (m : Bool) (n : ℕ) → (cond m 1 0 + 2 * n) / 2 ≡ n
half true n = omega arith
half false n = omega arith

-- without the lowest
mask-drop : (ms : List Bool) (n : ℕ) → mask_l ms / 2 ^ n ≡ mask_l (drop n ms)
mask-drop ms zero = omega arith
mask-drop [] (suc n) = zero-div (2 ^ suc n)
mask-drop (m ∷ ms) (suc n) =
    ap (λ k. mask_l (m ∷ ms) / k) (pow-suc 2 n ∙ mul_comm (2 ^ n) 2) ∙ sym (div-div-eq-div-mul (mask_l (m ∷ ms)) 2 (2 ^ n)) ∙ ap (λ k. k / 2 ^ n) (half m (mask_l ms)) ∙ mask-drop ms n

sooner : (b : Bool) (n m l : ℕ) → 0 < cond b 1 0 + 2 * n → (0 < n → m < l) → cond (not b) (1 + m) 0 < suc l
sooner true n m l some f = omega arith
sooner false n m l some f = omega (arith, f (omega arith))

-- where a bit is set, some byte passes
some_set : (p : ℕ → Bool) (xs : List ℕ) → 0 < mask_l (map p xs) → position_or_len p xs < length xs
some_set p [] some = absurd (omega arith)
some_set p (x ∷ xs) some = sooner (p x) (mask_l (map p xs)) (position_or_len p xs) (length xs) some (some_set p xs)

-- ---- what is known

-- of no byte
pub nothing_known : (text : List ℕ) (at : ℕ) → at ≤ length text → TellsLow text at 0
nothing_known text at le = record { count = 0; few = omega arith; within = omega arith; told = refl }

module _ (text : List ℕ) (at low : ℕ) (known : TellsLow text at low) (some : 0 < low) where
  some_told : 0 < mask_l (map is_low (chunk at known.count text))
  some_told = subst (λ n. 0 < n) known.told some

  counted : count_trailing_zeros 64 low ≡ position_or_len is_low (chunk at known.count text)
  counted =
      let long = length-chunk at known.count text known.within in
      ap (count_trailing_zeros 64) known.told ∙ trailing_mask_l is_low 64 (chunk at known.count text) (omega (arith, long, known.few)) some_told

  short : count_trailing_zeros 64 low < known.count
  short =
      omega (arith, counted, some_set is_low (chunk at known.count text) some_told, length-chunk at known.count text known.within)

  pub low_few : count_trailing_zeros 64 low < 64
  low_few = omega (arith, short, known.few)

  pub low_within : at + count_trailing_zeros 64 low ≤ length text
  low_within = omega (arith, short, known.within)

  pub low_place : count_trailing_zeros 64 low ≡ position_or_len is_low (drop at text)
  low_place =
      let n = known.count in
      let run = count_trailing_zeros 64 low in
      let inside : run ≤ length (drop at text) = omega (arith, short, known.within, length-drop at text) in
      sym (position_or_len_is is_low (drop at text) run 0 inside (λ k lt. ap is_low (get_or-drop at text k 0) ∙ run_in_chunk_fails is_low text at n run 0 known.within counted (at + k) (omega arith) (omega arith)) (λ _. ap is_low (get_or-drop at text run 0) ∙ run_in_chunk_stops is_low text at n run 0 known.within counted short))

  pub low_behind : TellsLow text (at + count_trailing_zeros 64 low + 1) (low / 2 ^ count_trailing_zeros 64 low / 2)
  low_behind =
      let run = count_trailing_zeros 64 low in
      let left = known.count - (run + 1) in
      let xs = chunk at known.count text in
      let all : known.count ≡ run + 1 + left = omega (arith, short) in
      let from : at + (run + 1) ≡ at + run + 1 = omega arith in
      let bits = ap (λ n. n / 2 ^ run / 2) known.told ∙ shr-shr (mask_l (map is_low xs)) run 1 ∙ mask-drop (map is_low xs) (run + 1) in
      let bytes = drop-map is_low (run + 1) xs in
      let rest = ap (λ n. drop (run + 1) (take n (drop at text))) all ∙ drop-take (run + 1) left (drop at text) ∙ ap (take left) (drop-drop (run + 1) at text ∙ ap (λ k. drop k text) from) in
      record {
        count = left;
        few = omega (arith, known.few);
        within = omega (arith, short, known.within);
        told = bits ∙ ap mask_l bytes ∙ ap (λ l. mask_l (map is_low l)) rest;
      }
