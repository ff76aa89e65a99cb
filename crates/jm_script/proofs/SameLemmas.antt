-- Lists that are compared eight bytes at a time.
use Rattle.std.proofs.Common.{◌≡◌, ℕ, ◌+◌, ◌≤◌, List, ◌++◌, length, take, drop, sym, ap, ◌∙◌, arith}
use Rattle.std.specs.Int.{w64, to_le_bytes}
use Rattle.std.proofs.lemmas.List.{take-append-drop, take-take, drop-take, take_all}

take_further : (n m : ℕ) (xs : List ℕ) → take (n + m) xs ≡ take n xs ++ take m (drop n xs)
take_further n m xs = sym (take-append-drop n (take (n + m) xs)) ∙ (λ u. take-take n (n + m) xs (omega arith) u ++ drop-take n m xs u)

-- eight bytes more
pub eight_more : (a b : List ℕ) (at x y : ℕ) → take at a ≡ take at b → to_le_bytes w64 x ≡ take 8 (drop at a) → to_le_bytes w64 y ≡ take 8 (drop at b) → x ≡ y
    → take (at + 8) a ≡ take (at + 8) b
eight_more a b at x y front left right same =
    take_further at 8 a ∙ (λ u. front u ++ (sym left ∙ ap (to_le_bytes w64) same ∙ right) u) ∙ sym (take_further at 8 b)

-- the last eight bytes, which may have been compared in part
pub eight_last : (a b : List ℕ) (at last x y : ℕ) → last ≤ at → length a ≤ last + 8 → length b ≤ last + 8 → take at a ≡ take at b → to_le_bytes w64 x ≡ take 8 (drop last a)
    → to_le_bytes w64 y ≡ take 8 (drop last b) → x ≡ y → a ≡ b
eight_last a b at last x y before long_a long_b front left right same =
    let front_last : take last a ≡ take last b = sym (take-take last at a before) ∙ ap (take last) front ∙ take-take last at b before in
    sym (take_all (last + 8) a long_a) ∙ eight_more a b last x y front_last left right same ∙ take_all (last + 8) b long_b
