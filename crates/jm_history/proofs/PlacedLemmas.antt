-- A binding is what its mask and its objects place.
use Rattle.std.proofs.Common.{◌≡◌, ℕ, zero, suc, ◌+◌, ◌*◌, ◌/◌, ◌%◌, ◌<◌, ◌≤◌, true, false, cond, List, [], ◌∷◌, ◌++◌, length, drop, Option, Some, None, slice_get, refl, sym, ◌∙◌, ap, arith}
use Rattle.std.specs.Prelude.{◌==◌, count_ones}
use Rattle.std.specs.Int.Count.{ones_step}
use Rattle.jm_model.specs.Bindings.{objects_of, mask_of}
use Rattle.jm_model.specs.Layout.{by_lowest_bit}
use Rattle.jm_history.specs.Rows.{placed_in}

-- what a binding's mask and objects place is the binding, whatever lies after the objects
pub placed_back : (b : List (Option ℕ)) (more : List ℕ) → placed_in (length b) (mask_of b) (objects_of b ++ more) ≡ b
unfolding placed_in
placed_back [] more = refl
placed_back (None ∷ b) more =
    let even : 2 * mask_of b % 2 ≡ 0 = omega arith in
    let half : 2 * mask_of b / 2 ≡ mask_of b = omega arith in
    let clear : (2 * mask_of b % 2 == 1) ≡ false = ap (λ (n : ℕ). n == 1) even in
    (λ i. cond (clear i) (slice_get (objects_of b ++ more) 0 ∷ placed_in (length b) (2 * mask_of b / 2) (drop 1 (objects_of b ++ more))) (None ∷ placed_in (length b) (half i) (objects_of b ++ more)))
    ∙ ap (λ l. None ∷ l) (placed_back b more)
placed_back (Some o ∷ b) more =
    let odd : (1 + 2 * mask_of b) % 2 ≡ 1 = omega arith in
    let half : (1 + 2 * mask_of b) / 2 ≡ mask_of b = omega arith in
    let set : ((1 + 2 * mask_of b) % 2 == 1) ≡ true = ap (λ (n : ℕ). n == 1) odd in
    (λ i. cond (set i) (Some o ∷ placed_in (length b) (half i) (objects_of b ++ more)) (None ∷ placed_in (length b) ((1 + 2 * mask_of b) / 2) (o ∷ objects_of b ++ more)))
    ∙ ap (λ l. Some o ∷ l) (placed_back b more)

-- it doesn't depend on what lies after the objects, if there are enough
pub placed_more : (n mask : ℕ) (os more : List ℕ) → count_ones mask ≤ length os → placed_in n mask (os ++ more) ≡ placed_in n mask os
unfolding placed_in
placed_more zero mask os more enough = refl
placed_more (suc n) mask [] more enough =
    let ones = ones_step mask in
    let even : mask % 2 ≡ 0 = omega (arith, ones, enough) in
    let clear : (mask % 2 == 1) ≡ false = ap (λ (n : ℕ). n == 1) even in
    let rest = placed_more n (mask / 2) [] more (omega (arith, ones, enough)) in
    (λ i. cond (clear i) (slice_get more 0 ∷ placed_in n (mask / 2) (drop 1 more)) (None ∷ placed_in n (mask / 2) more))
    ∙ ap (λ l. None ∷ l) rest
    ∙ sym (λ i. cond (clear i) (None ∷ placed_in n (mask / 2) []) (None ∷ placed_in n (mask / 2) []))
placed_more (suc n) mask (o ∷ os) more enough =
    let ones = ones_step mask in
    by_lowest_bit mask (λ v. cond v (Some o ∷ placed_in n (mask / 2) (os ++ more)) (None ∷ placed_in n (mask / 2) (o ∷ os ++ more)) ≡ cond v (Some o ∷ placed_in n (mask / 2) os) (None ∷ placed_in n (mask / 2) (o ∷ os)))
    (λ odd. ap (λ l. Some o ∷ l) (placed_more n (mask / 2) os more (omega (arith, ones, enough, odd))))
    (λ even. ap (λ l. None ∷ l) (placed_more n (mask / 2) (o ∷ os) more (omega (arith, ones, enough, even))))
