-- Counts modulo 2^64, item by item.
use Rattle.std.proofs.Common.{◌≡◌, ℕ, ◌+◌, ◌%◌, ◌^◌, ◌<◌, ◌++◌, List, [], ◌∷◌, length, get_or, take, ◌∙◌, ap, append-nil, arith}
use Rattle.std.specs.Prelude.{sum_by}
use Rattle.std.specs.List.{flat_map}
use Rattle.std.proofs.lemmas.List.{take_more}
use Rattle.std.proofs.lemmas.List.Concat.{flat_map-append}
use Rattle.std.proofs.lemmas.List.Sums.{sum_by-append}

pub sum_by-more : {X : Type 0} (f : X → ℕ) (xs : List X) (i : ℕ) (x : X) → i < length xs → get_or xs i x ≡ x
    → sum_by f (take (i + 1) xs) ≡ sum_by f (take i xs) + f x
sum_by-more f xs i x h is =
    ap (sum_by f) (take_more xs i x h)
    ∙ sum_by-append f (take i xs) (get_or xs i x ∷ [])
    ∙ omega (arith, ap (λ y. f y) is)

pub sum_by-joined : {X : Type 0} (f : X → ℕ) (xss : List (List X)) (i : ℕ) (xs : List X) → i < length xss → get_or xss i xs ≡ xs
    → sum_by f (flat_map (λ x. x) (take (i + 1) xss)) ≡ sum_by f (flat_map (λ x. x) (take i xss)) + sum_by f xs
sum_by-joined f xss i xs h is =
    let before = flat_map (λ x. x) (take i xss) in
    ap (λ l. sum_by f (flat_map (λ x. x) l)) (take_more xss i xs h)
    ∙ ap (sum_by f) (flat_map-append (λ x. x) (take i xss) (get_or xss i xs ∷ []) ∙ ap (λ l. before ++ l) (append-nil (get_or xss i xs) ∙ is))
    ∙ sum_by-append f before xs

pub modulo_more : (count total weight next : ℕ) → count ≡ total % 2 ^ 64 → next ≡ (count + weight) % 2 ^ 64 → next ≡ (total + weight) % 2 ^ 64
modulo_more count total weight next is more = omega arith

pub modulo_sum : (count total weight sum next : ℕ) → count ≡ total % 2 ^ 64 → weight ≡ sum % 2 ^ 64 → next ≡ (count + weight) % 2 ^ 64 → next ≡ (total + sum) % 2 ^ 64
modulo_sum count total weight sum next is part more = omega arith
