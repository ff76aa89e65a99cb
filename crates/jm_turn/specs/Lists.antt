-- Words on lists that the rule and the contracts are written in.
use Rattle.std.specs.Prelude.{ℕ, ◌+◌, Bool, cond, ◌==◌, nat_lt, nat_le, ◌&&◌, if◌then◌else◌, List, [], ◌∷◌, filter, length}

-- f of each, added up
abbrev pub total : {A : Type 0} → (A → ℕ) → List A → ℕ
total f [] = 0
total f (x ∷ xs) = f x + total f xs

-- 1 where the test passes, and else 0
abbrev pub one_if : Bool → ℕ
one_if b = cond b 1 0

-- how often n stands in the list
abbrev pub times : ℕ → List ℕ → ℕ
times n [] = 0
times n (x ∷ xs) = one_if (x == n) + times n xs

-- 1 for the numbers below n, and else 0
abbrev pub once_below : ℕ → ℕ → ℕ
once_below x n = one_if (nat_lt x n)

-- 1 for the numbers from low up to, and without, high, and else 0
abbrev pub once_within : ℕ → ℕ → ℕ → ℕ
once_within low high x = one_if (nat_le low x && nat_lt x high)

-- the entries of a caller's number, in their order
abbrev pub entries_by : {E : Type 0} → (E → ℕ) → ℕ → List E → List E
entries_by caller n history = filter (λ e. caller e == n) history

-- the second list where it is longer, and else the first
abbrev pub longer_of : {E : Type 0} → List E → List E → List E
longer_of xs ys = if nat_lt (length xs) (length ys) then ys else xs
