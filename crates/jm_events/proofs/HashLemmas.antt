use Rattle.std.proofs.Common.{ℕ, ◌≡◌, ◌<◌, ◌≤◌, ◌-◌, List, [], ◌∷◌, length, take, drop, get_or, refl, ap, ◌∙◌, arith}
use Rattle.std.specs.Int.{w64, from_le_bytes}
use Rattle.std.proofs.lemmas.List.{take_all}
use Rattle.jm_events.specs.Hash.{mix, few_bytes, hash_from}

-- the next eight bytes
pub hash_eight : (hash bits x : ℕ) (rest : List ℕ) → 8 ≤ length rest → bits ≡ from_le_bytes w64 (get_or rest 0 0 ∷ get_or rest 1 0 ∷ get_or rest 2 0 ∷ get_or rest 3 0 ∷ get_or rest 4 0 ∷ get_or rest 5 0 ∷ get_or rest 6 0 ∷ get_or rest 7 0 ∷ []) → x ≡ mix hash bits → hash_from x (take (length rest - 8) (drop 8 rest)) ≡ hash_from hash rest
unfolding hash_from
hash_eight hash bits x (a ∷ b ∷ c ∷ d ∷ e ∷ f ∷ g ∷ h ∷ rest) long is mixed =
    ap (hash_from x) (take_all (length (a ∷ b ∷ c ∷ d ∷ e ∷ f ∷ g ∷ h ∷ rest) - 8) rest (omega arith)) ∙ ap (λ y. hash_from y rest) (mixed ∙ ap (mix hash) is)
hash_eight hash bits x rest long is mixed = absurd (omega arith)

-- fewer than eight bytes
pub hash_few : (hash : ℕ) (rest : List ℕ) → length rest < 8 → hash_from hash rest ≡ mix hash (few_bytes rest)
unfolding hash_from
hash_few hash [] few = refl
hash_few hash (a ∷ []) few = refl
hash_few hash (a ∷ b ∷ []) few = refl
hash_few hash (a ∷ b ∷ c ∷ []) few = refl
hash_few hash (a ∷ b ∷ c ∷ d ∷ []) few = refl
hash_few hash (a ∷ b ∷ c ∷ d ∷ e ∷ []) few = refl
hash_few hash (a ∷ b ∷ c ∷ d ∷ e ∷ f ∷ []) few = refl
hash_few hash (a ∷ b ∷ c ∷ d ∷ e ∷ f ∷ g ∷ []) few = refl
hash_few hash (a ∷ b ∷ c ∷ d ∷ e ∷ f ∷ g ∷ h ∷ rest) few = absurd (omega arith)

-- so many bytes, with zeros after them
pub few_4 : (t : List ℕ) → length t ≡ 4 → from_le_bytes w64 (get_or t 0 0 ∷ get_or t 1 0 ∷ get_or t 2 0 ∷ get_or t 3 0 ∷ 0 ∷ 0 ∷ 0 ∷ 0 ∷ []) ≡ few_bytes t
few_4 [] is = absurd (omega arith)
few_4 (a ∷ []) is = absurd (omega arith)
few_4 (a ∷ b ∷ []) is = absurd (omega arith)
few_4 (a ∷ b ∷ c ∷ []) is = absurd (omega arith)
few_4 (a ∷ b ∷ c ∷ d ∷ []) is = refl
few_4 (a ∷ b ∷ c ∷ d ∷ e ∷ t) is = absurd (omega arith)

pub few_5 : (t : List ℕ) → length t ≡ 5 → from_le_bytes w64 (get_or t 0 0 ∷ get_or t 1 0 ∷ get_or t 2 0 ∷ get_or t 3 0 ∷ get_or t 4 0 ∷ 0 ∷ 0 ∷ 0 ∷ []) ≡ few_bytes t
few_5 [] is = absurd (omega arith)
few_5 (a ∷ []) is = absurd (omega arith)
few_5 (a ∷ b ∷ []) is = absurd (omega arith)
few_5 (a ∷ b ∷ c ∷ []) is = absurd (omega arith)
few_5 (a ∷ b ∷ c ∷ d ∷ []) is = absurd (omega arith)
few_5 (a ∷ b ∷ c ∷ d ∷ e ∷ []) is = refl
few_5 (a ∷ b ∷ c ∷ d ∷ e ∷ f ∷ t) is = absurd (omega arith)

pub few_6 : (t : List ℕ) → length t ≡ 6 → from_le_bytes w64 (get_or t 0 0 ∷ get_or t 1 0 ∷ get_or t 2 0 ∷ get_or t 3 0 ∷ get_or t 4 0 ∷ get_or t 5 0 ∷ 0 ∷ 0 ∷ []) ≡ few_bytes t
few_6 [] is = absurd (omega arith)
few_6 (a ∷ []) is = absurd (omega arith)
few_6 (a ∷ b ∷ []) is = absurd (omega arith)
few_6 (a ∷ b ∷ c ∷ []) is = absurd (omega arith)
few_6 (a ∷ b ∷ c ∷ d ∷ []) is = absurd (omega arith)
few_6 (a ∷ b ∷ c ∷ d ∷ e ∷ []) is = absurd (omega arith)
few_6 (a ∷ b ∷ c ∷ d ∷ e ∷ f ∷ []) is = refl
few_6 (a ∷ b ∷ c ∷ d ∷ e ∷ f ∷ g ∷ t) is = absurd (omega arith)

pub few_7 : (t : List ℕ) → length t ≡ 7 → from_le_bytes w64 (get_or t 0 0 ∷ get_or t 1 0 ∷ get_or t 2 0 ∷ get_or t 3 0 ∷ get_or t 4 0 ∷ get_or t 5 0 ∷ get_or t 6 0 ∷ 0 ∷ []) ≡ few_bytes t
few_7 [] is = absurd (omega arith)
few_7 (a ∷ []) is = absurd (omega arith)
few_7 (a ∷ b ∷ []) is = absurd (omega arith)
few_7 (a ∷ b ∷ c ∷ []) is = absurd (omega arith)
few_7 (a ∷ b ∷ c ∷ d ∷ []) is = absurd (omega arith)
few_7 (a ∷ b ∷ c ∷ d ∷ e ∷ []) is = absurd (omega arith)
few_7 (a ∷ b ∷ c ∷ d ∷ e ∷ f ∷ []) is = absurd (omega arith)
few_7 (a ∷ b ∷ c ∷ d ∷ e ∷ f ∷ g ∷ []) is = refl
few_7 (a ∷ b ∷ c ∷ d ∷ e ∷ f ∷ g ∷ h ∷ t) is = absurd (omega arith)
