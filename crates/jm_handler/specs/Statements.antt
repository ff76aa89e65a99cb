-- The statements of a block: its tokens, run by run, each up to and with a `;` or a block outside brackets.
use Rattle.std.specs.Prelude.{ℕ, ◌≡◌, ◌+◌, ◌-◌, ◌<◌, ◌≤◌, Bool, true, ◌||◌, ◌⊎◌, List, [], ◌∷◌, length, take, drop, fold, slice_get, codes, IsSomeAnd, if◌then◌else◌}
use Rattle.jm_model.specs.Words.{Text}
use Rattle.jm_text.specs.declared.token.Token.{Token}
use Rattle.jm_text.specs.Texts.{is_mark}

-- the token opens a bracket, or closes one (`(*)` and `[*]` are marks of their own, and do neither)
abbrev pub opens : Text → Token → Bool
opens bytes t = is_mark bytes t (codes "(") || is_mark bytes t (codes "[") || is_mark bytes t (codes "{")

abbrev pub closes : Text → Token → Bool
closes bytes t = is_mark bytes t (codes ")") || is_mark bytes t (codes "]") || is_mark bytes t (codes "}")

-- how many brackets are open after a token, where so many are open before it; where none is, none is closed
abbrev pub depth_behind : Text → ℕ → Token → ℕ
depth_behind bytes depth t = if opens bytes t then depth + 1 else if closes bytes t then depth - 1 else depth

-- how many are open after a run
abbrev pub depth_of : Text → List Token → ℕ
depth_of bytes run = fold (depth_behind bytes) 0 run

-- a statement may end with the token
abbrev pub may_end : Text → Token → Bool
may_end bytes t = is_mark bytes t (codes ";") || is_mark bytes t (codes "}")

-- a statement ends at this place: the token there is a `;` outside brackets, or closes a block outside brackets
abbrev pub EndsAt : Text → List Token → ℕ → Type 0
EndsAt bytes tokens k =
    (depth_of bytes (take (k + 1) tokens) ≡ 0) × IsSomeAnd (slice_get tokens k) (λ t. may_end bytes t ≡ true)

-- the first so many tokens are a statement: up to and with the first place where one ends, or all, where there is none
pub record IsStatement (bytes : Text) (tokens : List Token) (n : ℕ) : Type 0 where
  pub some : 0 < n
  pub within : n ≤ length tokens
  pub first : (k : ℕ) → k + 1 < n → EndsAt bytes tokens k → ⊥
  pub ended : (n ≡ length tokens) ⊎ EndsAt bytes tokens (n - 1)

-- the statements of the tokens, in order
abbrev pub AreStatements : Text → List Token → List (List Token) → Type 0
AreStatements bytes tokens [] = tokens ≡ []
AreStatements bytes tokens (run ∷ runs) =
    IsStatement bytes tokens (length run) × (run ≡ take (length run) tokens)
    × AreStatements bytes (drop (length run) tokens) runs
