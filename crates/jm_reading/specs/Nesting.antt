-- How many parentheses of a formula are open at once.
use Rattle.std.specs.Prelude.{ℕ, ◌+◌, ◌-◌, Bool, true, false, List, [], ◌∷◌, codes, nat_lt, if◌then◌else◌}
use Rattle.jm_model.specs.Words.{Text}
use Rattle.jm_text.specs.declared.token.Token.{Token}
use Rattle.jm_text.specs.Texts.{is_mark}

module _ (bytes : Text) where
  -- how many parentheses are open after a token; one that closes nothing counts for nothing
  abbrev pub depth_after : ℕ → Token → ℕ
  depth_after depth t =
      if is_mark bytes t (codes "(") then depth + 1 else if is_mark bytes t (codes ")") then depth - 1 else depth

  -- a 65th parenthesis is open at once, where so many are open before the tokens
  abbrev pub is_too_deep : ℕ → List Token → Bool
  is_too_deep depth [] = false
  is_too_deep depth (t ∷ ts) =
      if nat_lt 64 (depth_after depth t) then true else is_too_deep (depth_after depth t) ts
