-- What may be said step by step, and what is said under the guidance of a text.
use Rattle.std.specs.Prelude.{ℕ, ◌≡◌, ◌≢◌, [], ◌∷◌, ◌++◌}
use mathlib.Core.List.{IsPrefix}
use Rattle.jm_model.specs.Words.{Text}

-- a text whose last byte, if it has one, is a line feed
abbrev pub EndsLine : Text → Type 0
EndsLine [] = Unit {0}
EndsLine (b ∷ []) = b ≡ 10
EndsLine (b ∷ c ∷ bs) = EndsLine (c ∷ bs)

-- no byte of it is a line feed
abbrev pub IsOneLine : Text → Type 0
IsOneLine [] = Unit {0}
IsOneLine (b ∷ bs) = (b ≢ 10) × IsOneLine bs

-- From a state a caller can go on: with a line, more lines after it, and the next state. Or the state ends, with a
-- text.
module _ {S : Type 0} (Goes : S → ℕ → Text → Text → S → Type 0) (Ends : S → Text → Type 0) where
  abbrev pub said : Text → Text → Text
  said line more = (line ++ 10 ∷ []) ++ more

  -- what may be said from a state on
  pub data Says : S → Text → Type 0 where
    stop : {s : S} {v : Text} → Ends s v → Says s v
    go : {s : S} {v : Text} (k : ℕ) (line more w : Text) (n : S) → Goes s k line more n → v ≡ said line more ++ w
        → Says n w → Says s v

  -- a text that begins with the line of a caller picks that caller and no other
  abbrev pub Picks : S → ℕ → Text → Type 0
  Picks s k t = (j : ℕ) (line more : Text) (n : S) → Goes s j line more n → IsPrefix (line ++ 10 ∷ []) t → j ≡ k

  -- What is said where the text picks the callers, as long as it goes on with what they say. The text is what is left
  -- of it.
  pub data Guided : S → Text → Text → Type 0 where
    stopped : {s : S} {t u : Text} → Ends s u → Guided s t u
    follows : {s : S} {t u : Text} (k : ℕ) (line more r w : Text) (n : S) → Goes s k line more n → Picks s k t
        → t ≡ said line more ++ r → u ≡ said line more ++ w → Guided n r w → Guided s t u
    leaves : {s : S} {t u : Text} (k : ℕ) (line more w : Text) (n : S) → Goes s k line more n → Picks s k t
        → (IsPrefix (said line more) t → ⊥) → u ≡ said line more ++ w → Says n w → Guided s t u

  -- what the steps have to be: a line has no line feed, a caller goes on in one way, a state ends in one way, and none
  -- goes on from a state that ends
  pub record AreDetermined : Type 0 where
    pub one_line : (s : S) (k : ℕ) (line more : Text) (n : S) → Goes s k line more n → IsOneLine line
    pub one_way : (s : S) (k : ℕ) (line more : Text) (n : S) (line' more' : Text) (n' : S) → Goes s k line more n
        → Goes s k line' more' n' → (line ≡ line') × (more ≡ more') × (n ≡ n')
    pub one_end : (s : S) (u v : Text) → Ends s u → Ends s v → u ≡ v
    pub apart : (s : S) (u : Text) (k : ℕ) (line more : Text) (n : S) → Ends s u → Goes s k line more n → ⊥
