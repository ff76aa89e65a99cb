-- What a token is, and what tokens spell one after the other.
use Rattle.std.specs.Prelude.{◌≡◌, ◌&&◌, true, nat_le, List, [], ◌∷◌, ◌++◌, length, if◌then◌else◌}
use Rattle.jm_model.specs.Words.{Text}
use Rattle.jm_text.specs.declared.token.Token.{Token}
use Rattle.jm_text.specs.Spans.{text_of}
use Rattle.jm_text.specs.Texts.{is_name, is_word, is_mark}

-- a name, this mark, this word
module _ (bytes : Text) where
  abbrev pub IsName : Token → Type 0
  IsName t = is_name bytes t ≡ true

  abbrev pub IsMark : Text → Token → Type 0
  IsMark mark t = is_mark bytes t mark ≡ true

  abbrev pub IsWord : Text → Token → Type 0
  IsWord word t = is_word bytes t word ≡ true

-- the items one after the other
module _ {X : Type 0} (SpellsOne : List Token → X → Type 0) where
  abbrev pub SpellsEach : List Token → List X → Type 0
  SpellsEach tokens [] = tokens ≡ []
  SpellsEach tokens (x ∷ xs) =
      (first : List Token) × (rest : List Token) × (tokens ≡ first ++ rest) × SpellsOne first x × SpellsEach rest xs

-- items with a mark between each two, at least one item: One { mark One }
module _ {X : Type 0} (bytes mark : Text) (SpellsOne : List Token → X → Type 0) where
  -- mark One
  abbrev pub SpellsMore : List Token → X → Type 0
  SpellsMore tokens x = (between : Token) × (inner : List Token) × (tokens ≡ between ∷ inner)
      × IsMark bytes mark between × SpellsOne inner x

  abbrev pub SpellsParted : List Token → List X → Type 0
  SpellsParted tokens [] = ⊥
  SpellsParted tokens (x ∷ xs) = (first : List Token) × (rest : List Token) × (tokens ≡ first ++ rest)
      × SpellsOne first x × SpellsEach SpellsMore rest xs

-- the name that a token says, if it says one
unfoldable pub name_of : Text → Token → Text
name_of bytes token = if nat_le token.start token.end && nat_le token.end (length bytes) && is_name bytes token
    then text_of bytes token else []
