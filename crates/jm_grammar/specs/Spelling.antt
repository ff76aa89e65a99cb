-- What the tokens of a formula spell, by the grammar of grammars:
--
--   Formula     = Production { "," Production }
--   Production  = NAME "->" Alternative { "|" Alternative }
--   Alternative = Symbol { Symbol }
--   Symbol      = NAME | "epsilon", where the NAME isn't `epsilon`
use Rattle.std.specs.Prelude.{◌≡◌, ◌⊎◌, List, [], ◌∷◌, codes}
use Rattle.jm_model.specs.Words.{Text}
use Rattle.jm_text.specs.declared.token.Token.{Token}
use Rattle.jm_reading.specs.Tokens.{IsName, IsMark, IsWord, SpellsEach, SpellsParted}
use Rattle.jm_grammar.specs.declared.formula.Part.{Part}

module _ (bytes : Text) where
  -- NAME | "epsilon"
  abbrev pub SpellsSymbol : List Token → Token → Type 0
  SpellsSymbol tokens symbol =
      (tokens ≡ symbol ∷ []) × ((IsName bytes symbol × (IsWord bytes (codes "epsilon") symbol → ⊥))
      ⊎ IsWord bytes (codes "epsilon") symbol)

  -- Symbol { Symbol }
  abbrev pub SpellsAlternative : List Token → List Token → Type 0
  SpellsAlternative tokens [] = ⊥
  SpellsAlternative tokens (symbol ∷ symbols) = SpellsEach SpellsSymbol tokens (symbol ∷ symbols)

  -- NAME "->" Alternative { "|" Alternative }
  abbrev pub SpellsPart : List Token → Part → Type 0
  SpellsPart tokens part =
      (arrow : Token) × (inner : List Token) × (tokens ≡ part.left ∷ arrow ∷ inner)
      × IsName bytes part.left × IsMark bytes (codes "->") arrow
      × SpellsParted bytes (codes "|") SpellsAlternative inner part.alternatives

  -- the tokens spell the formula
  unfoldable pub Spells : List Token → List Part → Type 0
  Spells tokens parts = SpellsParted bytes (codes ",") SpellsPart tokens parts
