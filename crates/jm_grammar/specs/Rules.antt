-- What each rule of the grammar reads at the front of a list of tokens, where the next token decides.
use Rattle.std.specs.Prelude.{Bool, List, [], ◌∷◌, Some, codes}
use Rattle.jm_model.specs.Words.{Text}
use Rattle.jm_text.specs.declared.token.Token.{Token}
use Rattle.jm_grammar.specs.declared.formula.Part.{Part}
use Rattle.jm_reading.specs.Reading.{◌>>=◌, is_mark_at, is_name_at, is_left, mark_at, name_at}
use Rattle.jm_reading.specs.Taking.{Rule, many_at, more_at, parted_at}

-- Symbol = NAME | "epsilon", and this word is a NAME too
abbrev pub begins_symbol : Text → List Token → Bool
begins_symbol bytes tokens = is_name_at bytes tokens 0

-- Alternative = Symbol { Symbol }
unfoldable pub alternative_at : Rule (List Token)
alternative_at bytes tokens = do
  first ← name_at bytes tokens
  many_at begins_symbol name_at (first.0 ∷ []) bytes first.1

-- "|" Alternative
abbrev pub more_alternative_at : Rule (List Token)
more_alternative_at = more_at (codes "|") alternative_at

abbrev pub begins_more_alternative : Text → List Token → Bool
begins_more_alternative bytes tokens = is_mark_at bytes tokens 0 (codes "|")

-- Production = NAME "->" Alternative { "|" Alternative }
unfoldable pub part_at : Rule Part
part_at bytes tokens = do
  left ← name_at bytes tokens
  inner ← mark_at bytes (codes "->") left.1
  alternatives ← parted_at (codes "|") alternative_at begins_more_alternative bytes inner
  Some (record { left = left.0; alternatives = alternatives.0 }, alternatives.1)

-- "," Production
abbrev pub more_part_at : Rule Part
more_part_at = more_at (codes ",") part_at

-- Formula = Production { "," Production }, up to the end
abbrev pub formula_at : Rule (List Part)
formula_at = parted_at (codes ",") part_at is_left
