-- The text of a handler that runs.
use Rattle.std.specs.Prelude.{ℕ, ◌≡◌, ◌<◌, ◌==◌, List, [], ◌∷◌, ◌++◌, length, Option, Some, None, slice_get, unwrap_or, codes, decimal, if◌then◌else◌}
use Rattle.std.specs.List.{flat_map}
use Rattle.jm_model.specs.Words.{Text}
use Rattle.jm_model.specs.declared.binding.Binding.{Binding}
use Rattle.jm_model.specs.Bindings.{object_at}
use Rattle.jm_text.specs.Pieces.{line_feed}
use Rattle.jm_handler.specs.declared.term.Term.{Term}
use Rattle.jm_handler.specs.declared.term.Term.TheVariants.{Literal, Parameter, Place}

-- what a handler runs for: an instance, the names of the objects, and the place of the event
pub record Occasion : Type 0 where
  pub instance : Binding
  pub objects : List Text
  pub caller : ℕ
  pub line : ℕ

abbrev pub occasion : Binding → List Text → ℕ → ℕ → Occasion
occasion instance objects caller line = record { instance = instance; objects = objects; caller = caller; line = line }

-- each object that is bound has a name
abbrev pub AreNamed : List Text → Binding → Type 0
AreNamed objects b = (p o : ℕ) → object_at b p ≡ Some o → o < length objects

-- the name of an object, if there is one
abbrev pub object_text : List Text → Option ℕ → Text
object_text objects None = codes "null"
object_text objects (Some o) = unwrap_or (slice_get objects o) []

-- a term: a text, the object that a parameter is bound to, the caller and the line
abbrev pub term_text : Occasion → Term → Text
term_text at (Literal text) = text
term_text at (Parameter p) = object_text at.objects (object_at at.instance p)
term_text at Place = decimal at.caller ++ codes ":" ++ decimal at.line

-- the text of a statement
abbrev pub statement_text : Occasion → List Term → Text
statement_text at terms = flat_map (term_text at) terms

-- a byte more in front of the first piece
abbrev pub longer : ℕ → List Text → List Text
longer b [] = (b ∷ []) ∷ []
longer b (piece ∷ pieces) = (b ∷ piece) ∷ pieces

-- a text cut at each of its line breaks
abbrev pub pieces_of : Text → List Text
pieces_of [] = [] ∷ []
pieces_of (b ∷ bs) = if b == line_feed then [] ∷ pieces_of bs else longer b (pieces_of bs)

-- the line of a piece
abbrev pub piece_line : Text → Text
piece_line piece = codes "  > " ++ piece ++ codes "\n"

-- the lines of a text
abbrev pub marked_lines : Text → Text
marked_lines text = flat_map piece_line (pieces_of text)

-- what a handler of these statements prints
abbrev pub handler_text : Occasion → List (List Term) → Text
handler_text at statements = flat_map (λ terms. marked_lines (statement_text at terms)) statements
