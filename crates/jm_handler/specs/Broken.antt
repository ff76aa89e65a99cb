-- A text as it is written, line by line.
use Rattle.std.specs.Prelude.{ℕ, ◌==◌, [], ◌∷◌, codes, if◌then◌else◌}
use Rattle.std.specs.List.{flat_map}
use Rattle.jm_model.specs.Words.{Text}
use Rattle.jm_text.specs.Pieces.{line_feed}

-- a byte: a line break ends a line and begins another
abbrev pub broken_byte : ℕ → Text
broken_byte b = if b == line_feed then codes "\n  > " else b ∷ []

-- a text after the beginning of its first line
abbrev pub broken : Text → Text
broken text = flat_map broken_byte text
