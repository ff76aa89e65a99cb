-- Names among others.
use Rattle.std.specs.Prelude.{Bool, List}
use Rattle.std.specs.List.{list_any}
use Rattle.std.specs.Str.{bytes_eq}
use Rattle.jm_model.specs.Words.{Text}

-- a name is among others
abbrev pub is_among : List Text → Text → Bool
is_among names name = list_any (bytes_eq name) names
