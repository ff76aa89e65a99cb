-- The words that may name an object.
use Rattle.std.specs.Prelude.{ℕ, Bool, ◌&&◌, ◌||◌, ◌==◌, nat_le, length}
use Rattle.std.specs.List.{list_all}
use Rattle.jm_model.specs.Words.{Text}
use Rattle.jm_text.specs.Texts.{is_name_byte}

-- a byte of a name, `.`, `@` or `-`
abbrev pub is_object_byte : ℕ → Bool
is_object_byte b = is_name_byte b || b == 46 || b == 64 || b == 45

-- 1 to 255 of these bytes: the name of an object
abbrev pub is_object : Text → Bool
is_object word = nat_le 1 (length word) && nat_le (length word) 255 && list_all is_object_byte word
