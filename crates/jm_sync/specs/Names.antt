-- Numbers of names.
use Rattle.std.specs.Prelude.{ℕ, Bool, ◌++◌, List, [], ◌∷◌, nat_eq, if◌then◌else◌}
use Rattle.std.specs.List.{list_any}

-- whether this is one of the numbers
abbrev pub is_among : List ℕ → ℕ → Bool
is_among numbers name = list_any (nat_eq name) numbers

-- the numbers and one more, which goes last if it is new
abbrev pub with_number : List ℕ → ℕ → List ℕ
with_number numbers name = if is_among numbers name then numbers else numbers ++ name ∷ []
