-- Lists of names.
use Rattle.std.specs.Prelude.{ℕ, Bool, true, false, ◌+◌, ◌==◌, List, [], ◌∷◌, ◌++◌, codes, if◌then◌else◌}
use Rattle.std.specs.List.{flat_map}
use Rattle.std.specs.Int.{bit_at}
use Rattle.jm_model.specs.Words.{Text, Mask}

-- names, each after a comma
abbrev pub later_names : List Text → Text
later_names names = flat_map (λ name. codes "," ++ name) names

-- names with commas between
abbrev pub name_list : List Text → Text
name_list [] = []
name_list (name ∷ names) = name ++ later_names names

-- the same, where no name is a dash
abbrev pub names_or_dash : List Text → Text
names_or_dash [] = codes "-"
names_or_dash (name ∷ names) = name ++ later_names names

-- there is no name
abbrev pub is_empty : List Text → Bool
is_empty [] = true
is_empty (name ∷ names) = false

-- the names of the parameters from p on that a mask has
abbrev pub names_from : ℕ → ℕ → List Text → List Text
names_from mask p [] = []
names_from mask p (name ∷ names) =
    if bit_at mask p == 1 then name ∷ names_from mask (p + 1) names else names_from mask (p + 1) names

-- the names of the parameters of a mask, whose bit p stands for parameter p
abbrev pub names_of_mask : List Text → Mask → List Text
names_of_mask parameters mask = names_from mask 0 parameters
