use Rattle.std.specs.Prelude.{◌≡◌, ℕ, Bool, false, not, List, Option, Some, None, Contains, IsTrue, slice_index_or}
use Rattle.std.specs.List.{list_any}
use Rattle.jm_model.specs.declared.binding.Binding.{Binding}
use Rattle.jm_model.specs.Words.{Mask}
use Rattle.jm_model.specs.Bindings.{is_below, mask_of, mask_where, objects_of}

-- what contracts see of the marks: their list, and how many can be added with no memory
pub record MarkList : Type 0 where
  pub list : List Binding
  pub spare : ℕ

-- object o is dead, by the flags of all objects
abbrev pub is_dead_object : List Bool → ℕ → Bool
is_dead_object flags o = slice_index_or flags o false

-- a parameter is bound, and to a dead object
abbrev pub is_at_dead : List Bool → Option ℕ → Bool
is_at_dead flags None = false
is_at_dead flags (Some o) = is_dead_object flags o

-- a parameter is bound, and to a live object
abbrev pub is_at_live : List Bool → Option ℕ → Bool
is_at_live flags None = false
is_at_live flags (Some o) = not (is_dead_object flags o)

-- the set of the parameters that b binds to dead objects
abbrev pub dead_mask_of : List Bool → Binding → Mask
dead_mask_of flags b = mask_where (is_dead_object flags) b

-- b binds a live object
abbrev pub has_live : List Bool → Binding → Bool
has_live flags b = list_any (λ o. not (is_dead_object flags o)) (objects_of b)

-- every mark that lies below `above` lies below `below`
abbrev pub IsCovered : List Binding → Binding → Binding → Type 0
IsCovered marks above below = (m : Binding) → Contains marks m → IsTrue (is_below m above) → IsTrue (is_below m below)

-- the same of the marks with one set of parameters
abbrev pub IsCoveredAt : List Binding → Binding → Binding → Mask → Type 0
IsCoveredAt marks above below mask =
    (m : Binding) → Contains marks m → mask_of m ≡ mask → IsTrue (is_below m above) → IsTrue (is_below m below)
