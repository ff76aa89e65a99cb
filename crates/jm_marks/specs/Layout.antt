-- How the marks lie in memory: those of one parameter as bits, and the others in a set, whose keys are compared by
-- their masks and objects, with the list of the sets of parameters and a limit of the objects of all beside it, and a
-- row with a spot for each mark of the set.
use Rattle.std.specs.Prelude.{◌≡◌, ℕ, ◌+◌, ◌<◌, ◌⊎◌, Bool, false, List, [], Option, Some, Contains, length, slice_index, slice_index_or}
use Rattle.std.specs.List.{IsDistinct}
use Rattle.jm_model.specs.declared.binding.Binding.{Binding}
use Rattle.jm_model.specs.Words.{Mask}
use Rattle.jm_model.specs.Bindings.{mask_of, object_at}
use Rattle.jm_model.specs.Layout.{binding_eq}
use Rattle.jm_marks.specs.Objects.{IsWithin}
use Rattle.jm_marks.specs.Singles.{IsSingle}

-- each mark's set of parameters is among those of the list, and its objects are below the limit
pub record AreMarks (marks : List Binding) (masks : List Mask) (limit : ℕ) : Type 0 where
  pub listed : (b : Binding) → Contains marks b → Contains masks (mask_of b)
  pub within : (b : Binding) → Contains marks b → IsWithin limit b

-- the bindings of the set are distinct, none is among the singles, and unless there are strays none binds one
-- parameter alone
pub record AreApart (singles bindings : List Binding) (has_strays : Bool) : Type 0 where
  pub distinct : IsDistinct binding_eq bindings
  pub apart : (b : Binding) → Contains singles b → Contains bindings b → ⊥
  pub none : has_strays ≡ false → (b : Binding) → Contains bindings b → IsSingle b → ⊥

-- b binds the object
abbrev pub IsBound : Binding → ℕ → Type 0
IsBound b o = (p : ℕ) × (object_at b p ≡ Some o)

-- b binds the object, if there is one
abbrev pub IsBoundBy : Binding → Option ℕ → Type 0
IsBoundBy b o = (q : ℕ) → o ≡ Some q → IsBound b q

-- the spot is 0, or one more than an object that b binds
abbrev pub IsWatched : Binding → ℕ → Type 0
IsWatched b s = (s ≡ 0) ⊎ ((o : ℕ) × (s ≡ o + 1) × IsBound b o)

-- a spot for each binding, in order
pub record AreWatched (bindings : List Binding) (spots : List ℕ) : Type 0 where
  pub size : length spots ≡ length bindings
  pub each : (k : ℕ) → k < length bindings → IsWatched (slice_index_or bindings k []) (slice_index spots k)
