-- How the positions of bindings lie in memory. A binding of at most two parameters has its position under its key,
-- where the position fits four bytes: that of no parameter by itself, those of one parameter by object in a row for
-- each parameter, those of two in a hash map. All other bindings have theirs in a hash map of whole bindings.
use Rattle.std.specs.Prelude.{◌≡◌, ℕ, ◌==◌, cond, Option, None, length}
use Rattle.std.specs.Option.{option_or}
use Rattle.std.specs.HashMap.{get}
use Rattle.jm_model.specs.declared.binding.Binding.{Binding}
use Rattle.jm_model.specs.Layout.{binding_eq}
use Rattle.jm_index.specs.declared.key.Key.{Key}
use Rattle.jm_index.specs.declared.key.Key.TheVariants.{Empty, One, Two, More}
use Rattle.jm_index.specs.declared.positions.Positions.{Positions}
use Rattle.jm_index.specs.Keys.{key_of, param_pair_eq, position_plus_one_at, position_in}

-- the position under a key
abbrev pub at_key : Positions → Key → Option ℕ
at_key s Empty = s.empty
at_key s (One mask o) = position_in (position_plus_one_at s.rows mask o)
at_key s (Two k) = get param_pair_eq s.param_pairs k
at_key s More = None

-- the position of a binding
unfoldable pub position_of : Positions → Binding → Option ℕ
position_of s b = cond (length b == 8) (option_or (at_key s (key_of b)) (get binding_eq s.others b)) None

-- the same under each key
abbrev pub IsSameAt : Positions → Positions → Type 0
IsSameAt old new = (key : Key) → at_key new key ≡ at_key old key

-- this under the key, which isn't that of all other bindings, and the same under each other one
pub record IsPut (key : Key) (position : Option ℕ) (old new : Positions) : Type 0 where
  pub here : at_key new key ≡ position
  pub exact : key ≡ More → position ≡ None
  pub elsewhere : (other : Key) → (other ≡ key → ⊥) → at_key new other ≡ at_key old other

-- the same of each binding
abbrev pub IsSame : Positions → Positions → Type 0
IsSame old new = (b : Binding) → position_of new b ≡ position_of old b

-- this of a binding, and the same of each other one
abbrev pub IsUpdated : Binding → Option ℕ → Positions → Positions → Type 0
IsUpdated b position old new = (q : Binding) → position_of new q ≡ cond (binding_eq b q) position (position_of old q)
