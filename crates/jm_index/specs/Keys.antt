-- What an exact look-up goes by: the parameters and objects of a binding, where these are at most two.
use Rattle.std.specs.Prelude.{ℕ, ◌&&◌, Bool, List, [], ◌∷◌, Option, Some, None, nat_eq, slice_index, slice_index_or}
use Rattle.std.proofs.Common.{zero, suc}
use Rattle.jm_model.specs.Words.{Mask}
use Rattle.jm_model.specs.declared.binding.Binding.{Binding}
use Rattle.jm_model.specs.Bindings.{objects_of, mask_of}
use Rattle.jm_index.specs.declared.key.ParamPair.{ParamPair}
use Rattle.jm_index.specs.declared.key.Key.{Key}
use Rattle.jm_index.specs.declared.key.Key.TheVariants.{Empty, One, Two, More}

-- the key of a binding of these parameters and objects
abbrev pub key_by : Mask → List ℕ → Key
key_by mask [] = Empty
key_by mask (o ∷ []) = One mask o
key_by mask (o ∷ q ∷ []) = Two (record { mask = mask; first = o; second = q })
key_by mask (o ∷ q ∷ r ∷ os) = More

abbrev pub key_of : Binding → Key
key_of b = key_by (mask_of b) (objects_of b)

-- what `==` says of two sets of two parameters with their objects
abbrev pub param_pair_eq : ParamPair → ParamPair → Bool
param_pair_eq a b = nat_eq a.mask b.mask && (nat_eq a.first b.first && nat_eq a.second b.second)

-- what the rows have of an object at a set of one parameter
abbrev pub position_plus_one_at : List (List ℕ) → Mask → ℕ → ℕ
position_plus_one_at rows mask o = slice_index (slice_index_or rows mask []) o

-- the position that this stands for: one less, and none for 0
abbrev pub position_in : ℕ → Option ℕ
position_in zero = None
position_in (suc k) = Some k
