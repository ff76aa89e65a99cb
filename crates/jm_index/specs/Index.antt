use Rattle.std.specs.Prelude.{◌≡◌, ℕ, ◌<◌, ◌==◌, Bool, true, false, not, ◌&&◌, List, Some, Contains, filter, map, length, slice_index_or}
use Rattle.std.specs.Option.{option_eq}
use Rattle.std.specs.Cmp.Lexicographic.{pointwise}
use Rattle.std.specs.Prelude.{nat_eq}
use Rattle.jm_model.specs.Words.{Mask}
use Rattle.jm_model.specs.declared.binding.Binding.{Binding}
use Rattle.jm_model.specs.Bindings.{object_at, is_compatible, mask_of}

-- a binding, and the slot that the caller keeps with it
pub record Pair : Type 0 where
  pub binding : Binding
  pub slot : ℕ

-- what contracts see of an index: its pairs, in the order in which they were added, the objects that were dropped, by
-- their flags, and the objects by which its trees lead to an entry
pub record PairList : Type 0 where
  pub list : List Pair
  pub dropped : List Bool
  pub keys : List ℕ

-- a flag of an object; one that has none is unset
abbrev pub flag_of : List Bool → ℕ → Bool
flag_of flags o = slice_index_or flags o false

-- b binds object o
abbrev pub Binds : Binding → ℕ → Type 0
Binds b o = (p : ℕ) × (object_at b p ≡ Some o)

-- object o is a key: a tree of the index leads by it to an entry
abbrev pub IsKey : PairList → ℕ → Type 0
IsKey index o = Contains index.keys o

-- each object of a pair that wasn't dropped is a key
abbrev pub IsKeyed : PairList → Type 0
IsKeyed index =
    (pair : Pair) (o : ℕ) → Contains index.list pair → Binds pair.binding o → flag_of index.dropped o ≡ false
    → IsKey index o

-- b's objects are below n
abbrev pub AreBelow : ℕ → Binding → Type 0
AreBelow n b = (o : ℕ) → Binds b o → o < n

-- the index fits a table of objects, given by its flags of dead objects: the objects of its pairs stand in the table,
-- and each live one is a key, since only dead objects were dropped
pub record IsFitting (index : PairList) (dead : List Bool) : Type 0 where
  pub within : (pair : Pair) → Contains index.list pair → AreBelow (length dead) pair.binding
  pub reached : (o : ℕ) → flag_of index.dropped o ≡ true → flag_of dead o ≡ true
  pub keyed : IsKeyed index

-- no object that b binds is dead
abbrev pub AreLive : List Bool → Binding → Type 0
AreLive dead b = (o : ℕ) → Binds b o → flag_of dead o ≡ false

-- the two bindings are one
abbrev pub is_same : Binding → Binding → Bool
is_same a b = pointwise (option_eq nat_eq) a b

-- the pairs but that of b
abbrev pub without : Binding → List Pair → List Pair
without b list = filter (λ pair. not (is_same b pair.binding)) list

-- the pairs that bind exactly the parameters of `domain`, and agree with b
abbrev pub asked : Mask → Binding → List Pair → List Pair
asked domain b list = filter (λ pair. (mask_of pair.binding == domain) && is_compatible pair.binding b) list

-- the slots of these
abbrev pub asked_slots : Mask → Binding → List Pair → List ℕ
asked_slots domain b list = map (λ pair. pair.slot) (asked domain b list)

-- object o is dead, and wasn't dropped: it died since the dead were dropped last
abbrev pub HasDied : PairList → List Bool → ℕ → Type 0
HasDied index dead o = (flag_of dead o ≡ true) × (flag_of index.dropped o ≡ false)

-- among the slots are those of the pairs that bind such an object
abbrev pub AreListed : PairList → (ℕ → Type 0) → List ℕ → Type 0
AreListed index IsSuch slots =
    (pair : Pair) (o : ℕ) → Contains index.list pair → Binds pair.binding o → IsSuch o → Contains slots pair.slot
