-- How an index lies in memory: entries in the order in which they were added, some no longer live; for each binding
-- the position of its entry; and trees, by the set of bound parameters, whose paths lead to positions. Path 0
-- of a tree leads to all its entries, and path o + 1 to those that bind object o.
use Rattle.std.specs.Prelude.{◌≡◌, ℕ, ◌+◌, ◌<◌, ◌≤◌, ◌==◌, Bool, true, false, cond, ◌&&◌, ◌⊎◌, List, [], ◌∷◌, Option, Some, None, Contains, length, slice_get, slice_index_or, option_and_then}
use Rattle.std.specs.List.{filter, filter_map, flat_map, range_with_len}
use Rattle.std.proofs.Common.{suc}
use Rattle.jm_model.specs.Words.{Mask}
use Rattle.jm_model.specs.declared.binding.Binding.{Binding}
use Rattle.jm_model.specs.Bindings.{object_at, is_compatible, mask_of}
use Rattle.jm_index.specs.declared.entry.Entry.{Entry}
use Rattle.jm_index.specs.Index.{Pair, Binds, flag_of, AreBelow}
use Rattle.jm_index.specs.Postings.{Paths, no_paths, one_of, many_of, together}

-- the pair of an entry, if the entry is live
abbrev pub pair_of : Entry → Option Pair
pair_of e = cond e.live (Some (record { binding = e.binding; slot = e.slot })) None

-- the pairs of the live entries
abbrev pub live_pairs : List Entry → List Pair
live_pairs entries = filter_map pair_of entries

-- the pair at a position
abbrev pub pair_at : List Entry → ℕ → Option Pair
pair_at entries k = option_and_then pair_of (slice_get entries k)

-- whether the entry at a position is live
abbrev pub live_of : Option Entry → Bool
live_of None = false
live_of (Some e) = e.live

abbrev pub is_live_at : List Entry → ℕ → Bool
is_live_at entries k = live_of (slice_get entries k)

-- the slot of an entry that is live, binds exactly the parameters of `domain` and agrees with b
abbrev pub slot_of : Mask → Binding → Entry → Option ℕ
slot_of domain b e = cond (e.live && ((mask_of e.binding == domain) && is_compatible e.binding b)) (Some e.slot) None

-- that of the entry at a position
abbrev pub slot_at : List Entry → Mask → Binding → ℕ → Option ℕ
slot_at entries domain b k = option_and_then (slot_of domain b) (slice_get entries k)

-- numbers that rise strictly, from `low` on
abbrev pub Rises : ℕ → List ℕ → Type 0
Rises low [] = Unit {0}
Rises low (x ∷ xs) = (low ≤ x) × Rises (suc x) xs

-- the posting after a position is filed in it
abbrev pub IsFiled : ℕ → List ℕ → List ℕ → Type 0
IsFiled k old new = ((x : ℕ) → Contains old x → Contains new x) × ((x : ℕ) → Contains new x → Contains old x ⊎ (x ≡ k))

-- the positions that a path leads to
abbrev pub posting_of : Paths → ℕ → List ℕ
posting_of tree path = together (one_of tree path) (many_of tree path)

-- the tree of a set of parameters
abbrev pub tree_at : List Paths → Mask → Paths
tree_at trees mask = slice_index_or trees mask no_paths

-- the positions that a path leads to in the tree of a set of parameters
abbrev pub posting_at : List Paths → Mask → ℕ → List ℕ
posting_at trees mask path = posting_of (tree_at trees mask) path

-- the list has an element
abbrev pub has_some : List ℕ → Bool
has_some [] = false
has_some (x ∷ xs) = true

-- the objects by which a tree leads to a position
abbrev pub keys_in : Paths → List ℕ
keys_in tree = filter (λ o. has_some (posting_of tree (o + 1))) (range_with_len 0 (length tree.leaves))

-- those by which one of the trees does
abbrev pub keys_of : List Paths → List ℕ
keys_of trees = flat_map keys_in trees

-- a path of the tree that leads to b, where only objects that weren't dropped have paths
abbrev pub IsPath : List Bool → Binding → ℕ → Type 0
IsPath dropped b path = (path ≡ 0) ⊎ ((o : ℕ) × Binds b o × (flag_of dropped o ≡ false) × (path ≡ o + 1))

-- a path of the tree that leads to all that is above b
abbrev pub IsPathBelow : Binding → ℕ → Type 0
IsPathBelow b path = (path ≡ 0) ⊎ ((o : ℕ) × (p : ℕ) × (object_at b p ≡ Some o) × (path ≡ o + 1))

-- every position that stands in a posting passes the test
abbrev pub AllFiled : (ℕ → Type 0) → List Paths → Type 0
AllFiled P trees = (mask path k : ℕ) → Contains (posting_at trees mask path) k → P k

-- the object has a flag, which isn't set
abbrev pub IsUnset : List Bool → ℕ → Type 0
IsUnset dropped o = (o < length dropped) × (flag_of dropped o ≡ false)

-- nothing is filed but under what was filed before, beside the position k, and under objects that weren't dropped;
-- nothing is lost
pub record AreFiled (dropped : List Bool) (k : ℕ) (old new : List Paths) : Type 0 where
  pub kept : (mask path x : ℕ) → Contains (posting_at old mask path) x → Contains (posting_at new mask path) x
  pub only : (mask path x : ℕ) → Contains (posting_at new mask path) x → Contains (posting_at old mask path) x ⊎ (x ≡ k)
  pub led : (mask o x : ℕ) → Contains (posting_at new mask (o + 1)) x
      → Contains (posting_at old mask (o + 1)) x ⊎ IsUnset dropped o

-- nothing is added, and no position of a live entry is lost
pub record AreThinned (entries : List Entry) (old new : List Paths) : Type 0 where
  pub within : (mask path x : ℕ) → Contains (posting_at new mask path) x → Contains (posting_at old mask path) x
  pub live : (mask path x : ℕ) → is_live_at entries x ≡ true → Contains (posting_at old mask path) x
      → Contains (posting_at new mask path) x

-- what lies in memory fits together
pub record IsIndexed (entries : List Entry) (position : Binding → Option ℕ) (trees : List Paths)
    (dropped : List Bool) : Type 0 where
  -- each pair's binding has its position, and each position is that of its binding's pair
  pub placed : (k : ℕ) (pair : Pair) → pair_at entries k ≡ Some pair → position pair.binding ≡ Some k
  pub found : (b : Binding) (k : ℕ) → position b ≡ Some k
      → (slot : ℕ) × (pair_at entries k ≡ Some (record { binding = b; slot = slot }))
  -- each pair is reached by each of its objects that wasn't dropped, and by the list of its tree
  pub reached : (k : ℕ) (pair : Pair) → pair_at entries k ≡ Some pair → (path : ℕ) → IsPath dropped pair.binding path
      → Contains (posting_at trees (mask_of pair.binding) path) k
  pub inside : AllFiled (λ k. k < length entries) trees
  -- each pair's objects have flags, and so has each by which something is reached, and its flag isn't set
  pub flagged : (k : ℕ) (pair : Pair) → pair_at entries k ≡ Some pair → AreBelow (length dropped) pair.binding
  pub led : (mask o x : ℕ) → Contains (posting_at trees mask (o + 1)) x → IsUnset dropped o
