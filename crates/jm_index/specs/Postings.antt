-- How the positions of a tree lie in memory, and what is left of some once they were thinned out.
use Rattle.std.specs.Prelude.{◌≡◌, ℕ, ◌==◌, ◌<◌, Bool, cond, List, [], ◌∷◌, Option, Some, None, filter, ◌⊎◌, length, slice_index_or}
use Rattle.jm_index.specs.declared.tree.Leaf.{Leaf}
use Rattle.jm_index.specs.declared.tree.Leaf.TheVariants.{Nothing, One, Many}

-- positions, and the path whose they are
pub record Owned : Type 0 where
  pub owner : ℕ
  pub positions : List ℕ

-- what lies in a tree: a leaf for each path, and postings
pub record Paths : Type 0 where
  pub leaves : List Leaf
  pub postings : List Owned

-- a tree without paths
abbrev pub no_paths : Paths
no_paths = record { leaves = []; postings = [] }

-- the positions, where they are those of the path
abbrev pub part_of : ℕ → Owned → List ℕ
part_of path p = cond (p.owner == path) p.positions []

-- the posting of a number
abbrev pub posting_by : List Owned → ℕ → Owned
posting_by postings number = slice_index_or postings number (record { owner = 0; positions = [] })

-- what the posting of a number has of a path
abbrev pub owned_at : List Owned → ℕ → ℕ → List ℕ
owned_at postings path number = part_of path (posting_by postings number)

abbrev pub leaf_of : Paths → ℕ → Leaf
leaf_of tree path = slice_index_or tree.leaves path Nothing

abbrev pub one_in : Leaf → Option ℕ
one_in Nothing = None
one_in (One k) = Some k
one_in (Many i) = None

-- the position that a path leads to, where it leads to one alone
abbrev pub one_of : Paths → ℕ → Option ℕ
one_of tree path = one_in (leaf_of tree path)

abbrev pub many_in : List Owned → ℕ → Leaf → List ℕ
many_in postings path Nothing = []
many_in postings path (One k) = []
many_in postings path (Many i) = owned_at postings path i

-- the positions of the posting that a path owns
abbrev pub many_of : Paths → ℕ → List ℕ
many_of tree path = many_in tree.postings path (leaf_of tree path)

-- the path leads to the posting of this number, and owns it
pub record IsOwned (tree : Paths) (path number : ℕ) : Type 0 where
  pub within : number < length tree.postings
  pub leaf : leaf_of tree path ≡ Many number
  pub owner : (posting_by tree.postings number).owner ≡ path

-- the one position, where there is one, and else the many
abbrev pub together : Option ℕ → List ℕ → List ℕ
together None many = many
together (Some k) many = k ∷ []

-- all are kept, or those that pass the test
abbrev pub IsThinned : (ℕ → Bool) → List ℕ → List ℕ → Type 0
IsThinned test old new = (new ≡ old) ⊎ (new ≡ filter test old)
