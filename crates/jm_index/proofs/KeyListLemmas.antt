-- The keys of an index are the objects by which its trees lead to a position.
use Rattle.std.proofs.Common.{◌≡◌, ℕ, zero, suc, ◌+◌, ◌<◌, ◌≤◌, Bool, true, false, cond, List, [], ◌∷◌, ◌++◌, length, get_or, refl, sym, ap, ◌∙◌, subst, arith, ◌⊎◌, inl, inr}
use Rattle.std.specs.Prelude.{Contains, filter}
use Rattle.std.specs.List.{flat_map, range_with_len}
use Rattle.std.proofs.lemmas.Bool.{cases_lt, false≢true}
use Rattle.std.proofs.lemmas.List.{get_or_past}
use Rattle.std.proofs.lemmas.List.Elements.{Contains-append_left, Contains-append_right, Contains-append_cases}
use Rattle.std.proofs.lemmas.List.FromFn.{length-range_with_len, get_or-range_with_len}
use Rattle.jm_index.specs.declared.tree.Leaf.{Leaf}
use Rattle.jm_index.specs.declared.tree.Leaf.TheVariants.{Nothing}
use Rattle.jm_index.specs.Postings.{Paths, no_paths, one_in, many_in, together}
use Rattle.jm_index.specs.Layout.{posting_of, posting_at, has_some, keys_in, keys_of}
use Rattle.jm_index.proofs.ReadLemmas.{Contains-none, Contains-cons}

some_of : (xs : List ℕ) → has_some xs ≡ true → (k : ℕ) × Contains xs k
some_of [] is = absurd (false≢true is)
some_of (x ∷ xs) is = (x, (0, (omega arith), refl))

has_some-Contains : (xs : List ℕ) (k : ℕ) → Contains xs k → has_some xs ≡ true
has_some-Contains [] k there = absurd (Contains-none k there)
has_some-Contains (x ∷ xs) k there = refl

-- what a filter keeps passes the test, and what passes is kept
kept_passes : (test : ℕ → Bool) (xs : List ℕ) (x : ℕ) → Contains (filter test xs) x → test x ≡ true
kept_passes test [] x h = absurd (Contains-none x h)
kept_passes test (y ∷ xs) x h = at (kept_passes test xs x) (test y) refl h
  where
    at : (Contains (filter test xs) x → test x ≡ true) → (v : Bool) → test y ≡ v → Contains (cond v (y ∷ filter test xs) (filter test xs)) x → test x ≡ true
    at ih true is (zero, l, e) = ap test (sym e) ∙ is
    at ih true is (suc k, l, e) = ih (k, (omega arith), e)
    at ih false is g = ih g

passing_kept : (test : ℕ → Bool) (xs : List ℕ) (x : ℕ) → Contains xs x → test x ≡ true → Contains (filter test xs) x
passing_kept test [] x there is = absurd (Contains-none x there)
passing_kept test (y ∷ xs) x (zero, h, e) is = at (test y) (ap test e ∙ is)
  where
    at : (v : Bool) → v ≡ true → Contains (cond v (y ∷ filter test xs) (filter test xs)) x
    at true t = (0, (omega arith), e)
    at false t = absurd (false≢true t)
passing_kept test (y ∷ xs) x (suc k, h, e) is = at (test y) (passing_kept test xs x (k, (omega arith), e) is)
  where
    at : (v : Bool) → Contains (filter test xs) x → Contains (cond v (y ∷ filter test xs) (filter test xs)) x
    at true there = Contains-cons y x (filter test xs) there
    at false there = there

-- an object by which a tree leads to a position has a leaf
leaf_there : (tree : Paths) (o k : ℕ) → Contains (posting_of tree (o + 1)) k → o < length tree.leaves
leaf_there tree o k there =
    elim (cases_lt (o + 1) (length tree.leaves)) [
      | inl low ↦ omega (arith, low)
      | inr past ↦
          absurd (Contains-none k (subst (λ (l : Leaf). Contains (together (one_in l) (many_in tree.postings (o + 1) l)) k) (get_or_past tree.leaves (o + 1) Nothing past) there))
    ]

key_in_leads : (tree : Paths) (o : ℕ) → Contains (keys_in tree) o → (k : ℕ) × Contains (posting_of tree (o + 1)) k
key_in_leads tree o key = some_of (posting_of tree (o + 1)) (kept_passes (λ q. has_some (posting_of tree (q + 1))) (range_with_len 0 (length tree.leaves)) o key)

leads_key_in : (tree : Paths) (o k : ℕ) → Contains (posting_of tree (o + 1)) k → Contains (keys_in tree) o
leads_key_in tree o k there =
    passing_kept (λ q. has_some (posting_of tree (q + 1))) (range_with_len 0 (length tree.leaves)) o
    (o, rw (length-range_with_len 0 (length tree.leaves)) low, get_or-range_with_len 0 (length tree.leaves) o o low ∙ (omega arith)) (has_some-Contains (posting_of tree (o + 1)) k there)
  where
    low : o < length tree.leaves
    low = leaf_there tree o k there

pub key_leads : (trees : List Paths) (o : ℕ) → Contains (keys_of trees) o → (m : ℕ) × (k : ℕ) × Contains (posting_at trees m (o + 1)) k
key_leads [] o key = absurd (Contains-none o key)
key_leads (tree ∷ trees) o key =
    elim (Contains-append_cases (keys_in tree) (keys_of trees) o key) [
      | inl here ↦ let (k, there) = key_in_leads tree o here in (0, k, there)
      | inr rest ↦ let (m, k, there) = key_leads trees o rest in (suc m, k, there)
    ]

pub leads_key : (trees : List Paths) (m o k : ℕ) → Contains (posting_at trees m (o + 1)) k → Contains (keys_of trees) o
leads_key [] m o k there = absurd (Contains-none k there)
leads_key (tree ∷ trees) zero o k there = Contains-append_left (keys_in tree) (keys_of trees) o (leads_key_in tree o k there)
leads_key (tree ∷ trees) (suc m) o k there = Contains-append_right (keys_in tree) (keys_of trees) o (leads_key trees m o k there)
