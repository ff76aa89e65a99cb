-- What the paths of a tree lead to, and what changes of it.
use Rattle.std.proofs.Common.{◌≡◌, ℕ, zero, suc, ◌<◌, ◌==◌, Bool, true, false, cond, List, [], ◌∷◌, Option, Some, length, get_or, refl, sym, ap, ◌∙◌, subst, arith, ◌⊎◌, inl, inr}
use Rattle.std.specs.Prelude.{Contains, slice_set}
use Rattle.std.proofs.Math.ListN.{length-set}
use Rattle.std.proofs.lemmas.Bool.{cases_eq, eq-eqb, ne_eqb, both_ways}
use Rattle.std.proofs.lemmas.List.{get_or-set_same, get_or-set_other}
use Rattle.jm_index.specs.declared.tree.Leaf.{Leaf}
use Rattle.jm_index.specs.declared.tree.Leaf.TheVariants.{Nothing, One, Many}
use Rattle.jm_index.specs.declared.entry.Entry.{Entry}
use Rattle.jm_index.specs.Postings.{Owned, Paths, part_of, posting_by, leaf_of, one_in, one_of, many_in, many_of, together, IsOwned}
use Rattle.jm_index.specs.Layout.{posting_of, is_live_at, IsFiled}
use Rattle.jm_index.proofs.TreeLemmas.{read_place, set_kept}

abbrev nobody : Owned
nobody = record { owner = 0; positions = [] }

-- the same leaf, and the same postings
pub posting_same : (old new : Paths) (path : ℕ) → leaf_of new path ≡ leaf_of old path → new.postings ≡ old.postings → posting_of new path ≡ posting_of old path
posting_same old new path leaf postings = rw (leaf, postings) refl

-- a leaf of the same tree with other postings
abbrev under : List Owned → ℕ → Leaf → List ℕ
under postings path leaf = together (one_in leaf) (many_in postings path leaf)

-- a path leads to the posting that it owns
pub posting_owned : (t : Paths) (path number : ℕ) → IsOwned t path number → posting_of t path ≡ (posting_by t.postings number).positions
posting_owned t path number owned =
    let mine : ((posting_by t.postings number).owner == path) ≡ true = eq-eqb _ _ owned.owner in
    ap (under t.postings path) owned.leaf ∙ ap (λ (v : Bool). cond v (posting_by t.postings number).positions []) mine

-- .. as it was read
pub owner_now : (t : Paths) (path number : ℕ) (now : Owned) → IsOwned t path number → now ≡ get_or t.postings number now → now.owner ≡ path
owner_now t path number now owned at = ap (λ (p : Owned). p.owner) (read_place t.postings t.postings number now nobody refl owned.within at) ∙ owned.owner

pub posting_now : (t : Paths) (path number : ℕ) (now : Owned) → IsOwned t path number → now ≡ get_or t.postings number now → posting_of t path ≡ now.positions
posting_now t path number now owned at =
    posting_owned t path number owned ∙ ap (λ (p : Owned). p.positions) (sym (read_place t.postings t.postings number now nobody refl owned.within at))

-- a write of the posting that a path owns
abbrev pub written : Paths → ℕ → Owned → Paths
written t number new = record { leaves = t.leaves; postings = slice_set t.postings number new }

pub posting_written : (t : Paths) (path number : ℕ) (new : Owned) → IsOwned t path number → new.owner ≡ path → posting_of (written t number new) path ≡ new.positions
posting_written t path number new owned mine =
    let is : get_or (slice_set t.postings number new) number nobody ≡ new = get_or-set_same t.postings number new nobody owned.within in
    posting_owned (written t number new) path number
    (record { within = rw (length-set t.postings number new) owned.within; leaf = owned.leaf; owner = rw is mine })
    ∙ ap (λ (p : Owned). p.positions) is

-- .. changes nothing for other paths
part_other : (q : ℕ) (p : Owned) → (p.owner ≡ q → ⊥) → part_of q p ≡ []
part_other q p apart = ap (λ (v : Bool). cond v p.positions []) (ne_eqb p.owner q apart)

pub posting_written_other : (t : Paths) (path number q : ℕ) (new : Owned) → IsOwned t path number → new.owner ≡ path → (q ≡ path → ⊥)
    → posting_of (written t number new) q ≡ posting_of t q
posting_written_other t path number q new owned mine apart = ap (together (one_of t q)) (at (leaf_of t q))
  where
    was : (posting_by t.postings number).owner ≡ q → ⊥
    was is = apart (sym is ∙ owned.owner)

    now : new.owner ≡ q → ⊥
    now is = apart (sym is ∙ mine)

    at : (leaf : Leaf) → many_in (slice_set t.postings number new) q leaf ≡ many_in t.postings q leaf
    at Nothing = refl
    at (One k) = refl
    at (Many j) =
        set_kept (λ (a b : Owned). part_of q b ≡ part_of q a) t.postings number j new nobody owned.within
        (part_other q new now ∙ sym (part_other q (posting_by t.postings number) was)) (λ x. refl)

-- what holds between the positions before and after, and of the same twice, holds for each path
pub written_each : (R : List ℕ → List ℕ → Type 0) (t : Paths) (path number : ℕ) (now new : Owned) → IsOwned t path number → now ≡ get_or t.postings number now
    → new.owner ≡ now.owner → R now.positions new.positions → ((v : List ℕ) → R v v) → (q : ℕ) → R (posting_of t q) (posting_of (written t number new) q)
written_each R t path number now new owned at owner step same q = by (cases_eq q path)
  where
    mine : new.owner ≡ path
    mine = owner ∙ owner_now t path number now owned at

    by : (q ≡ path) ⊎ (q ≡ path → ⊥) → R (posting_of t q) (posting_of (written t number new) q)
    by (inl is) =
        let here : R (posting_of t path) (posting_of (written t number new) path) =
        subst (λ (v : List ℕ). R v (posting_of (written t number new) path)) (sym (posting_now t path number now owned at))
        (subst (λ (v : List ℕ). R now.positions v) (sym (posting_written t path number new owned mine)) step)
        in
        subst (λ (n : ℕ). R (posting_of t n) (posting_of (written t number new) n)) (sym is) here
    by (inr apart) = subst (λ (v : List ℕ). R (posting_of t q) v) (sym (posting_written_other t path number q new owned mine apart)) (same (posting_of t q))

-- a write of a leaf
abbrev pub led : Paths → ℕ → Leaf → Paths
led t path leaf = record { leaves = slice_set t.leaves path leaf; postings = t.postings }

pub led_each : (R : List ℕ → List ℕ → Type 0) (t : Paths) (path : ℕ) (leaf : Leaf) → path < length t.leaves → R (posting_of t path) (under t.postings path leaf)
    → ((v : List ℕ) → R v v) → (q : ℕ) → R (posting_of t q) (posting_of (led t path leaf) q)
led_each R t path leaf within step same q = by (cases_eq q path)
  where
    by : (q ≡ path) ⊎ (q ≡ path → ⊥) → R (posting_of t q) (posting_of (led t path leaf) q)
    by (inl is) =
        let here : R (posting_of t path) (posting_of (led t path leaf) path) =
        subst (λ (l : Leaf). R (posting_of t path) (under t.postings path l)) (sym (get_or-set_same t.leaves path leaf Nothing within)) step
        in
        subst (λ (n : ℕ). R (posting_of t n) (posting_of (led t path leaf) n)) (sym is) here
    by (inr apart) = subst (λ (l : Leaf). R (posting_of t q) (under t.postings q l)) (sym (get_or-set_other t.leaves path q leaf Nothing apart)) (same (posting_of t q))

-- a path that leads to one position alone
pub posting_one : (t : Paths) (path k : ℕ) → Some k ≡ one_of t path → posting_of t path ≡ k ∷ []
posting_one t path k is = ap (λ (v : Option ℕ). together v (many_of t path)) (sym is)

-- a lone position whose entry isn't live
pub one_gone : (entries : List Entry) (ps : List ℕ) (k x : ℕ) → ps ≡ k ∷ [] → is_live_at entries k ≡ false → is_live_at entries x ≡ true → Contains ps x → Contains [] x
one_gone entries ps k x one gone lives there = only (subst (λ (v : List ℕ). Contains v x) one there)
  where
    only : Contains (k ∷ []) x → Contains [] x
    only (i, h, e) = absurd (both_ways (is_live_at entries x) (ap (is_live_at entries) (sym (same i h e)) ∙ gone) lives)
      where
        same : (i : ℕ) → i < 1 → get_or (k ∷ []) i x ≡ x → k ≡ x
        same zero h e = e
        same (suc i) h e = absurd (omega (arith, h))

pub filed_as : (k : ℕ) (a b x y : List ℕ) → a ≡ x → b ≡ y → IsFiled k x y → IsFiled k a b
filed_as k a b x y same after filed = rw (same, after) filed
