-- The slots of the pairs that bind some objects, as they are listed one after another.
use Rattle.std.proofs.Common.{◌≡◌, ℕ, zero, suc, ◌+◌, ◌<◌, ◌≤◌, ◌⊎◌, inl, inr, Bool, true, false, List, [], ◌∷◌, Option, Some, length, take, get_or, refl, sym, ap, subst, arith}
use Rattle.std.specs.Prelude.{Contains}
use Rattle.std.proofs.lemmas.Bool.{cases_lt, false≢true}
use Rattle.std.proofs.lemmas.List.{take_more, get_or_past}
use Rattle.std.proofs.lemmas.List.Elements.{Contains-push_cases}
use Rattle.jm_model.specs.Bindings.{mask_of}
use Rattle.jm_index.specs.declared.entry.Entry.{Entry}
use Rattle.jm_index.specs.Index.{Pair, PairList, flag_of, Binds, HasDied, AreListed}
use Rattle.jm_index.specs.Postings.{Paths, no_paths}
use Rattle.jm_index.specs.Layout.{pair_at, live_pairs, posting_of, posting_at, IsIndexed}
use Rattle.jm_index.proofs.ReadLemmas.{Contains-none}
use Rattle.jm_index.proofs.EntryLemmas.{position_of}
use Rattle.jm_index.proofs.IndexLemmas.{seen}

-- ---- positions of a list, up to one
pub taken_cases : (xs : List ℕ) (i k : ℕ) → i < length xs → Contains (take (i + 1) xs) k → Contains (take i xs) k ⊎ (get_or xs i 0 ≡ k)
taken_cases xs i k h c = Contains-push_cases (take i xs) (get_or xs i 0) k (subst (λ (v : List ℕ). Contains v k) (take_more xs i 0 h) c)

pub take_whole : (xs : List ℕ) (n : ℕ) → length xs ≤ n → take n xs ≡ xs
take_whole [] zero h = refl
take_whole [] (suc n) h = refl
take_whole (x ∷ xs) zero h = absurd (omega arith)
take_whole (x ∷ xs) (suc n) h = ap (λ (v : List ℕ). x ∷ v) (take_whole xs n (omega arith))

-- ---- all trees
pub flag_within : (flags : List Bool) (o : ℕ) → flag_of flags o ≡ true → o < length flags
flag_within [] o h = absurd (false≢true h)
flag_within (x ∷ flags) zero h = omega arith
flag_within (x ∷ flags) (suc o) h = let rest = flag_within flags o h in omega (arith, rest)

-- each pair that binds an object which wasn't dropped stands in a tree under it
pub listed_all : (entries items : List Entry) (position : List (Option ℕ) → Option ℕ) (trees : List Paths) (d : List Bool) (n o : ℕ) (slots : List ℕ) → IsIndexed entries position trees d
    → length trees ≤ n → items ≡ entries
    → ((m k : ℕ) (pair : Pair) → m < n → Contains (posting_at trees m (o + 1)) k → pair_at items k ≡ Some pair → Contains slots pair.slot)
    → AreListed (seen entries trees d) (λ q. (q ≡ o) × (flag_of d q ≡ false)) slots
listed_all entries items position trees d n o slots i end same all pair q there binds (is, kept) =
    let (k, at) = position_of entries pair there in
    let filed : Contains (posting_at trees (mask_of pair.binding) (o + 1)) k = i.reached k pair at (o + 1) (inr (o, subst (Binds pair.binding) is binds, subst (λ (v : ℕ). flag_of d v ≡ false) is kept, refl)) in
    all (mask_of pair.binding) k pair (within (mask_of pair.binding) k filed) filed (subst (λ (es : List Entry). pair_at es k ≡ Some pair) (sym same) at)
  where
    within : (m k : ℕ) → Contains (posting_at trees m (o + 1)) k → m < n
    within m k filed =
        elim (cases_lt m n) [
          | inl low ↦ low
          | inr past ↦ absurd (Contains-none k (subst (λ (t : Paths). Contains (posting_of t (o + 1)) k) (get_or_past trees m no_paths (omega (arith, past, end))) filed))
        ]

-- ---- one object or one word more
pub listed_more : (index : PairList) (dead : List Bool) (first object : ℕ) (old new : List ℕ) → AreListed index (λ o. (first ≤ o) × (o < object) × HasDied index dead o) old
    → ((k : ℕ) → Contains old k → Contains new k)
    → ((pair : Pair) (o : ℕ) → Contains index.list pair → Binds pair.binding o → o ≡ object → HasDied index dead o → Contains new pair.slot)
    → AreListed index (λ o. (first ≤ o) × (o < object + 1) × HasDied index dead o) new
listed_more index dead first object old new before kept here pair o there binds (low, high, died) =
    elim (cases_lt o object) [
      | inl below ↦ kept pair.slot (before pair o there binds (low, below, died))
      | inr past ↦ here pair o there binds (omega (arith, past, high)) died
    ]

pub listed_either : (index : PairList) (P Q R : ℕ → Type 0) (old new : List ℕ) → AreListed index P old → ((k : ℕ) → Contains old k → Contains new k) → AreListed index Q new
    → ((o : ℕ) → R o → P o ⊎ Q o) → AreListed index R new
listed_either index P Q R old new before kept here split pair o there binds such =
    elim (split o such) [ inl was ↦ kept pair.slot (before pair o there binds was) | inr is ↦ here pair o there binds is ]

-- the numbers below n + 1
pub below_or_last : (k n : ℕ) → k < n + 1 → (k < n) ⊎ (k ≡ n)
below_or_last k n h = elim (cases_lt k n) [ inl below ↦ inl below | inr past ↦ inr (omega (arith, past, h)) ]
