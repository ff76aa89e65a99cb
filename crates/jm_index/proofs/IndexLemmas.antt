-- What lies in memory fits together after each step of a call.
use Rattle.std.proofs.Common.{◌≡◌, ℕ, zero, suc, ◌+◌, ◌<◌, ◌≤◌, ◌==◌, Bool, true, false, cond, not, List, [], ◌∷◌, ◌++◌, Option, Some, None, length, get_or, refl, sym, ap, ◌∙◌, subst, arith, ◌⊎◌, inl, inr}
use Rattle.std.specs.Prelude.{◌≢◌, AllPairs, filter, Contains, slice_set, take, Result, Ok, Err, OnOk, OnErr}
use Rattle.std.proofs.Math.ListN.{length-set}
use Rattle.std.proofs.lemmas.Bool.{cases_lt, cases_eq, cases_Bool, eq-eqb, ne_eqb, both_ways, not-true, false_from_ne_true}
use Rattle.std.proofs.lemmas.Option.{none-some, same_Some, slice_get-get_or}
use Rattle.std.proofs.lemmas.List.{set_past, length_push, get_or-set_same, get_or-set_other, set_at}
use Rattle.std.proofs.lemmas.List.Elements.{Contains-push_cases}
use Rattle.jm_model.specs.Bindings.{mask_of}
use Rattle.jm_model.specs.Layout.{binding_eq}
use Rattle.jm_model.proofs.EqLemmas.{binding_eq-Decides}
use Rattle.jm_index.specs.declared.entry.Entry.{Entry}
use Rattle.jm_index.specs.Index.{Pair, PairList, Binds, is_same, without, flag_of, IsKey, IsKeyed, AreBelow, IsFitting}
use Rattle.jm_index.specs.Postings.{Paths}
use Rattle.jm_index.specs.Layout.{pair_of, live_pairs, pair_at, posting_at, keys_of, IsPath, IsUnset, AreFiled, AreThinned, IsIndexed}
use Rattle.jm_index.proofs.ReadLemmas.{Contains-none, Contains-of_filter}
use Rattle.jm_index.proofs.BindingLemmas.{is_same-same}
use Rattle.jm_index.proofs.KeyListLemmas.{key_leads, leads_key}
use Rattle.jm_index.proofs.EntryLemmas.{pair_of_live, pair_of_dead, pair_at_within, is_live-pair_at, pair_at-hole, pair_at-set_other, pair_at-set_same, position_of, Contains-live, without-none, live_pairs-removed, live_pairs-push, pair_at_past, pair_at-take, pair_at-entry, distinct_pairs}

abbrev Bound : Type 0
Bound = List (Option ℕ)

abbrev Trees : Type 0
Trees = List Paths

-- more flags, all unset
pub IsIndexed-covered : (entries : List Entry) (position : Bound → Option ℕ) (trees : Trees) (d e : List Bool) → IsIndexed entries position trees d → ((o : ℕ) → flag_of e o ≡ flag_of d o)
    → length d ≤ length e → IsIndexed entries position trees e
IsIndexed-covered entries position trees d e i same longer =
    record {
      placed = i.placed;
      found = i.found;
      reached = λ k pair at path is. i.reached k pair at path (path_same pair.binding path is);
      inside = i.inside;
      flagged = λ k pair at o binds. let h = i.flagged k pair at o binds in omega (arith, h, longer);
      led = λ m o x there. let unset = i.led m o x there in ((omega (arith, unset.0, longer)), same o ∙ unset.1);
    }
  where
    path_same : (b : Bound) (path : ℕ) → IsPath e b path → IsPath d b path
    path_same b path (inl is) = inl is
    path_same b path (inr (o, binds, live, is)) = inr (o, binds, (sym (same o) ∙ live), is)

-- an entry more that isn't live
pub IsIndexed-hole : (entries : List Entry) (position : Bound → Option ℕ) (trees : Trees) (d : List Bool) (e : Entry) → IsIndexed entries position trees d → e.live ≡ false
    → IsIndexed (entries ++ e ∷ []) position trees d
IsIndexed-hole entries position trees d e i dead =
    record {
      placed = λ k pair at. i.placed k pair (back k pair at);
      found = λ b k is. let (slot, at) = i.found b k is in (slot, pair_at-hole entries e k dead ∙ at);
      reached = λ k pair at path is. i.reached k pair (back k pair at) path is;
      inside = λ m q x there. let h = i.inside m q x there in rw (length_push entries e) (omega (arith, h));
      flagged = λ k pair at. i.flagged k pair (back k pair at);
      led = i.led;
    }
  where
    back : (k : ℕ) (pair : Pair) → pair_at (entries ++ e ∷ []) k ≡ Some pair → pair_at entries k ≡ Some pair
    back k pair at = sym (pair_at-hole entries e k dead) ∙ at

-- a position more in some postings
pub IsIndexed-filed : (entries : List Entry) (position : Bound → Option ℕ) (a b : Trees) (d : List Bool) (k : ℕ) → IsIndexed entries position a d → AreFiled d k a b → k < length entries
    → IsIndexed entries position b d
IsIndexed-filed entries position a b d k i filed within =
    record {
      placed = i.placed;
      found = i.found;
      reached = λ j pair at path is. filed.kept _ path j (i.reached j pair at path is);
      inside = λ m q x there. elim (filed.only m q x there) [ inl h ↦ i.inside m q x h | inr e ↦ omega (arith, e, within) ];
      flagged = i.flagged;
      led = λ m o x there. elim (filed.led m o x there) [ inl h ↦ i.led m o x h | inr unset ↦ unset ];
    }

-- what stands at a place after an entry is set
set_cases : (entries : List Entry) (k : ℕ) (e : Entry) (j : ℕ) (pair : Pair) → k < length entries → pair_at (slice_set entries k e) j ≡ Some pair
    → ((j ≡ k) × (pair_of e ≡ Some pair)) ⊎ ((j ≡ k → ⊥) × (pair_at entries j ≡ Some pair))
set_cases entries k e j pair within at = by (cases_eq j k)
  where
    by : (j ≡ k) ⊎ (j ≡ k → ⊥) → ((j ≡ k) × (pair_of e ≡ Some pair)) ⊎ ((j ≡ k → ⊥) × (pair_at entries j ≡ Some pair))
    by (inl is) = inl (is, sym (pair_at-set_same entries k e within) ∙ subst (λ (n : ℕ). pair_at (slice_set entries k e) n ≡ Some pair) is at)
    by (inr apart) = inr (apart, sym (pair_at-set_other entries k j e apart) ∙ at)

-- the entry at a position comes to live
pub IsIndexed-live : (entries : List Entry) (position after : Bound → Option ℕ) (trees : Trees) (d : List Bool) (k : ℕ) (e : Entry) → IsIndexed entries position trees d → k < length entries
    → pair_at entries k ≡ None → e.live ≡ true → ((q : Bound) → after q ≡ cond (binding_eq e.binding q) (Some k) (position q))
    → ((j : ℕ) (pair : Pair) → pair_at entries j ≡ Some pair → pair.binding ≡ e.binding → ⊥)
    → ((path : ℕ) → IsPath d e.binding path → Contains (posting_at trees (mask_of e.binding) path) k) → AreBelow (length d) e.binding → IsIndexed (slice_set entries k e) after trees d
IsIndexed-live entries position after trees d k e i within hole live updated absent filed below =
    record {
      placed = λ j pair at. placed j pair (set_cases entries k e j pair within at);
      found = λ b j is. found b j (cases_Bool (binding_eq e.binding b)) is;
      reached = λ j pair at path is. reached j pair path is (set_cases entries k e j pair within at);
      inside = λ m q x there. rw (length-set entries k e) (i.inside m q x there);
      flagged = λ j pair at. flagged j pair (set_cases entries k e j pair within at);
      led = i.led;
    }
  where
    new_pair : Pair
    new_pair = record { binding = e.binding; slot = e.slot }

    same_pair : (pair : Pair) → pair_of e ≡ Some pair → new_pair ≡ pair
    same_pair pair is = same_Some new_pair pair (sym (pair_of_live e live) ∙ is)

    eq_self : binding_eq e.binding e.binding ≡ true
    eq_self = (binding_eq-Decides e.binding e.binding).1 refl

    here : after e.binding ≡ Some k
    here = updated e.binding ∙ rw eq_self

    placed : (j : ℕ) (pair : Pair) → ((j ≡ k) × (pair_of e ≡ Some pair)) ⊎ ((j ≡ k → ⊥) × (pair_at entries j ≡ Some pair)) → after pair.binding ≡ Some j
    placed j pair (inl (is, same)) =
        let at : after pair.binding ≡ Some k = subst (λ (p : Pair). after p.binding ≡ Some k) (same_pair pair same) here in
        at ∙ ap (λ (n : ℕ). Some n) (sym is)
    placed j pair (inr (apart, at)) =
        let other : binding_eq e.binding pair.binding ≡ false =
        false_from_ne_true _ (λ same_key. absent j pair at (sym ((binding_eq-Decides e.binding pair.binding).0 same_key)))
        in
        updated pair.binding ∙ rw other (i.placed j pair at)

    found : (b : Bound) (j : ℕ) → (binding_eq e.binding b ≡ true) ⊎ (binding_eq e.binding b ≡ false) → after b ≡ Some j
        → (slot : ℕ) × (pair_at (slice_set entries k e) j ≡ Some (record { binding = b; slot = slot }))
    found b j (inl same_key) is =
        let same : e.binding ≡ b = (binding_eq-Decides e.binding b).0 same_key in
        let position_is : k ≡ j = same_Some k j (sym here ∙ subst (λ (v : Bound). after v ≡ Some j) (sym same) is) in
        let at : pair_at (slice_set entries k e) k ≡ Some new_pair = pair_at-set_same entries k e within ∙ pair_of_live e live in
        let there : pair_at (slice_set entries k e) j ≡ Some new_pair = subst (λ (n : ℕ). pair_at (slice_set entries k e) n ≡ Some new_pair) position_is at in
        (e.slot, there ∙ ap (λ (v : Bound). Some (record { binding = v; slot = e.slot })) same)
    found b j (inr other_key) is =
        let old : position b ≡ Some j = sym (rw other_key at (updated b)) ∙ is in
        let (slot, at) = i.found b j old in
        let apart : j ≡ k → ⊥ = λ same. none-some _ (sym hole ∙ subst (λ (n : ℕ). pair_at entries n ≡ Some (record { binding = b; slot = slot })) same at) in
        (slot, pair_at-set_other entries k j e apart ∙ at)

    reached : (j : ℕ) (pair : Pair) (path : ℕ) → IsPath d pair.binding path → ((j ≡ k) × (pair_of e ≡ Some pair)) ⊎ ((j ≡ k → ⊥) × (pair_at entries j ≡ Some pair))
        → Contains (posting_at trees (mask_of pair.binding) path) j
    reached j pair path is (inl (position_is, same)) =
        let on : IsPath d e.binding path = subst (λ (p : Pair). IsPath d p.binding path) (sym (same_pair pair same)) is in
        let at : Contains (posting_at trees (mask_of e.binding) path) k = filed path on in
        let there : Contains (posting_at trees (mask_of pair.binding) path) k = subst (λ (p : Pair). Contains (posting_at trees (mask_of p.binding) path) k) (same_pair pair same) at in
        subst (λ (n : ℕ). Contains (posting_at trees (mask_of pair.binding) path) n) (sym position_is) there
    reached j pair path is (inr (apart, at)) = i.reached j pair at path is

    flagged : (j : ℕ) (pair : Pair) → ((j ≡ k) × (pair_of e ≡ Some pair)) ⊎ ((j ≡ k → ⊥) × (pair_at entries j ≡ Some pair)) → AreBelow (length d) pair.binding
    flagged j pair (inl (is, same)) = subst (λ (p : Pair). AreBelow (length d) p.binding) (same_pair pair same) below
    flagged j pair (inr (apart, at)) = i.flagged j pair at

-- the entry of a binding isn't live any more
pub IsIndexed-removed : (entries : List Entry) (position after : Bound → Option ℕ) (a c : Trees) (d : List Bool) (b : Bound) (k : ℕ) (e : Entry) → IsIndexed entries position a d → position b ≡ Some k
    → e.live ≡ false → ((q : Bound) → after q ≡ cond (binding_eq b q) None (position q)) → AreThinned (slice_set entries k e) a c → IsIndexed (slice_set entries k e) after c d
IsIndexed-removed entries position after a c d b k e i there dead updated thinned =
    record {
      placed = λ j pair at. placed j pair (still j pair at);
      found = λ q j is. found q j (cases_Bool (binding_eq b q)) is;
      reached = λ j pair at path is. thinned.live _ path j (is_live-pair_at (slice_set entries k e) j pair at) (i.reached j pair (still j pair at).1 path is);
      inside = λ m q x h. rw (length-set entries k e) (i.inside m q x (thinned.within m q x h));
      flagged = λ j pair at. i.flagged j pair (still j pair at).1;
      led = λ m o x there. i.led m o x (thinned.within m (o + 1) x there);
    }
  where
    within : k < length entries
    within = let (slot, at) = i.found b k there in pair_at_within entries k _ at

    still : (j : ℕ) (pair : Pair) → pair_at (slice_set entries k e) j ≡ Some pair → (j ≡ k → ⊥) × (pair_at entries j ≡ Some pair)
    still j pair at =
        elim (set_cases entries k e j pair within at) [ inl h ↦ absurd (none-some pair (sym (pair_of_dead e dead) ∙ h.1)) | inr h ↦ h ]

    placed : (j : ℕ) (pair : Pair) → (j ≡ k → ⊥) × (pair_at entries j ≡ Some pair) → after pair.binding ≡ Some j
    placed j pair (apart, at) =
        let old : position pair.binding ≡ Some j = i.placed j pair at in
        let other : binding_eq b pair.binding ≡ false =
        false_from_ne_true _ (λ same_key. let same : b ≡ pair.binding = (binding_eq-Decides b pair.binding).0 same_key in
        apart (same_Some j k (sym old ∙ subst (λ (v : Bound). position v ≡ Some k) same there)))
        in
        updated pair.binding ∙ rw other old

    found : (q : Bound) (j : ℕ) → (binding_eq b q ≡ true) ⊎ (binding_eq b q ≡ false) → after q ≡ Some j
        → (slot : ℕ) × (pair_at (slice_set entries k e) j ≡ Some (record { binding = q; slot = slot }))
    found q j (inl same_key) is = absurd (none-some j (sym (rw same_key at (updated q)) ∙ is))
    found q j (inr other_key) is =
        let old : position q ≡ Some j = sym (rw other_key at (updated q)) ∙ is in
        let (slot, at) = i.found q j old in
        let (other, here) = i.found b k there in
        let apart : j ≡ k → ⊥ =
        λ same. let one : pair_at entries k ≡ Some (record { binding = q; slot = slot }) = subst (λ (n : ℕ). pair_at entries n ≡ Some (record { binding = q; slot = slot })) same at in
        let pairs : ◌≡◌ {A = Pair} (record { binding = b; slot = other }) (record { binding = q; slot = slot }) = same_Some _ _ (sym here ∙ one) in
        both_ways (binding_eq b q) other_key ((binding_eq-Decides b q).1 (ap (λ (p : Pair). p.binding) pairs))
        in
        (slot, pair_at-set_other entries k j e apart ∙ at)

-- an object is dropped
pub IsIndexed-dropped : (entries : List Entry) (position : Bound → Option ℕ) (a c : Trees) (d : List Bool) (o : ℕ) → IsIndexed entries position a d → o < length d
    → ((m q : ℕ) → posting_at c m q ≡ cond (q == o + 1) [] (posting_at a m q)) → IsIndexed entries position c (slice_set d o true)
IsIndexed-dropped entries position a c d o i within cleared =
    record {
      placed = i.placed;
      found = i.found;
      reached = λ k pair at path is. reached k pair path at is;
      inside = λ m q x there. i.inside m q x (inside m q x (cases_eq q (o + 1)) there);
      flagged = λ k pair at. rw (length-set d o true) (i.flagged k pair at);
      led = λ m x k there. led m x k (cases_eq x o) there;
    }
  where
    other : (m q : ℕ) → (q ≡ o + 1 → ⊥) → posting_at c m q ≡ posting_at a m q
    other m q apart = cleared m q ∙ rw (ne_eqb q (o + 1) apart)

    here : (m q : ℕ) → q ≡ o + 1 → posting_at c m q ≡ []
    here m q is = cleared m q ∙ rw (eq-eqb q (o + 1) is)

    flag_here : flag_of (slice_set d o true) o ≡ true
    flag_here = get_or-set_same d o true false within

    flag_other : (x : ℕ) → (x ≡ o → ⊥) → flag_of (slice_set d o true) x ≡ flag_of d x
    flag_other x apart = get_or-set_other d o x true false apart

    reached : (k : ℕ) (pair : Pair) (path : ℕ) → pair_at entries k ≡ Some pair → IsPath (slice_set d o true) pair.binding path → Contains (posting_at c (mask_of pair.binding) path) k
    reached k pair path at (inl is) =
        let apart : path ≡ o + 1 → ⊥ = λ same. omega (arith, is, same) in
        subst (λ (v : List ℕ). Contains v k) (sym (other (mask_of pair.binding) path apart)) (i.reached k pair at path (inl is))
    reached k pair path at (inr (x, binds, live, is)) =
        let differs : x ≡ o → ⊥ = λ same. both_ways (flag_of (slice_set d o true) x) live (subst (λ (n : ℕ). flag_of (slice_set d o true) n ≡ true) (sym same) flag_here) in
        let apart : path ≡ o + 1 → ⊥ = λ same. let equal : x ≡ o = omega (arith, is, same) in differs equal in
        let on : IsPath d pair.binding path = inr (x, binds, (sym (flag_other x differs) ∙ live), is) in
        subst (λ (v : List ℕ). Contains v k) (sym (other (mask_of pair.binding) path apart)) (i.reached k pair at path on)

    inside : (m q x : ℕ) → (q ≡ o + 1) ⊎ (q ≡ o + 1 → ⊥) → Contains (posting_at c m q) x → Contains (posting_at a m q) x
    inside m q x (inl is) there = absurd (Contains-none x (subst (λ (v : List ℕ). Contains v x) (here m q is) there))
    inside m q x (inr apart) there = subst (λ (v : List ℕ). Contains v x) (other m q apart) there

    led : (m x k : ℕ) → (x ≡ o) ⊎ (x ≡ o → ⊥) → Contains (posting_at c m (x + 1)) k → IsUnset (slice_set d o true) x
    led m x k (inl is) there = absurd (Contains-none k (subst (λ (v : List ℕ). Contains v k) (here m (x + 1) (omega (arith, is))) there))
    led m x k (inr differs) there =
        let apart : x + 1 ≡ o + 1 → ⊥ = λ same. let equal : x ≡ o = omega (arith, same) in differs equal in
        let unset = i.led m x k (subst (λ (v : List ℕ). Contains v k) (other m (x + 1) apart) there) in
        (rw (length-set d o true) unset.0, flag_other x differs ∙ unset.1)

-- an index that has no other pairs than one that fits, but for such whose objects stand in the table, and has dropped
-- no other objects, fits
pub IsFitting-by : (old new : PairList) (dead : List Bool) → IsFitting old dead → ((pair : Pair) → Contains new.list pair → Contains old.list pair ⊎ AreBelow (length dead) pair.binding)
    → ((o : ℕ) → flag_of new.dropped o ≡ flag_of old.dropped o) → IsKeyed new → IsFitting new dead
IsFitting-by old new dead fits pairs flags keyed =
    record {
      within = λ pair there. elim (pairs pair there) [ inl h ↦ fits.within pair h | inr h ↦ h ];
      reached = λ o gone. fits.reached o (sym (flags o) ∙ gone);
      keyed = keyed;
    }

-- the pairs of an index that has let go of the entry of a binding, or never had one
pub list_removed : (entries : List Entry) (position : Bound → Option ℕ) (trees : Trees) (d : List Bool) (b : Bound) (k : ℕ) (e : Entry) → IsIndexed entries position trees d → position b ≡ Some k
    → e.live ≡ false → live_pairs (slice_set entries k e) ≡ without b (live_pairs entries)
list_removed entries position trees d b k e i there dead =
    let (slot, at) = i.found b k there in
    live_pairs-removed b entries k e (record { binding = b; slot = slot }) dead at refl
    (λ j other here same. same_Some j k (sym (i.placed j other here) ∙ ap position same ∙ there))

pub list_absent : (entries : List Entry) (position : Bound → Option ℕ) (trees : Trees) (d : List Bool) (b : Bound) → IsIndexed entries position trees d → position b ≡ None
    → live_pairs entries ≡ without b (live_pairs entries)
list_absent entries position trees d b i there =
    without-none b entries (λ k pair at same. none-some k (sym there ∙ ap position (sym same) ∙ i.placed k pair at))

pub IsFitting-without : (b : Bound) (old new : PairList) (dead : List Bool) → new.list ≡ without b old.list → new.dropped ≡ old.dropped → IsKeyed new → IsFitting old dead
    → IsFitting new dead
IsFitting-without b old new dead list dropped keyed fits =
    IsFitting-by old new dead fits
    (λ pair there. inl (Contains-of_filter (λ p. not (is_same b p.binding)) old.list pair (subst (λ (v : List Pair). Contains v pair) list there)))
    (λ o. ap (λ (v : List Bool). flag_of v o) dropped) keyed

-- what contracts see of what lies in memory
abbrev pub seen : List Entry → Trees → List Bool → PairList
seen entries trees d = record { list = live_pairs entries; dropped = d; keys = keys_of trees }

-- a key has a flag, which isn't set
pub key_unset : (entries : List Entry) (position : Bound → Option ℕ) (trees : Trees) (d : List Bool) (o : ℕ) → IsIndexed entries position trees d → IsKey (seen entries trees d) o → IsUnset d o
key_unset entries position trees d o i key = let (m, k, there) = key_leads trees o key in i.led m o k there

-- an object of a pair has a flag
pub pair_flagged : (entries : List Entry) (position : Bound → Option ℕ) (trees : Trees) (d : List Bool) (o : ℕ) (pair : Pair) → IsIndexed entries position trees d
    → Contains (live_pairs entries) pair → Binds pair.binding o → o < length d
pair_flagged entries position trees d o pair i there binds =
    let (k, at) = position_of entries pair there in
    i.flagged k pair at o binds

-- an object whose paths were cleared is no key, and there are no more keys
pub cleared_gone : (a c : Trees) (o : ℕ) → ((m q : ℕ) → posting_at c m q ≡ cond (q == o + 1) [] (posting_at a m q)) → Contains (keys_of c) o → ⊥
cleared_gone a c o cleared key =
    let (m, k, there) = key_leads c o key in
    let none : posting_at c m (o + 1) ≡ [] = cleared m (o + 1) ∙ rw (eq-eqb (o + 1) (o + 1) refl) in
    Contains-none k (subst (λ (v : List ℕ). Contains v k) none there)

pub cleared_fewer : (a c : Trees) (o x : ℕ) → ((m q : ℕ) → posting_at c m q ≡ cond (q == o + 1) [] (posting_at a m q)) → Contains (keys_of c) x → Contains (keys_of a) x
cleared_fewer a c o x cleared key =
    let (m, k, there) = key_leads c x key in
    leads_key a m x k (kept (posting_at a m (x + 1)) k (x + 1 == o + 1) (subst (λ (v : List ℕ). Contains v k) (cleared m (x + 1)) there))
  where
    kept : (xs : List ℕ) (k : ℕ) (b : Bool) → Contains (cond b [] xs) k → Contains xs k
    kept xs k true there = absurd (Contains-none k there)
    kept xs k false there = there

-- each object of a pair that wasn't dropped is a key
pub all_keyed : (entries : List Entry) (position : Bound → Option ℕ) (trees : Trees) (d : List Bool) → IsIndexed entries position trees d → IsKeyed (seen entries trees d)
all_keyed entries position trees d i pair o there binds unset =
    let (k, at) = position_of entries pair there in
    leads_key trees (mask_of pair.binding) o k (i.reached k pair at (o + 1) (inr (o, binds, unset, refl)))

pub IsIndexed-position : (entries : List Entry) (position after : Bound → Option ℕ) (trees : Trees) (d : List Bool) → IsIndexed entries position trees d → ((q : Bound) → after q ≡ position q)
    → IsIndexed entries after trees d
IsIndexed-position entries position after trees d i same =
    record {
      placed = λ k pair at. same pair.binding ∙ i.placed k pair at;
      found = λ b k is. i.found b k (sym (same b) ∙ is);
      reached = i.reached;
      inside = i.inside;
      flagged = i.flagged;
      led = i.led;
    }

-- a binding without a position still has none
pub IsIndexed-absent : (entries : List Entry) (position after : Bound → Option ℕ) (trees : Trees) (d : List Bool) (b : Bound) → IsIndexed entries position trees d → position b ≡ None
    → ((q : Bound) → after q ≡ cond (binding_eq b q) None (position q)) → IsIndexed entries after trees d
IsIndexed-absent entries position after trees d b i none updated = IsIndexed-position entries position after trees d i (λ q. by q (cases_Bool (binding_eq b q)))
  where
    by : (q : Bound) → (binding_eq b q ≡ true) ⊎ (binding_eq b q ≡ false) → after q ≡ position q
    by q (inl same) = rw same at (updated q) ∙ sym (ap position (sym ((binding_eq-Decides b q).0 same)) ∙ none)
    by q (inr other) = rw other at (updated q)

-- an entry that isn't live stands at the end, and its position in some postings
pub staged : (entries new : List Entry) (position : Bound → Option ℕ) (a b : Trees) (d e f : List Bool) (k : ℕ) (hole : Entry) → IsIndexed entries position a d
    → ((o : ℕ) → flag_of e o ≡ flag_of d o) → length d ≤ length e → f ≡ e → AreFiled f k a b → hole.live ≡ false → k ≡ length entries → new ≡ entries ++ hole ∷ []
    → IsIndexed new position b e
staged entries new position a b d e f k hole i same longer is filed dead at more =
    let within : k < length (entries ++ hole ∷ []) = rw (length_push entries hole) (omega (arith, at)) in
    let filed_by : AreFiled e k a b = subst (λ (v : List Bool). AreFiled v k a b) is filed in
    rw more (IsIndexed-filed (entries ++ hole ∷ []) position a b e k (IsIndexed-hole entries position a e hole (IsIndexed-covered entries position a d e i same longer) dead) filed_by within)

-- .. and then comes to live
pub added : (entries new : List Entry) (position after : Bound → Option ℕ) (a c : Trees) (d e f : List Bool) (k : ℕ) (b : Bound) (slot : ℕ) (hole : Entry) → IsIndexed entries position a d → hole.live ≡ false
    → ((o : ℕ) → flag_of e o ≡ flag_of d o) → length d ≤ length e → f ≡ e → AreFiled f k a c
    → ((path : ℕ) → IsPath f b path → Contains (posting_at c (mask_of b) path) k) → AreBelow (length e) b → k ≡ length entries
    → new ≡ entries ++ hole ∷ [] → ((q : Bound) → after q ≡ cond (binding_eq b q) (Some k) (position q))
    → ((pair : Pair) → Contains (live_pairs entries) pair → pair.binding ≡ b → ⊥) → IsIndexed (slice_set new k (record { binding = b; slot = slot; live = true })) after c e
added entries new position after a c d e f k b slot hole i dead same longer is filed there below at more updated absent =
    IsIndexed-live new position after c e k (record { binding = b; slot = slot; live = true })
    (staged entries new position a c d e f k hole i same longer is filed dead at more) within none refl updated
    (λ j pair here. absent pair (Contains-live entries j pair (old j pair here))) (subst (λ (v : List Bool). (path : ℕ) → IsPath v b path → Contains (posting_at c (mask_of b) path) k) is there)
    below
  where
    within : k < length new
    within = rw (more, length_push entries hole) (omega (arith, at))

    none : pair_at new k ≡ None
    none = rw (more, at) (pair_at-hole entries hole (length entries) dead ∙ pair_at_past entries)

    old : (j : ℕ) (pair : Pair) → pair_at new j ≡ Some pair → pair_at entries j ≡ Some pair
    old j pair here =
        sym (pair_at-hole entries hole j dead) ∙ subst (λ (v : List Entry). pair_at v j ≡ Some pair) more here

pub list_added : (entries new : List Entry) (k : ℕ) (b : Bound) (slot : ℕ) (hole : Entry) → k ≡ length entries → new ≡ entries ++ hole ∷ []
    → live_pairs (slice_set new k (record { binding = b; slot = slot; live = true })) ≡ live_pairs entries ++ record { binding = b; slot = slot } ∷ []
list_added entries new k b slot hole at more =
    rw (more, set_at entries hole [] (record { binding = b; slot = slot; live = true }) k (sym at))
    (live_pairs-push entries (record { binding = b; slot = slot; live = true }) refl)

-- no pair before a live entry has its binding
pub taken_apart : (entries items : List Entry) (position : Bound → Option ℕ) (trees : Trees) (d : List Bool) (i : ℕ) (e : Entry) → IsIndexed entries position trees d → items ≡ entries
    → i < length items → e ≡ get_or items i e → e.live ≡ true → (pair : Pair) → Contains (live_pairs (take i items)) pair → pair.binding ≡ e.binding → ⊥
taken_apart entries items position trees d i e fits is h at live pair there same =
    let (k, here) = position_of (take i items) pair there in
    let part = pair_at-take items i k pair here in
    let one : position pair.binding ≡ Some k = fits.placed k pair (subst (λ (v : List Entry). pair_at v k ≡ Some pair) is part.0) in
    let mine : pair_at items i ≡ Some (record { binding = e.binding; slot = e.slot }) = pair_at-entry items i e (slice_get-get_or items i e h ∙ ap (λ (v : Entry). Some v) (sym at)) live in
    let other : position e.binding ≡ Some i = fits.placed i _ (subst (λ (v : List Entry). pair_at v i ≡ Some (record { binding = e.binding; slot = e.slot })) is mine) in
    let equal : k ≡ i = same_Some k i (sym one ∙ ap position same ∙ other) in
    omega (arith, equal, part.1)

-- an index fits after one pair more, or none
pub IsFitting-added : {E : Type 0} (r : Result (Unit {0}) E) (old before new : PairList) (dead : List Bool) (b : Bound) (slot : ℕ) → before.list ≡ old.list
    → ((o : ℕ) → flag_of before.dropped o ≡ flag_of old.dropped o)
    → OnOk r (new.list ≡ before.list ++ record { binding = b; slot = slot } ∷ []) → OnErr r (new.list ≡ before.list) → ((o : ℕ) → flag_of new.dropped o ≡ flag_of before.dropped o)
    → IsKeyed new → IsFitting old dead → AreBelow (length dead) b → IsFitting new dead
IsFitting-added (Ok u) old before new dead b slot list flags ok err same keyed fits below =
    IsFitting-by old new dead fits
    (λ pair there. elim (Contains-push_cases before.list (record { binding = b; slot = slot }) pair (subst (λ (v : List Pair). Contains v pair) ok there)) [
      | inl h ↦ inl (subst (λ (v : List Pair). Contains v pair) list h)
      | inr is ↦ inr (subst (λ (p : Pair). AreBelow (length dead) p.binding) is below)
    ])
    (λ o. same o ∙ flags o) keyed
IsFitting-added (Err u) old before new dead b slot list flags ok err same keyed fits below =
    IsFitting-by old new dead fits (λ pair there. inl (subst (λ (v : List Pair). Contains v pair) (err ∙ list) there)) (λ o. same o ∙ flags o) keyed

-- no two pairs have one binding
pub list_distinct : (entries : List Entry) (position : Bound → Option ℕ) (trees : Trees) (d : List Bool) → IsIndexed entries position trees d
    → AllPairs (λ a b. a.binding ≢ b.binding) (live_pairs entries)
list_distinct entries position trees d i =
    distinct_pairs entries (λ j k a b here there same. same_Some j k (sym (i.placed j a here) ∙ ap position same ∙ i.placed k b there))

passes : {X : Type 0} (test : X → Bool) (xs : List X) (x : X) → Contains (filter test xs) x → test x ≡ true
passes test [] x h = absurd (Contains-none x h)
passes {X} test (y ∷ xs) x h = at (passes test xs x) (test y) refl h
  where
    at : (Contains (filter test xs) x → test x ≡ true) → (v : Bool) → test y ≡ v → Contains (cond v (y ∷ filter test xs) (filter test xs)) x → test x ≡ true
    at ih true is (zero, l, e) = ap test (sym e) ∙ is
    at ih true is (suc k, l, e) = ih (k, (omega arith), e)
    at ih false is g = ih g

-- what is left without a binding hasn't it
pub without_absent : (b : Bound) (list : List Pair) (pair : Pair) → Contains (without b list) pair → pair.binding ≡ b → ⊥
without_absent b list pair there same =
    let kept : not (is_same b pair.binding) ≡ true = passes (λ p. not (is_same b p.binding)) list pair there in
    both_ways (is_same b pair.binding) (not-true (is_same b pair.binding) kept) (is_same-same b pair.binding (sym same))

-- an object more is dead
pub IsFitting-death : (index : PairList) (dead : List Bool) (o : ℕ) → IsFitting index dead → IsFitting index (slice_set dead o true)
IsFitting-death index dead o fits =
    record {
      within = λ pair there. rw (length-set dead o true) (fits.within pair there);
      reached = λ x gone. dies x (cases_eq x o) (cases_lt o (length dead)) (fits.reached x gone);
      keyed = fits.keyed;
    }
  where
    dies : (x : ℕ) → (x ≡ o) ⊎ (x ≡ o → ⊥) → (o < length dead) ⊎ (length dead ≤ o) → flag_of dead x ≡ true → flag_of (slice_set dead o true) x ≡ true
    dies x (inl is) (inl h) was = rw is (get_or-set_same dead o true false h)
    dies x (inl is) (inr past) was = rw (set_past dead o true past) was
    dies x (inr apart) h was = get_or-set_other dead o x true false apart ∙ was

-- a binding that has no pair has no position
pub no_position : (entries : List Entry) (position : Bound → Option ℕ) (trees : Trees) (d : List Bool) (b : Bound) → IsIndexed entries position trees d
    → ((pair : Pair) → Contains (live_pairs entries) pair → pair.binding ≡ b → ⊥) → position b ≡ None
no_position entries position trees d b i absent = by (position b) refl
  where
    by : (v : Option ℕ) → position b ≡ v → position b ≡ None
    by None is = is
    by (Some k) is =
        let (slot, at) = i.found b k is in
        absurd (absent (record { binding = b; slot = slot }) (Contains-live entries k (record { binding = b; slot = slot }) at) refl)

-- a binding with a position has a pair, and one without has none
pub list_found : (entries : List Entry) (position : Bound → Option ℕ) (trees : Trees) (d : List Bool) (b : Bound) (k : ℕ) → IsIndexed entries position trees d → position b ≡ Some k
    → (pair : Pair) × Contains (live_pairs entries) pair × (pair.binding ≡ b)
list_found entries position trees d b k i there =
    let (slot, at) = i.found b k there in
    (record { binding = b; slot = slot }, Contains-live entries k (record { binding = b; slot = slot }) at, refl)

pub list_missing : (entries : List Entry) (position : Bound → Option ℕ) (trees : Trees) (d : List Bool) (b : Bound) → IsIndexed entries position trees d → position b ≡ None
    → (pair : Pair) → Contains (live_pairs entries) pair → pair.binding ≡ b → ⊥
list_missing entries position trees d b i there pair within same =
    let (k, at) = position_of entries pair within in
    none-some k (sym there ∙ ap position (sym same) ∙ i.placed k pair at)

-- a live object of a pair is a key
pub live_key : (index : PairList) (dead : List Bool) (pair : Pair) (o : ℕ) → IsFitting index dead → Contains index.list pair → Binds pair.binding o → flag_of dead o ≡ false → IsKey index o
live_key index dead pair o fits there binds lives =
    fits.keyed pair o there binds (false_from_ne_true (flag_of index.dropped o) (λ gone. both_ways (flag_of dead o) lives (fits.reached o gone)))

-- no dead object below a number of words is a key
abbrev pub NoneDead : (ℕ → Type 0) → List Bool → PairList → Type 0
NoneDead IsSuch dead index = (o : ℕ) → IsSuch o → flag_of dead o ≡ true → IsKey index o → ⊥

pub none_more : (part : ℕ → ℕ) (n : ℕ) (dead : List Bool) (index : PairList) → NoneDead (λ o. part o < n) dead index → NoneDead (λ o. part o ≡ n) dead index → NoneDead (λ o. part o < n + 1) dead index
none_more part n dead index before here o low gone key = elim (cases_lt (part o) n) [ inl h ↦ before o h gone key | inr h ↦ here o (omega (arith, h, low)) gone key ]

-- fewer keys
pub none_fewer : (IsSuch : ℕ → Type 0) (dead : List Bool) (old new : PairList) → ((o : ℕ) → IsKey new o → IsKey old o) → NoneDead IsSuch dead old → NoneDead IsSuch dead new
none_fewer IsSuch dead old new fewer none o such gone key = none o such gone (fewer o key)
