-- What is asked for stands at the positions that are read.
use Rattle.std.proofs.Common.{◌≡◌, ℕ, zero, suc, ◌<◌, length, get_or, refl, Bool, true, false, List, [], ◌∷◌, Option, Some, None, sym, ap, ◌∙◌, subst, arith, inl, inr}
use Rattle.std.specs.Prelude.{Contains, slice_get}
use Rattle.std.specs.List.{filter_map}
use Rattle.std.proofs.lemmas.Bool.{both_ways, eq-eqb, false_from_ne_true}
use Rattle.std.proofs.lemmas.Option.{cond_some, none-some, same_Some}
use Rattle.jm_model.specs.Bindings.{mask_of, object_at, restriction, is_compatible}
use Rattle.jm_index.specs.declared.entry.Entry.{Entry}
use Rattle.jm_index.specs.Index.{Pair, PairList, flag_of, IsFitting, AreLive, asked_slots}
use Rattle.jm_index.specs.Postings.{Paths}
use Rattle.jm_index.specs.Layout.{Rises, pair_of, pair_at, slot_of, slot_at, live_pairs, posting_at, IsPath, IsPathBelow, IsIndexed}
use Rattle.jm_index.proofs.ReadLemmas.{read_all}
use Rattle.jm_index.proofs.BindingLemmas.{shared, object_at-restriction, exact, restriction-agrees}
use Rattle.jm_index.proofs.EntryLemmas.{asked_slots-live, slot_of_some, pair_at-entry, pair_at_within}

-- the binding of an entry that is asked for is what b gives to the domain, where b binds it all
same_binding : (domain : ℕ) (b common : List (Option ℕ)) (e : Entry) (v : ℕ) → common ≡ restriction b domain → mask_of common ≡ domain → slot_of domain b e ≡ Some v → common ≡ e.binding
same_binding domain b common e v is all gives =
    let facts = slot_of_some domain b e v gives in
    let mask : mask_of (restriction b (mask_of e.binding)) ≡ mask_of e.binding = rw (facts.1, ← is) all in
    is ∙ ap (λ (n : ℕ). restriction b n) (sym facts.1) ∙ exact e.binding b facts.2 mask

exact_slots : (entries : List Entry) (position : List (Option ℕ) → Option ℕ) (trees : List Paths) (d : List Bool) (domain : ℕ) (b common : List (Option ℕ)) (k : ℕ)
    → IsIndexed entries position trees d → common ≡ restriction b domain → mask_of common ≡ domain → position common ≡ Some k
    → filter_map (slot_at entries domain b) (k ∷ []) ≡ asked_slots domain b (live_pairs entries)
exact_slots entries position trees d domain b common k i is all there =
    read_all (slot_of domain b) entries (k ∷ []) ((omega arith), tt) among ∙ asked_slots-live domain b entries
  where
    among : (j : ℕ) (e : Entry) (v : ℕ) → slice_get entries j ≡ Some e → slot_of domain b e ≡ Some v → Contains (k ∷ []) j
    among j e v at gives =
        let same = same_binding domain b common e v is all gives in
        let placed : position e.binding ≡ Some j = i.placed j _ (pair_at-entry entries j e at (slot_of_some domain b e v gives).0) in
        let here : position e.binding ≡ Some k = subst (λ (w : List (Option ℕ)). position w ≡ Some k) same there in
        (0, (omega arith), same_Some k j (sym here ∙ placed))

-- the entry that a look-up gives
there_entry : (e : Entry) (common b : List (Option ℕ)) (domain slot : ℕ) → pair_of e ≡ Some (record { binding = common; slot = slot }) → mask_of common ≡ domain → is_compatible common b ≡ true
    → (e.slot ≡ slot) × (slot_of domain b e ≡ Some slot)
there_entry e common b domain slot is mask agrees =
    let parts = cond_some _ _ _ is in
    let binding : e.binding ≡ common = ap (λ (pair : Pair). pair.binding) parts.1 in
    let number : e.slot ≡ slot = ap (λ (pair : Pair). pair.slot) parts.1 in
    (number, rw (parts.0, binding, eq-eqb (mask_of common) domain mask, agrees) (ap (λ (n : ℕ). Some n) number))

slot_there : (es : List Entry) (k : ℕ) (e : Entry) (common b : List (Option ℕ)) (domain slot : ℕ) → pair_at es k ≡ Some (record { binding = common; slot = slot }) → e ≡ get_or es k e
    → mask_of common ≡ domain → is_compatible common b ≡ true → (e.slot ≡ slot) × (slot_at es domain b k ≡ Some slot)
slot_there [] k e common b domain slot is at mask agrees = cc
slot_there (x ∷ es) zero e common b domain slot is at mask agrees = rw at (there_entry x common b domain slot is mask agrees)
slot_there (x ∷ es) (suc k) e common b domain slot is at mask agrees = slot_there es k e common b domain slot is at mask agrees

pub position_within : (entries : List Entry) (position : List (Option ℕ) → Option ℕ) (trees : List Paths) (d : List Bool) (common : List (Option ℕ)) (k : ℕ)
    → IsIndexed entries position trees d → position common ≡ Some k → k < length entries
position_within entries position trees d common k i there = let (slot, at) = i.found common k there in pair_at_within entries k _ at

pub exact_slot : (entries : List Entry) (position : List (Option ℕ) → Option ℕ) (trees : List Paths) (d : List Bool) (domain : ℕ) (b common : List (Option ℕ)) (k : ℕ) (e : Entry)
    → IsIndexed entries position trees d → common ≡ restriction b domain → mask_of common ≡ domain → position common ≡ Some k → e ≡ get_or entries k e
    → e.slot ∷ [] ≡ asked_slots domain b (live_pairs entries)
exact_slot entries position trees d domain b common k e i is all there at =
    let (slot, pair) = i.found common k there in
    let agrees : is_compatible common b ≡ true = rw is (restriction-agrees b domain) in
    let gives = slot_there entries k e common b domain slot pair at all agrees in
    let one : filter_map (slot_at entries domain b) (k ∷ []) ≡ e.slot ∷ [] = rw (gives.1, gives.0) refl in
    sym one ∙ exact_slots entries position trees d domain b common k i is all there

pub no_slots : (entries : List Entry) (position : List (Option ℕ) → Option ℕ) (trees : List Paths) (d : List Bool) (domain : ℕ) (b common : List (Option ℕ))
    → IsIndexed entries position trees d → common ≡ restriction b domain → mask_of common ≡ domain → position common ≡ None
    → [] ≡ asked_slots domain b (live_pairs entries)
no_slots entries position trees d domain b common i is all there =
    read_all (slot_of domain b) entries [] tt among ∙ asked_slots-live domain b entries
  where
    among : (j : ℕ) (e : Entry) (v : ℕ) → slice_get entries j ≡ Some e → slot_of domain b e ≡ Some v → Contains [] j
    among j e v at gives =
        let same = same_binding domain b common e v is all gives in
        let placed : position e.binding ≡ Some j = i.placed j _ (pair_at-entry entries j e at (slot_of_some domain b e v gives).0) in
        let here : position e.binding ≡ None = subst (λ (w : List (Option ℕ)). position w ≡ None) same there in
        absurd (none-some j (sym here ∙ placed))

-- .. and else the positions of a path that is common
pub path_slots : (entries : List Entry) (position : List (Option ℕ) → Option ℕ) (trees : List Paths) (index : PairList) (dead : List Bool) (domain : ℕ) (b common : List (Option ℕ)) (path : ℕ)
    → IsIndexed entries position trees index.dropped → IsFitting index dead → AreLive dead b → common ≡ restriction b domain → IsPathBelow common path → Rises 0 (posting_at trees domain path)
    → filter_map (slot_at entries domain b) (posting_at trees domain path) ≡ asked_slots domain b (live_pairs entries)
path_slots entries position trees index dead domain b common path i fits live is below rising =
    read_all (slot_of domain b) entries (posting_at trees domain path) rising among ∙ asked_slots-live domain b entries
  where
    on_path : (e : Entry) → mask_of e.binding ≡ domain → is_compatible e.binding b ≡ true → IsPathBelow common path → IsPath index.dropped e.binding path
    on_path e mask agree (inl whole) = inl whole
    on_path e mask agree (inr (o, p, at, path_is)) =
        let part : object_at (restriction b domain) p ≡ Some o = subst (λ (v : List (Option ℕ)). object_at v p ≡ Some o) is at in
        let mine : object_at e.binding p ≡ Some o = shared e.binding b p o agree (subst (λ (n : ℕ). object_at (restriction b n) p ≡ Some o) (sym mask) part) in
        let lives : flag_of dead o ≡ false = live o (p, object_at-restriction b domain p o part) in
        let kept : flag_of index.dropped o ≡ false = false_from_ne_true _ (λ gone. both_ways (flag_of dead o) lives (fits.reached o gone)) in
        inr (o, (p, mine), kept, path_is)

    among : (j : ℕ) (e : Entry) (v : ℕ) → slice_get entries j ≡ Some e → slot_of domain b e ≡ Some v → Contains (posting_at trees domain path) j
    among j e v at gives =
        let facts = slot_of_some domain b e v gives in
        let there : Contains (posting_at trees (mask_of e.binding) path) j = i.reached j _ (pair_at-entry entries j e at facts.0) path (on_path e facts.1 facts.2 below) in
        subst (λ (n : ℕ). Contains (posting_at trees n path) j) facts.1 there
