-- The live entries, by their positions.
use Rattle.std.proofs.Common.{◌≡◌, ℕ, zero, suc, ◌+◌, ◌<◌, ◌==◌, Bool, true, false, cond, ◌&&◌, List, [], ◌∷◌, ◌++◌, Option, Some, None, length, get_or, refl, sym, ap, ◌∙◌, subst, arith}
use Rattle.std.specs.Prelude.{◌≢◌, AllPairs, Contains, slice_get, slice_set, take}
use Rattle.std.specs.List.{cons_option, filter_map}
use Rattle.std.proofs.lemmas.Bool.{and_parts, eqb-true, false_from_ne_true}
use Rattle.std.proofs.lemmas.Option.{cond_some}
use Rattle.std.proofs.lemmas.List.Elements.{filter_map-append, Contains-get_or}
use Rattle.std.proofs.lemmas.List.{take_more}
use Rattle.jm_model.specs.Bindings.{is_compatible, mask_of}
use Rattle.jm_index.specs.declared.entry.Entry.{Entry}
use Rattle.jm_index.specs.Index.{Pair, is_same, without, asked_slots}
use Rattle.jm_index.specs.Layout.{pair_of, live_pairs, pair_at, is_live_at, slot_of}
use Rattle.jm_index.proofs.ReadLemmas.{Contains-none, Contains-cons}
use Rattle.jm_index.proofs.BindingLemmas.{is_same-true, is_same-same}

-- the pairs that are asked for are those whose entries give a slot
asked_step : (domain : ℕ) (b : List (Option ℕ)) (e : Entry) (xs : List ℕ) (list : List Pair) → xs ≡ asked_slots domain b list → (live test : Bool)
    → ((mask_of e.binding == domain) && is_compatible e.binding b) ≡ test
    → cons_option (cond (live && ((mask_of e.binding == domain) && is_compatible e.binding b)) (Some e.slot) None) xs
    ≡ asked_slots domain b (cons_option (cond live (Some (record { binding = e.binding; slot = e.slot })) None) list)
asked_step domain b e xs list ih false test is = ih
asked_step domain b e xs list ih true true is = rw is (ap (λ (v : List ℕ). e.slot ∷ v) ih)
asked_step domain b e xs list ih true false is = rw is ih

pub asked_slots-live : (domain : ℕ) (b : List (Option ℕ)) (es : List Entry) → filter_map (slot_of domain b) es ≡ asked_slots domain b (live_pairs es)
asked_slots-live domain b [] = refl
asked_slots-live domain b (e ∷ es) =
    asked_step domain b e (filter_map (slot_of domain b) es) (live_pairs es) (asked_slots-live domain b es) e.live ((mask_of e.binding == domain) && is_compatible e.binding b) refl

-- an entry that gives a slot is live, and is asked for
pub slot_of_some : (domain : ℕ) (b : List (Option ℕ)) (e : Entry) (v : ℕ) → slot_of domain b e ≡ Some v
    → (e.live ≡ true) × (mask_of e.binding ≡ domain) × (is_compatible e.binding b ≡ true)
slot_of_some domain b e v is =
    let live = and_parts _ _ (cond_some _ _ _ is).0 in
    let test = and_parts _ _ live.1 in
    (live.0, eqb-true _ _ test.0, test.1)

pub pair_of_live : (e : Entry) → e.live ≡ true → pair_of e ≡ Some (record { binding = e.binding; slot = e.slot })
pair_of_live e live = rw live

pub pair_of_dead : (e : Entry) → e.live ≡ false → pair_of e ≡ None
pair_of_dead e dead = rw dead

pub pair_at-entry : (es : List Entry) (k : ℕ) (e : Entry) → slice_get es k ≡ Some e → e.live ≡ true → pair_at es k ≡ Some (record { binding = e.binding; slot = e.slot })
pair_at-entry es k e at live = rw at (pair_of_live e live)

pub pair_at_within : (es : List Entry) (k : ℕ) (pair : Pair) → pair_at es k ≡ Some pair → k < length es
pair_at_within [] k pair is = cc
pair_at_within (e ∷ es) zero pair is = omega arith
pair_at_within (e ∷ es) (suc k) pair is = let rest = pair_at_within es k pair is in omega (arith, rest)

pub is_live-pair_at : (es : List Entry) (k : ℕ) (pair : Pair) → pair_at es k ≡ Some pair → is_live_at es k ≡ true
is_live-pair_at [] k pair is = cc
is_live-pair_at (e ∷ es) zero pair is = (cond_some _ _ _ is).0
is_live-pair_at (e ∷ es) (suc k) pair is = is_live-pair_at es k pair is

-- an entry more that isn't live is no pair
pub pair_at-hole : (es : List Entry) (e : Entry) (k : ℕ) → e.live ≡ false → pair_at (es ++ e ∷ []) k ≡ pair_at es k
pair_at-hole [] e zero dead = pair_of_dead e dead
pair_at-hole [] e (suc k) dead = refl
pair_at-hole (x ∷ es) e zero dead = refl
pair_at-hole (x ∷ es) e (suc k) dead = pair_at-hole es e k dead

pub live_pairs-hole : (es : List Entry) (e : Entry) → e.live ≡ false → live_pairs (es ++ e ∷ []) ≡ live_pairs es
live_pairs-hole [] e dead = rw (pair_of_dead e dead)
live_pairs-hole (x ∷ es) e dead = rw (live_pairs-hole es e dead)

-- one that is live is a pair at the end
pub live_pairs-push : (es : List Entry) (e : Entry) → e.live ≡ true → live_pairs (es ++ e ∷ []) ≡ live_pairs es ++ record { binding = e.binding; slot = e.slot } ∷ []
live_pairs-push es e live = filter_map-append pair_of es (e ∷ []) ∙ rw (pair_of_live e live)

pub pair_at-set_other : (es : List Entry) (k j : ℕ) (e : Entry) → (j ≡ k → ⊥) → pair_at (slice_set es k e) j ≡ pair_at es j
pair_at-set_other [] k j e apart = refl
pair_at-set_other (x ∷ es) zero zero e apart = absurd (apart refl)
pair_at-set_other (x ∷ es) zero (suc j) e apart = refl
pair_at-set_other (x ∷ es) (suc k) zero e apart = refl
pair_at-set_other (x ∷ es) (suc k) (suc j) e apart = pair_at-set_other es k j e (λ same. apart (ap (λ (n : ℕ). suc n) same))

pub pair_at-set_same : (es : List Entry) (k : ℕ) (e : Entry) → k < length es → pair_at (slice_set es k e) k ≡ pair_of e
pair_at-set_same [] k e h = absurd (omega arith)
pair_at-set_same (x ∷ es) zero e h = refl
pair_at-set_same (x ∷ es) (suc k) e h = pair_at-set_same es k e (omega arith)

-- each pair has a position
pub Contains-live : (es : List Entry) (k : ℕ) (pair : Pair) → pair_at es k ≡ Some pair → Contains (live_pairs es) pair
Contains-live [] k pair is = cc
Contains-live (e ∷ es) zero pair is = subst (λ (o : Option Pair). Contains (cons_option o (live_pairs es)) pair) (sym is) (0, (omega arith), refl)
Contains-live (e ∷ es) (suc k) pair is = behind (Contains-live es k pair is) (pair_of e)
  where
    behind : Contains (live_pairs es) pair → (o : Option Pair) → Contains (cons_option o (live_pairs es)) pair
    behind rest None = rest
    behind rest (Some p) = Contains-cons p pair (live_pairs es) rest

pub position_of : (es : List Entry) (pair : Pair) → Contains (live_pairs es) pair → (k : ℕ) × (pair_at es k ≡ Some pair)
position_of [] pair there = absurd (Contains-none pair there)
position_of (e ∷ es) pair there = split (position_of es pair) (pair_of e) refl there
  where
    split : (Contains (live_pairs es) pair → (k : ℕ) × (pair_at es k ≡ Some pair)) → (o : Option Pair) → pair_of e ≡ o → Contains (cons_option o (live_pairs es)) pair
        → (k : ℕ) × (pair_at (e ∷ es) k ≡ Some pair)
    split ih None is h = let (k, at) = ih h in (suc k, at)
    split ih (Some p) is (zero, l, same) = (0, is ∙ ap (λ (x : Pair). Some x) same)
    split ih (Some p) is (suc j, l, same) = let (k, at) = ih (j, (omega arith), same) in (suc k, at)

-- without a binding that isn't there
cons_without : (b : List (Option ℕ)) (o : Option Pair) (list kept : List Pair) → kept ≡ without b list → ((pair : Pair) → o ≡ Some pair → pair.binding ≡ b → ⊥)
    → cons_option o kept ≡ without b (cons_option o list)
cons_without b None list kept ih apart = ih
cons_without b (Some pair) list kept ih apart =
    let other : is_same b pair.binding ≡ false = false_from_ne_true _ (λ same. apart pair refl (sym (is_same-true b pair.binding same))) in
    rw other (ap (λ (v : List Pair). pair ∷ v) ih)

pub without-none : (b : List (Option ℕ)) (es : List Entry) → ((k : ℕ) (pair : Pair) → pair_at es k ≡ Some pair → pair.binding ≡ b → ⊥) → live_pairs es ≡ without b (live_pairs es)
without-none b [] none = refl
without-none b (e ∷ es) none =
    cons_without b (pair_of e) (live_pairs es) (live_pairs es) (without-none b es (λ k pair at. none (suc k) pair at)) (λ pair at. none 0 pair at)

-- what is left where the one entry of a binding isn't live any more
pub live_pairs-removed : (b : List (Option ℕ)) (es : List Entry) (k : ℕ) (e : Entry) (pair : Pair) → e.live ≡ false → pair_at es k ≡ Some pair → pair.binding ≡ b
    → ((j : ℕ) (other : Pair) → pair_at es j ≡ Some other → other.binding ≡ b → j ≡ k) → live_pairs (slice_set es k e) ≡ without b (live_pairs es)
live_pairs-removed b [] k e pair dead at is only = cc
live_pairs-removed b (x ∷ es) zero e pair dead at is only =
    let gone : is_same b pair.binding ≡ true = is_same-same b pair.binding (sym is) in
    let rest = without-none b es (λ j other there same. let zero_is : suc j ≡ 0 = only (suc j) other there same in omega (arith, zero_is)) in
    rw (pair_of_dead e dead, at, gone) rest
live_pairs-removed b (x ∷ es) (suc k) e pair dead at is only =
    let rest = live_pairs-removed b es k e pair dead at is (λ j other there same. let next : suc j ≡ suc k = only (suc j) other there same in omega (arith, next)) in
    cons_without b (pair_of x) (live_pairs es) (live_pairs (slice_set es k e)) rest (λ other there same. let first : 0 ≡ suc k = only 0 other there same in omega (arith, first))

pub pair_at_past : (es : List Entry) → pair_at es (length es) ≡ None
pair_at_past [] = refl
pair_at_past (e ∷ es) = pair_at_past es

pub pair_at-take : (es : List Entry) (i k : ℕ) (pair : Pair) → pair_at (take i es) k ≡ Some pair → (pair_at es k ≡ Some pair) × (k < i)
pair_at-take es zero k pair at = cc
pair_at-take [] (suc i) k pair at = cc
pair_at-take (e ∷ es) (suc i) zero pair at = (at, omega arith)
pair_at-take (e ∷ es) (suc i) (suc k) pair at =
    let rest = pair_at-take es i k pair at in
    (rest.0, omega (arith, rest.1))

-- one entry more of a list
pub taken_live : (es : List Entry) (i : ℕ) (e : Entry) → i < length es → e ≡ get_or es i e → e.live ≡ true
    → live_pairs (take (i + 1) es) ≡ live_pairs (take i es) ++ record { binding = e.binding; slot = e.slot } ∷ []
taken_live es i e h at live =
    let more : take (i + 1) es ≡ take i es ++ e ∷ [] = rw (take_more es i e h, ← at) in
    rw more (live_pairs-push (take i es) e live)

pub taken_dead : (es : List Entry) (i : ℕ) (e : Entry) → i < length es → e ≡ get_or es i e → e.live ≡ false → live_pairs (take (i + 1) es) ≡ live_pairs (take i es)
taken_dead es i e h at dead =
    let more : take (i + 1) es ≡ take i es ++ e ∷ [] = rw (take_more es i e h, ← at) in
    rw more (live_pairs-hole (take i es) e dead)

pairs_cons : {X : Type 0} (R : X → X → Type 0) (x : X) (xs : List X) → ((y : X) → Contains xs y → R x y) → AllPairs R xs → AllPairs R (x ∷ xs)
pairs_cons R x xs first rest zero zero d h l = absurd (omega arith)
pairs_cons R x xs first rest zero (suc j) d h l = first (get_or xs j d) (Contains-get_or xs j d (omega (arith, l)))
pairs_cons R x xs first rest (suc i) zero d h l = absurd (omega arith)
pairs_cons R x xs first rest (suc i) (suc j) d h l = rest i j d (omega (arith, h)) (omega (arith, l))

-- pairs that differ wherever their positions do
pub distinct_pairs : (es : List Entry) → ((j k : ℕ) (a b : Pair) → pair_at es j ≡ Some a → pair_at es k ≡ Some b → a.binding ≡ b.binding → j ≡ k)
    → AllPairs (λ a b. a.binding ≢ b.binding) (live_pairs es)
distinct_pairs [] only = λ i j d h l. absurd (omega (arith, l))
distinct_pairs (e ∷ es) only =
    behind (distinct_pairs es (λ j k a b here there same. let next : suc j ≡ suc k = only (suc j) (suc k) a b here there same in omega (arith, next))) (pair_of e) refl
  where
    behind : AllPairs (λ a b. a.binding ≢ b.binding) (live_pairs es) → (o : Option Pair) → pair_of e ≡ o
        → AllPairs (λ a b. a.binding ≢ b.binding) (cons_option o (live_pairs es))
    behind ih None is = ih
    behind ih (Some p) is =
        pairs_cons (λ a b. a.binding ≢ b.binding) p (live_pairs es)
        (λ q there same. let (k, at) = position_of es q there in let first : 0 ≡ suc k = only 0 (suc k) p q is at same in omega (arith, first)) ih
