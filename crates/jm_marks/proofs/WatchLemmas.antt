-- The row of objects, one for each mark.
use Rattle.std.proofs.Common.{◌≡◌, ℕ, zero, suc, ◌+◌, ◌-◌, ◌<◌, inl, inr, Bool, true, false, cond, not, ◌||◌, List, [], ◌∷◌, ◌++◌, Option, Some, length, map, get_or, refl, sym, ap, ◌∙◌, subst, arith, length-append}
use Rattle.std.proofs.Math.ListN.{set}
use Rattle.std.specs.Prelude.{None, slice_get, MatchOption, IfSome, nat_lt}
use Rattle.std.specs.List.{swap_remove, list_any}
use Rattle.indexmap.specs.IndexSet.{insert_key}
use Rattle.std.proofs.lemmas.Bool.{cases_eq, cases_lt, false≢true}
use Rattle.std.proofs.lemmas.List.{length-set, get_or-set_same, get_or-set_other, get_or-take, get_or_append_left, length-take-le}
use Rattle.jm_model.specs.Layout.{binding_eq}
use Rattle.jm_model.specs.Bindings.{object_at}
use Rattle.jm_marks.specs.Marks.{is_dead_object, is_at_live, has_live}
use Rattle.jm_marks.specs.Layout.{IsBound, IsBoundBy, IsWatched, AreWatched}
use Rattle.jm_marks.specs.Watch.{spot_of, IsAliveSpot}

-- a binding that binds a live object has one
pub has_live-bound : (flags : List Bool) (b : List (Option ℕ)) (p o : ℕ) → object_at b p ≡ Some o → is_dead_object flags o ≡ false → has_live flags b ≡ true
has_live-bound flags [] p o at live = cc
has_live-bound flags (None ∷ b) zero o at live = cc
has_live-bound flags (None ∷ b) (suc p) o at live = has_live-bound flags b p o at live
has_live-bound flags (Some q ∷ b) zero o at live =
    let same : q ≡ o = cc in
    rw (same, live)
has_live-bound flags (Some q ∷ b) (suc p) o at live = rw (has_live-bound flags b p o at live) (either (not (is_dead_object flags q)))
  where
    either : (v : Bool) → (v || true) ≡ true
    either true = refl
    either false = refl

-- what is found alive is bound
pub live_watched : (flags : List Bool) (b : List (Option ℕ)) (p : ℕ) → is_at_live flags (object_at b p) ≡ true → has_live flags b ≡ true
    → MatchOption (object_at b p) (has_live flags b ≡ false) (λ o. (has_live flags b ≡ true) × IsBound b o)
live_watched flags b p live some = at (object_at b p) refl live
  where
    at : (x : Option ℕ) → object_at b p ≡ x → is_at_live flags x ≡ true → MatchOption x (has_live flags b ≡ false) (λ o. (has_live flags b ≡ true) × IsBound b o)
    at None is live' = absurd (false≢true live')
    at (Some o) is live' = (some, (p, is))

-- what stands at a place passes the test as it does by itself
mapped : {X : Type 0} (test : X → Bool) (xs : List X) (k : ℕ) (d : X) → k < length xs → slice_get (map test xs) k ≡ Some (test (get_or xs k d))
mapped test [] k d low = absurd (omega (arith, low))
mapped test (x ∷ xs) zero d low = refl
mapped test (x ∷ xs) (suc k) d low = mapped test xs k d (omega (arith, low))

pub live_at : (flags : List Bool) (bindings : List (List (Option ℕ))) (k : ℕ) (v : Bool) → k < length bindings → has_live flags (get_or bindings k []) ≡ v
    → slice_get (map (has_live flags) bindings) k ≡ Some v
live_at flags bindings k v low is = mapped (has_live flags) bindings k [] low ∙ ap (λ (x : Bool). Some x) is

-- a mark whose spot is that of a live object has a live object
pub alive_at : (dead : List Bool) (bindings : List (List (Option ℕ))) (spots : List ℕ) (k : ℕ) → AreWatched bindings spots → k < length bindings
    → IsAliveSpot dead (get_or spots k 0) → slice_get (map (has_live dead) bindings) k ≡ Some true
alive_at dead bindings spots k are low alive = live_at dead bindings k true low (at (are.each k low) alive)
  where
    at : IsWatched (get_or bindings k []) (get_or spots k 0) → IsAliveSpot dead (get_or spots k 0) → has_live dead (get_or bindings k []) ≡ true
    at (inl none) (some, live) = absurd (omega (arith, none, some))
    at (inr (o, is, (p, bound))) (some, live) =
        let same : get_or spots k 0 - 1 ≡ o = omega (arith, is) in
        has_live-bound dead (get_or bindings k []) p o bound (rw same at live)

-- an object that is bound may be watched by its spot
pub spot_watched : (b : List (Option ℕ)) (room : ℕ) (x : Option ℕ) → IsBoundBy b x → IsWatched b (spot_of room x)
spot_watched b room None bound = inl refl
spot_watched b room (Some o) bound = at (nat_lt o room)
  where
    at : (v : Bool) → IsWatched b (cond v (o + 1) 0)
    at true = inr (o, refl, bound o refl)
    at false = inl refl

pub bound_by : (b : List (Option ℕ)) (o : ℕ) → IsBound b o → IsBoundBy b (Some o)
bound_by b o bound q is =
    let same : o ≡ q = cc in
    rw (← same) bound

-- ---- how the row follows the set
pub watched_push : (bindings : List (List (Option ℕ))) (watched : List ℕ) (b : List (Option ℕ)) (w : ℕ) → AreWatched bindings watched → IsWatched b w → AreWatched (bindings ++ b ∷ []) (watched ++ w ∷ [])
watched_push bindings watched b w are is = record {
  size = omega (arith, length-append bindings (b ∷ []), length-append watched (w ∷ []), are.size);
  each = λ k low. elim (cases_lt k (length bindings)) [
    | inl before ↦
        let left : get_or (bindings ++ b ∷ []) k [] ≡ get_or bindings k [] = get_or_append_left bindings (b ∷ []) [] k before in
        let right : get_or (watched ++ w ∷ []) k 0 ≡ get_or watched k 0 = get_or_append_left watched (w ∷ []) 0 k (omega (arith, before, are.size)) in
        rw (left, right) (are.each k before)
    | inr past ↦
        let here : k ≡ length bindings = omega (arith, past, low, length-append bindings (b ∷ [])) in
        let there : k ≡ length watched = omega (arith, here, are.size) in
        rw (last_is bindings b [] k here, last_is watched w 0 k there) is
  ];
}
  where
    last_is : {X : Type 0} (xs : List X) (x d : X) (k : ℕ) → k ≡ length xs → get_or (xs ++ x ∷ []) k d ≡ x
    last_is [] x d k e = rw e
    last_is (y ∷ xs) x d zero e = absurd (omega (arith, e))
    last_is (y ∷ xs) x d (suc k) e = last_is xs x d k (omega (arith, e))

pub watched_set : (bindings : List (List (Option ℕ))) (watched : List ℕ) (i w : ℕ) → AreWatched bindings watched → i < length bindings → IsWatched (get_or bindings i []) w → AreWatched bindings (set watched i w)
watched_set bindings watched i w are within is = record {
  size = length-set watched i w ∙ are.size;
  each = λ k low. elim (cases_eq k i) [
    | inl same ↦
        let here : get_or (set watched i w) k 0 ≡ w = rw same (get_or-set_same watched i w 0 (omega (arith, within, are.size))) in
        rw here (subst (λ (n : ℕ). IsWatched (get_or bindings n []) w) (sym same) is)
    | inr other ↦ rw (get_or-set_other watched i k w 0 other) (are.each k low)
  ];
}

-- what stands at a place after a removal: the last where the place is that of what went, and else what stood there
pub removed_length : {X : Type 0} (xs : List X) (i : ℕ) (d : X) → length (swap_remove xs i d) ≡ length xs - 1
removed_length xs i d =
    let size = length-set xs i (get_or xs (length xs - 1) d) in
    length-take-le (length xs - 1) (set xs i (get_or xs (length xs - 1) d)) (omega (arith, size))

pub other_default : {X : Type 0} (xs : List X) (k : ℕ) (d e : X) → k < length xs → get_or xs k d ≡ get_or xs k e
other_default [] k d e low = absurd (omega (arith, low))
other_default (x ∷ xs) zero d e low = refl
other_default (x ∷ xs) (suc k) d e low = other_default xs k d e (omega (arith, low))

removed_here : {X : Type 0} (xs : List X) (i : ℕ) (d e : X) → i + 1 < length xs → get_or (swap_remove xs i d) i e ≡ get_or xs (length xs - 1) e
removed_here xs i d e low =
    get_or-take (length xs - 1) (set xs i (get_or xs (length xs - 1) d)) i e (omega (arith, low))
    ∙ get_or-set_same xs i (get_or xs (length xs - 1) d) e (omega (arith, low))
    ∙ other_default xs (length xs - 1) d e (omega (arith, low))

removed_other : {X : Type 0} (xs : List X) (i k : ℕ) (d e : X) → (k ≡ i → ⊥) → k + 1 < length xs → get_or (swap_remove xs i d) k e ≡ get_or xs k e
removed_other xs i k d e other low =
    get_or-take (length xs - 1) (set xs i (get_or xs (length xs - 1) d)) k e (omega (arith, low))
    ∙ get_or-set_other xs i k (get_or xs (length xs - 1) d) e other

pub watched_removed : (bindings : List (List (Option ℕ))) (watched : List ℕ) (i : ℕ) (b : List (Option ℕ)) (w : ℕ) → AreWatched bindings watched → i < length bindings
    → AreWatched (swap_remove bindings i b) (swap_remove watched i w)
watched_removed bindings watched i b w are within = record {
  size = omega (arith, removed_length bindings i b, removed_length watched i w, are.size);
  each = λ k low.
      let less : k + 1 < length bindings = omega (arith, low, removed_length bindings i b) in
      let also : k + 1 < length watched = omega (arith, less, are.size) in
      let last : length watched - 1 ≡ length bindings - 1 = omega (arith, are.size) in
      elim (cases_eq k i) [
        | inl same ↦
            let left : get_or (swap_remove bindings i b) k [] ≡ get_or bindings (length bindings - 1) [] = rw same (removed_here bindings i b [] (omega (arith, less, same))) in
            let right : get_or (swap_remove watched i w) k 0 ≡ get_or watched (length bindings - 1) 0 = rw (same, ← last) (removed_here watched i w 0 (omega (arith, also, same))) in
            rw (left, right) (are.each (length bindings - 1) (omega (arith, less)))
        | inr other ↦ rw (removed_other bindings i k b [] other less, removed_other watched i k w 0 other also) (are.each k (omega (arith, less)))
      ];
}

-- after a removal that took out what stood there
pub watched_dropped : (bindings new : List (List (Option ℕ))) (watched : List ℕ) (i : ℕ) (o : Option (List (Option ℕ))) (w : ℕ) → AreWatched bindings watched → i < length bindings
    → o ≡ slice_get bindings i → IfSome o (λ y. new ≡ swap_remove bindings i y) → AreWatched new (swap_remove watched i w)
watched_dropped bindings new watched i o w are within there removed =
    let at = got [] bindings i within in
    rw (subst (λ (v : Option (List (Option ℕ))). IfSome v (λ y. new ≡ swap_remove bindings i y)) (there ∙ at) removed)
    (watched_removed bindings watched i (get_or bindings i []) w are within)
  where
    got : {X : Type 0} (d : X) (xs : List X) (k : ℕ) → k < length xs → slice_get xs k ≡ Some (get_or xs k d)
    got d [] k low = absurd (omega (arith, low))
    got d (x ∷ xs) zero low = refl
    got d (x ∷ xs) (suc k) low = got d xs k (omega (arith, low))

-- an addition, which is one where the binding wasn't there
insert_new : (ks : List (List (Option ℕ))) (b : List (Option ℕ)) (v : Bool) → true ≡ not v → cond v ks (ks ++ b ∷ []) ≡ ks ++ b ∷ []
insert_new ks b true is = absurd (false≢true (sym is))
insert_new ks b false is = refl

insert_old : (ks : List (List (Option ℕ))) (b : List (Option ℕ)) (v : Bool) → false ≡ not v → cond v ks (ks ++ b ∷ []) ≡ ks
insert_old ks b true is = refl
insert_old ks b false is = absurd (false≢true is)

pub watched_added : (ks new : List (List (Option ℕ))) (watched : List ℕ) (b : List (Option ℕ)) (w : ℕ) → AreWatched ks watched → IsWatched b w → new ≡ insert_key binding_eq ks b
    → true ≡ not (list_any (binding_eq b) ks) → AreWatched new (watched ++ w ∷ [])
watched_added ks new watched b w are is keys added = rw (keys, insert_new ks b (list_any (binding_eq b) ks) added) (watched_push ks watched b w are is)

pub watched_known : (ks new : List (List (Option ℕ))) (watched : List ℕ) (b : List (Option ℕ)) → AreWatched ks watched → new ≡ insert_key binding_eq ks b
    → false ≡ not (list_any (binding_eq b) ks) → AreWatched new watched
watched_known ks new watched b are keys added = rw (keys, insert_old ks b (list_any (binding_eq b) ks) added) are
