-- Where the work on a formula has too many states, and only there, more vectors are reached than a table has room for.
use Rattle.std.proofs.Common.{ℕ, zero, suc, ◌≡◌, ◌==◌, ◌<◌, ◌≤◌, ◌+◌, ◌⊎◌, inl, inr, false, cond, List, [], ◌∷◌, Option, Some, None, Result, Ok, Err, All, Contains, map, length, get_or, slice_get, refl, sym, ap, subst, ◌∙◌, arith}
use Rattle.std.specs.List.{IsDistinct}
use Rattle.std.proofs.lemmas.Bool.Decides.{eqb_tells, same_from_decides, Decides-like}
use Rattle.std.proofs.lemmas.Bool.{eqb-true}
use Rattle.std.proofs.Math.Dec.{eqb}
use Rattle.std.proofs.lemmas.List.{length-map}
use Rattle.std.proofs.lemmas.List.Elements.{All-contains, All-cons, All-map, recursion_from_All}
use Rattle.std.proofs.lemmas.Map.Keys.{IsDistinct-cons}
use Rattle.std.proofs.lemmas.Map.Views.{Contains-from_any}
use Rattle.std.proofs.lemmas.Map.Steps.{length-le_from_distinct_below}
use Rattle.std.proofs.lemmas.Option.{slice_get_within, slice_get-get_or, get_or_from_slice_get}
use Rattle.jm_model.specs.declared.step.Letter.{Letter}
use Rattle.jm_model.specs.declared.fault.SpecFault.{SpecFault}
use Rattle.jm_model.specs.declared.fault.SpecFault.TheVariants.{TooManyStates}
use Rattle.jm_model.specs.declared.fault.SpecError.{SpecError}
use Rattle.jm_model.specs.declared.fault.SpecError.TheVariants.{Bad, NoMemory}
use Rattle.jm_table.specs.Graphs.{IsReached, reached_by}
use Rattle.jm_table.specs.Explorations.{IsWithoutRepeats, IfBad, IsMet}
use Rattle.jm_table.specs.Explorations as table
use Rattle.jm_table.specs.Tables.{Transitions, state_after_of, Follows}
use Rattle.jm_ptltl.specs.Formulas.{Formula}
use Rattle.jm_ptltl.specs.Vectors.{has_bit, graph_of}
use Rattle.jm_ptltl.specs.Tables.{IsVector, IsReachedVector, IsCrowded, HasStates}
use Rattle.jm_ptltl.proofs.BitLemmas.{same_vector, bit_decides}
use Rattle.jm_ptltl.proofs.VectorLemmas.{size}
use Rattle.jm_ptltl.proofs.CompileLemmas.{vector_after, is_vector}

-- ---- lists of vectors, and perhaps the start

-- the vectors of a list
abbrev vectors_of : List (Option ℕ) → List ℕ
vectors_of [] = []
vectors_of (None ∷ os) = vectors_of os
vectors_of (Some v ∷ os) = v ∷ vectors_of os

there : {X : Type 0} (xs : List X) (k : ℕ) (x : X) → slice_get xs k ≡ Some x → Contains xs x
there xs k x h = (k, slice_get_within xs k x h, get_or_from_slice_get xs k x x h)

vector_there : (os : List (Option ℕ)) (k v : ℕ) → slice_get (vectors_of os) k ≡ Some v → (j : ℕ) × (slice_get os j ≡ Some (Some v))
vector_there [] k v h = absurd (cc)
vector_there (None ∷ os) k v h = let p = vector_there os k v h in (suc p.0, p.1)
vector_there (Some w ∷ os) zero v h = let e : w ≡ v = cc in (0, ap (λ x. Some (Some x)) e)
vector_there (Some w ∷ os) (suc k) v h = let p = vector_there os k v h in (suc p.0, p.1)

rest_distinct : (o : Option ℕ) (os : List (Option ℕ)) → IsWithoutRepeats (o ∷ os) → IsWithoutRepeats os
rest_distinct o os h j k d hj hk = let e = h (suc j) (suc k) d hj hk in omega (arith, e)

vectors_distinct : (os : List (Option ℕ)) → IsWithoutRepeats os → IsWithoutRepeats (vectors_of os)
vectors_distinct [] h j k d hj hk = absurd (cc)
vectors_distinct (None ∷ os) h j k d hj hk = vectors_distinct os (rest_distinct None os h) j k d hj hk
vectors_distinct (Some v ∷ os) h zero zero d hj hk = refl
vectors_distinct (Some v ∷ os) h zero (suc k) d hj hk = let p = vector_there os k d hk in
    let e : v ≡ d = cc in
    absurd (let twice = h 0 (suc p.0) (Some d) (ap (λ x. Some (Some x)) e) p.1 in omega (arith, twice))
vectors_distinct (Some v ∷ os) h (suc j) zero d hj hk = let p = vector_there os j d hj in
    let e : v ≡ d = cc in
    absurd (let twice = h 0 (suc p.0) (Some d) (ap (λ x. Some (Some x)) e) p.1 in omega (arith, twice))
vectors_distinct (Some v ∷ os) h (suc j) (suc k) d hj hk = ap suc (vectors_distinct os (rest_distinct (Some v) os h) j k d hj hk)

all_vectors : (os : List (Option ℕ)) → ((k : ℕ) → slice_get os k ≡ Some None → ⊥) → length os ≤ length (vectors_of os)
all_vectors [] h = omega arith
all_vectors (None ∷ os) h = absurd (h 0 refl)
all_vectors (Some v ∷ os) h = let more = all_vectors os (λ k e. h (suc k) e) in omega (arith, more)

most_vectors : (os : List (Option ℕ)) → IsWithoutRepeats os → length os ≤ length (vectors_of os) + 1
most_vectors [] h = omega arith
most_vectors (None ∷ os) h = let all = all_vectors os (λ k e. let twice = h 0 (suc k) None refl e in omega (arith, twice)) in omega (arith, all)
most_vectors (Some v ∷ os) h = let more = most_vectors os (rest_distinct (Some v) os h) in omega (arith, more)

few_vectors : (os : List (Option ℕ)) → length (vectors_of os) ≤ length os
few_vectors [] = omega arith
few_vectors (None ∷ os) = omega (arith, few_vectors os)
few_vectors (Some v ∷ os) = omega (arith, few_vectors os)

-- after the start there are only vectors
all_but_one : (os : List (Option ℕ)) → slice_get os 0 ≡ Some None → IsWithoutRepeats os → length os ≡ length (vectors_of os) + 1
all_but_one [] start distinct = absurd (cc)
all_but_one (None ∷ os) start distinct = omega (arith, most_vectors (None ∷ os) distinct, few_vectors os)
all_but_one (Some v ∷ os) start distinct = absurd (cc)

one_of_them : (os : List (Option ℕ)) (k v : ℕ) → slice_get os k ≡ Some (Some v) → (j : ℕ) × (slice_get (vectors_of os) j ≡ Some v)
one_of_them [] k v h = absurd (cc)
one_of_them (None ∷ os) zero v h = absurd (cc)
one_of_them (None ∷ os) (suc k) v h = one_of_them os k v h
one_of_them (Some w ∷ os) zero v h = let e : w ≡ v = cc in (0, ap (λ x. Some x) e)
one_of_them (Some w ∷ os) (suc k) v h = let p = one_of_them os k v h in (suc p.0, p.1)

-- where a vector stands in a list
abbrev place_of : List (Option ℕ) → ℕ → ℕ
place_of [] v = 0
place_of (None ∷ os) v = suc (place_of os v)
place_of (Some w ∷ os) v = cond (w == v) 0 (suc (place_of os v))

place_is : (os : List (Option ℕ)) (k v : ℕ) → slice_get os k ≡ Some (Some v) → slice_get os (place_of os v) ≡ Some (Some v)
place_is [] k v h = absurd (cc)
place_is (None ∷ os) zero v h = absurd (cc)
place_is (None ∷ os) (suc k) v h = place_is os k v h
place_is (Some w ∷ os) zero v h = let e : w ≡ v = cc in elim (eqb_tells w v) [ inl same ↦ rw same.0 (ap (λ x. Some (Some x)) e) | inr other ↦ absurd (other.1 e) ]
place_is (Some w ∷ os) (suc k) v h = elim (eqb_tells w v) [ inl same ↦ rw same.0 (ap (λ x. Some (Some x)) same.1) | inr other ↦ rw other.0 (place_is os k v h) ]

-- vectors that stand in a list after its start are fewer than the list has items
module _ (nodes : List (Option ℕ)) (start : slice_get nodes 0 ≡ Some None) where
  places_differ : (vs : List ℕ) → ((k v : ℕ) → slice_get vs k ≡ Some v → slice_get nodes (place_of nodes v) ≡ Some (Some v)) → IsWithoutRepeats vs → IsDistinct eqb (map (place_of nodes) vs)
  unfolding IsDistinct
  places_differ [] stand distinct = tt
  places_differ (v ∷ vs) stand distinct =
      let apart : All (λ w. eqb (place_of nodes v) (place_of nodes w) ≡ false) vs = λ k d lt.
      let w = get_or vs k d in
      let at = slice_get-get_or vs k d lt in
      elim (eqb_tells (place_of nodes v) (place_of nodes w)) [
        | inl same ↦
            let one : ◌≡◌ {A = Option (Option ℕ)} (Some (Some v)) (Some (Some w)) = sym (stand 0 v refl) ∙ ap (λ j. slice_get nodes j) same.1 ∙ stand (suc k) w at in
            let e : v ≡ w = cc in
            let twice = distinct 0 (suc k) w (ap (λ x. Some x) e) at in
            absurd (omega (arith, twice))
        | inr other ↦ other.0
      ] in
      IsDistinct-cons eqb (place_of nodes v) (map (place_of nodes) vs)
      (recursion_from_All (λ y. eqb (place_of nodes v) y ≡ false) (map (place_of nodes) vs) (All-map (λ y. eqb (place_of nodes v) y ≡ false) (place_of nodes) vs apart))
      (places_differ vs (λ k w at. stand (suc k) w at) (λ j k d hj hk. let e : suc j ≡ suc k = distinct (suc j) (suc k) d hj hk in omega (arith, e)))

  not_first : (v : ℕ) → slice_get nodes (place_of nodes v) ≡ Some (Some v) → eqb 0 (place_of nodes v) ≡ false
  not_first v h = elim (eqb_tells 0 (place_of nodes v)) [
    | inl same ↦ let e : ◌≡◌ {A = Option (Option ℕ)} (Some None) (Some (Some v)) = sym start ∙ ap (λ j. slice_get nodes j) same.1 ∙ h in absurd (cc)
    | inr other ↦ other.0
  ]

  fewer : (vs : List ℕ) → ((k v : ℕ) → slice_get vs k ≡ Some v → slice_get nodes (place_of nodes v) ≡ Some (Some v)) → IsWithoutRepeats vs → length vs + 1 ≤ length nodes
  fewer vs stand distinct =
      let places = map (place_of nodes) vs in
      let below : All (λ y. y < length nodes) places = All-map (λ y. y < length nodes) (place_of nodes) vs (λ k d lt. slice_get_within nodes (place_of nodes (get_or vs k d)) (Some (get_or vs k d)) (stand k (get_or vs k d) (slice_get-get_or vs k d lt))) in
      let others : All (λ y. eqb 0 y ≡ false) places = All-map (λ y. eqb 0 y ≡ false) (place_of nodes) vs (λ k d lt. not_first (get_or vs k d) (stand k (get_or vs k d) (slice_get-get_or vs k d lt))) in
      let all = IsDistinct-cons eqb 0 places (recursion_from_All (λ y. eqb 0 y ≡ false) places others) (places_differ vs stand distinct) in
      let count = length-le_from_distinct_below (0 ∷ places) (length nodes) all (λ q passes. All-contains (λ y. y < length nodes) (0 ∷ places) q (All-cons (λ y. y < length nodes) 0 places (slice_get_within nodes 0 None start) below) (Contains-from_any (λ x y e. eqb-true x y e) q (0 ∷ places) passes)) in
      omega (arith, count, length-map vs (place_of nodes))

module _ (f : Formula Letter) (few : size f ≤ 64) where
  some_letters : (word : List ℕ) (v : ℕ) → reached_by (graph_of f) word ≡ Ok (Some v) → 0 < length word
  some_letters [] v h = absurd (cc)
  some_letters (x ∷ word) v h = omega arith

  reached_vector : (letters v : ℕ) → IsReached (graph_of f) letters (Some v) → IsReachedVector f letters v
  reached_vector letters v h =
      let some = some_letters h.0 v h.2 in
      let r = vector_after f few h.0 some in
      let e : ◌≡◌ {A = Result (Option ℕ) SpecFault} (Ok (Some r.0)) (Ok (Some v)) = sym r.1.is ∙ h.2 in
      let same : r.0 ≡ v = cc in
      (h.0, some, h.1, subst (λ (w : ℕ). IsVector f h.0 w) same (is_vector f few h.0 r.0 r.1))

  -- more data than a table has room for is more vectors
  crowd_of : (letters : ℕ) → table.IsCrowded (graph_of f) letters → IsCrowded f letters
  crowd_of letters crowd = record {
    vectors = vectors_of crowd.found;
    many = omega (arith, crowd.many, most_vectors crowd.found crowd.distinct);
    each = λ k d lt.
        let v = get_or (vectors_of crowd.found) k d in
        let p = vector_there crowd.found k v (slice_get-get_or (vectors_of crowd.found) k d lt) in
        reached_vector letters v (All-contains (IsReached (graph_of f) letters) crowd.found (Some v) crowd.each (there crowd.found p.0 (Some v) p.1));
    distinct = vectors_distinct crowd.found crowd.distinct;
  }

  met_nowhere : (word : List ℕ) (fault : SpecFault) → reached_by (graph_of f) word ≡ Err fault → ⊥
  met_nowhere [] fault h = absurd (cc)
  met_nowhere (x ∷ word) fault h =
      let r = vector_after f few (x ∷ word) (omega arith) in
      let e : ◌≡◌ {A = Result (Option ℕ) SpecFault} (Ok (Some r.0)) (Err fault) = sym r.1.is ∙ h in
      absurd (cc)

  pub cause_of : (letters : ℕ) (e : SpecError) → IfBad e (λ fault. IsMet (graph_of f) letters fault ⊎ ((fault ≡ TooManyStates) × table.IsCrowded (graph_of f) letters))
      → (e ≡ NoMemory) ⊎ ((e ≡ Bad TooManyStates) × IsCrowded f letters)
  cause_of letters NoMemory h = inl refl
  cause_of letters (Bad fault) (inl met) = absurd (met_nowhere met.word fault met.meets)
  cause_of letters (Bad fault) (inr crowd) = inr (ap (λ x. Bad x) crowd.0, crowd_of letters crowd.1)

  -- the vector of a word is one
  one_vector : (word : List ℕ) (v w : ℕ) → IsVector f word v → IsVector f word w → v ≡ w
  one_vector word v w hv hw = same_vector v w (λ k. same_from_decides (has_bit v k) (has_bit w k) (Decides-like (has_bit v k) (hv k).0 (hv k).1 (bit_decides v k)) (Decides-like (has_bit w k) (hw k).0 (hw k).1 (bit_decides w k)))

  -- what a table that follows the formula has at its start, and after each word
  module _ (t : Transitions) (nodes : List (Option ℕ)) (follows : Follows (graph_of f) t nodes) where
    start_is : slice_get nodes 0 ≡ Some None
    start_is =
        let first = follows.stands [] (λ k d lt. absurd (omega (arith, lt))) in
        let none : ◌≡◌ {A = Result (Option ℕ) SpecFault} (Ok None) (Ok first.0) = first.1 in
        let e : None ≡ first.0 = cc in
        first.2 ∙ ap (λ x. Some x) (sym e)

    stands_at : (v : ℕ) → (reached : IsReachedVector f t.letters v) → slice_get nodes (state_after_of t reached.0) ≡ Some (Some v)
    stands_at v h =
        let r = vector_after f few h.0 h.1 in
        let one = one_vector h.0 r.0 v (is_vector f few h.0 r.0 r.1) h.3 in
        let s = follows.stands h.0 h.2 in
        let e : ◌≡◌ {A = Result (Option ℕ) SpecFault} (Ok s.0) (Ok (Some r.0)) = sym s.1 ∙ r.1.is in
        let end : s.0 ≡ Some r.0 = cc in
        s.2 ∙ ap (λ x. Some x) end ∙ ap (λ x. Some (Some x)) one

    -- a table that follows the formula has room for all vectors
    pub room_for_all : t.states ≤ 1024 → IsCrowded f t.letters → ⊥
    room_for_all states crowd =
        let vs = crowd.vectors in
        let stand : (k v : ℕ) → slice_get vs k ≡ Some v → slice_get nodes (place_of nodes v) ≡ Some (Some v) = λ k v at.
        let h = All-contains (IsReachedVector f t.letters) vs v crowd.each (there vs k v at) in
        place_is nodes (state_after_of t h.0) v (stands_at v h) in
        absurd (omega (arith, fewer nodes start_is vs stand crowd.distinct, crowd.many, states, follows.count))

    -- its states are the start and the vectors
    pub states_are : (after : Transitions) → after.states ≡ t.states → after.letters ≡ t.letters → HasStates f after
    states_are after states letters =
        let vs = vectors_of nodes in
        record {
          vectors = vs;
          count = omega (arith, states, follows.count, all_but_one nodes start_is follows.distinct);
          each = λ k d lt.
              let v = get_or vs k d in
              let p = vector_there nodes k v (slice_get-get_or vs k d lt) in
              let r = follows.reached p.0 (omega (arith, slice_get_within nodes p.0 (Some v) p.1, follows.count)) in
              let s = follows.stands r.0 r.1 in
              let same : ◌≡◌ {A = Option (Option ℕ)} (Some s.0) (Some (Some v)) = sym s.2 ∙ ap (λ j. slice_get nodes j) r.2 ∙ p.1 in
              let e : s.0 ≡ Some v = cc in
              subst (λ n. IsReachedVector f n v) (sym letters) (reached_vector t.letters v (r.0, r.1, s.1 ∙ ap (λ x. Ok x) e));
          all = λ v h.
              let reached = subst (λ n. IsReachedVector f n v) letters h in
              let p = one_of_them nodes (state_after_of t reached.0) v (stands_at v reached) in
              there vs p.0 v p.1;
          distinct = vectors_distinct nodes follows.distinct;
        }
