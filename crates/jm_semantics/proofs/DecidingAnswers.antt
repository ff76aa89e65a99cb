-- Instances and answers by tests that compute, for a meaning whose categories are decided by a test.
use Rattle.std.proofs.Common.{◌≡◌, ℕ, Bool, true, false, cond, ◌⊎◌, inl, inr, List, [], ◌∷◌, ◌++◌, length, refl, sym, subst}
use Rattle.std.specs.Prelude.{Contains, ◌&&◌, ◌||◌, not, ◌==◌, filter, map, bit_and, ltb}
use Rattle.std.specs.List.{list_any, list_all}
use Rattle.std.specs.List.Sorted.{IsStrictlySortedBy}
use Rattle.std.proofs.lemmas.Bool.{false≢true, and_parts, and_from, or_cases, or_right, ltb-true, lt-ltb, eqb-true, eq-eqb}
use Rattle.std.proofs.lemmas.List.Elements.{Contains-append_left, Contains-append_right}
use Rattle.jm_model.specs.Bindings.{is_below, join, join_of, empty, mask_of}
use Rattle.jm_model.specs.Meanings.{Meaning, IsHit}
use Rattle.jm_model.specs.declared.binding.Binding.{Binding}
use Rattle.jm_model.specs.declared.firings.Firing.{Firing}
use Rattle.jm_semantics.specs.Traces.{ParametricEvent, seen_of, slice_of}
use Rattle.jm_semantics.specs.Instances.{IsInstance, join_below}
use Rattle.jm_semantics.specs.Answers.{Fires, IsAnswer, firing_cmp}
use Rattle.jm_semantics.proofs.ListLemmas.{Contains-head, Contains-map}
use Rattle.jm_semantics.proofs.BindingLemmas.{below-refl, below-antisym}
use Rattle.jm_semantics.proofs.InstanceLemmas.{instance-join, join-instance, join_below-below}
use Rattle.jm_semantics.proofs.DecidingLists.{list_all-at, list_any-from, list_any-at, member-tested, implied, numbers_below, Contains-numbers_below}

-- ---- the instances are among the joins of some of the seen bindings
-- the joins of the sublists
abbrev pub joins_of : List Binding → List Binding
joins_of [] = empty ∷ []
joins_of (b ∷ bs) = joins_of bs ++ map (join b) (joins_of bs)

joins_of-filter : (p : Binding → Bool) (bs : List Binding) → Contains (joins_of bs) (join_of (filter p bs))
joins_of-filter p [] = Contains-head empty []
joins_of-filter p (b ∷ bs) =
    elim (p b) as (λ v. Contains (joins_of bs ++ map (join b) (joins_of bs)) (join_of (cond v (b ∷ filter p bs) (filter p bs)))) [
      | true ↦ Contains-append_right (joins_of bs) (map (join b) (joins_of bs)) (join b (join_of (filter p bs)))
          (Contains-map (join b) (joins_of bs) (join_of (filter p bs)) (joins_of-filter p bs))
      | false ↦ Contains-append_left (joins_of bs) (map (join b) (joins_of bs)) (join_of (filter p bs)) (joins_of-filter p bs)
    ]

-- an instance is the join of some of the seen bindings
pub instance-among : (trace : List ParametricEvent) (t : Binding) → IsInstance trace t → Contains (joins_of (seen_of trace)) t
instance-among trace t i =
    subst (Contains (joins_of (seen_of trace))) (sym (instance-join trace t i)) (joins_of-filter (λ b. is_below b t) (seen_of trace))

-- ---- tests of instances
-- whether t is an instance
abbrev pub instance_test : List ParametricEvent → Binding → Bool
instance_test trace t = (length t == 8) && is_below t (join_below trace t)

pub instance-tested : (trace : List ParametricEvent) (t : Binding) → instance_test trace t ≡ true → IsInstance trace t
instance-tested trace t h =
    let hs = and_parts (length t == 8) (is_below t (join_below trace t)) h in
    let l : length t ≡ 8 = eqb-true (length t) 8 hs.0 in
    join-instance trace t l (below-antisym t (join_below trace t) hs.1 (join_below-below trace t l))

pub tested-instance : (trace : List ParametricEvent) (t : Binding) → IsInstance trace t → instance_test trace t ≡ true
tested-instance trace t i =
    and_from (length t == 8) (is_below t (join_below trace t)) (eq-eqb (length t) 8 i.eight)
    (subst (λ s. is_below t s ≡ true) (instance-join trace t i) (below-refl t))

-- ---- tests of hits
-- a test that decides the categories of a meaning
pub record Tests (m : Meaning) : Type 0 where
  pub test : List ℕ → ℕ → Bool
  pub holds : (w : List ℕ) (k : ℕ) → test w k ≡ true → m.Holds w k
  pub tested : (w : List ℕ) (k : ℕ) → m.Holds w k → test w k ≡ true

-- whether the list is empty
abbrev pub is_nil : {X : Type 0} → List X → Bool
is_nil [] = true
is_nil (x ∷ xs) = false

nil-tested : {X : Type 0} (xs : List X) → is_nil xs ≡ true → xs ≡ []
nil-tested [] h = refl
nil-tested (x ∷ xs) h = absurd (false≢true h)

cons≢nil : {X : Type 0} (x : X) (xs : List X) → x ∷ xs ≡ [] → ⊥
cons≢nil x xs e = cc

-- whether e may be the first letter
abbrev pub may_begin : List ℕ → ℕ → Bool
may_begin creation e = is_nil creation || list_any (λ c. c == e) creation

begin-tested : (creation : List ℕ) (e : ℕ) → may_begin creation e ≡ true → (creation ≡ []) ⊎ Contains creation e
begin-tested creation e h =
    elim (or_cases (is_nil creation) (list_any (λ c. c == e) creation) h) [
      | inl none ↦ inl (nil-tested creation none)
      | inr some ↦
          let r = list_any-from (λ c. c == e) creation some in
          inr (subst (Contains creation) (eqb-true r.0 e r.2) r.1)
    ]

tested-begin : (creation : List ℕ) (e : ℕ) → (creation ≡ []) ⊎ Contains creation e → may_begin creation e ≡ true
tested-begin creation e (inl none) = rw none
tested-begin creation e (inr some) =
    or_right (is_nil creation) (list_any (λ c. c == e) creation) (list_any-at (λ c. c == e) creation e some (eq-eqb e e refl))

-- whether handler k is hit
abbrev pub hit_test : (m : Meaning) → Tests m → List ℕ → ℕ → Bool
hit_test m d [] k = false
hit_test m d (e ∷ w) k = may_begin m.creation e && (ltb k m.handlers && d.test (e ∷ w) k)

hit-tested : (m : Meaning) (d : Tests m) (w : List ℕ) (k : ℕ) → hit_test m d w k ≡ true → IsHit m w k
hit-tested m d [] k h = absurd (false≢true h)
hit-tested m d (e ∷ w) k h =
    let hs = and_parts (may_begin m.creation e) (ltb k m.handlers && d.test (e ∷ w) k) h in
    let ks = and_parts (ltb k m.handlers) (d.test (e ∷ w) k) hs.1 in
    (cons≢nil e w, begin-tested m.creation e hs.0, ltb-true k m.handlers ks.0, d.holds (e ∷ w) k ks.1)

tested-hit : (m : Meaning) (d : Tests m) (w : List ℕ) (k : ℕ) → IsHit m w k → hit_test m d w k ≡ true
tested-hit m d [] k h = absurd (h.0 refl)
tested-hit m d (e ∷ w) k h =
    and_from (may_begin m.creation e) (ltb k m.handlers && d.test (e ∷ w) k) (tested-begin m.creation e h.1)
    (and_from (ltb k m.handlers) (d.test (e ∷ w) k) (lt-ltb k m.handlers h.2) (d.tested (e ∷ w) k h.3))

-- ---- tests of firings
-- whether the pair fires at the event a, with which the trace ends
abbrev pub fires_test : (m : Meaning) → Tests m → List ParametricEvent → ParametricEvent → Firing → Bool
fires_test m d trace a f =
    instance_test trace f.instance && (is_below a.binding f.instance
    && ((bit_and m.must_bind (mask_of f.instance) == m.must_bind) && hit_test m d (slice_of trace f.instance) f.handler))

fires-tested : (m : Meaning) (d : Tests m) (trace : List ParametricEvent) (a : ParametricEvent) (f : Firing) → fires_test m d trace a f ≡ true → Fires m trace a f
fires-tested m d trace a f h =
    let full = bit_and m.must_bind (mask_of f.instance) == m.must_bind in
    let hit = hit_test m d (slice_of trace f.instance) f.handler in
    let one = and_parts (instance_test trace f.instance) (is_below a.binding f.instance && (full && hit)) h in
    let two = and_parts (is_below a.binding f.instance) (full && hit) one.1 in
    let three = and_parts full hit two.1 in
    record {
      instance = instance-tested trace f.instance one.0;
      above = two.0;
      full = eqb-true (bit_and m.must_bind (mask_of f.instance)) m.must_bind three.0;
      hit = hit-tested m d (slice_of trace f.instance) f.handler three.1;
    }

tested-fires : (m : Meaning) (d : Tests m) (trace : List ParametricEvent) (a : ParametricEvent) (f : Firing) → Fires m trace a f → fires_test m d trace a f ≡ true
tested-fires m d trace a f h =
    let full = bit_and m.must_bind (mask_of f.instance) == m.must_bind in
    let hit = hit_test m d (slice_of trace f.instance) f.handler in
    and_from (instance_test trace f.instance) (is_below a.binding f.instance && (full && hit)) (tested-instance trace f.instance h.instance)
    (and_from (is_below a.binding f.instance) (full && hit) h.above
    (and_from full hit (eq-eqb (bit_and m.must_bind (mask_of f.instance)) m.must_bind h.full) (tested-hit m d (slice_of trace f.instance) f.handler h.hit)))

-- ---- equal bindings and firings
-- whether two bindings lie below each other
abbrev pub same_binding : Binding → Binding → Bool
same_binding b t = is_below b t && is_below t b

-- whether two firings are the same
abbrev pub same_firing : Firing → Firing → Bool
same_firing f g = same_binding f.instance g.instance && (f.handler == g.handler)

pub binding-same : (b t : Binding) → same_binding b t ≡ true → b ≡ t
binding-same b t h = let hs = and_parts (is_below b t) (is_below t b) h in below-antisym b t hs.0 hs.1

firing-same : (f g : Firing) → same_firing f g ≡ true → f ≡ g
firing-same f g h =
    let hs = and_parts (same_binding f.instance g.instance) (f.handler == g.handler) h in
    let instance = binding-same f.instance g.instance hs.0 in
    let handler = eqb-true f.handler g.handler hs.1 in
    λ i. record { instance = instance i; handler = handler i }

-- ---- tests of answers
-- whether each listed pair fires
abbrev pub all_fire : (m : Meaning) → Tests m → List ParametricEvent → ParametricEvent → List Firing → Bool
all_fire m d trace a firings = list_all (fires_test m d (trace ++ a ∷ []) a) firings

-- whether each pair that fires is listed
abbrev pub all_listed : (m : Meaning) → Tests m → List ParametricEvent → ParametricEvent → List Firing → Bool
all_listed m d trace a firings =
    list_all (λ t. list_all (λ k.
    not (fires_test m d (trace ++ a ∷ []) a (record { instance = t; handler = k }))
    || list_any (λ f. same_firing f (record { instance = t; handler = k })) firings) (numbers_below m.handlers)) (joins_of (seen_of (trace ++ a ∷ [])))

pub answer-tested : (m : Meaning) (d : Tests m) (trace : List ParametricEvent) (a : ParametricEvent) (firings : List Firing)
    → IsStrictlySortedBy firing_cmp firings → all_fire m d trace a firings ≡ true → all_listed m d trace a firings ≡ true → IsAnswer m trace a firings
answer-tested m d trace a firings sorted fire listed = record {
  increasing = sorted;
  exact = λ f. (
    (λ h. fires-tested m d (trace ++ a ∷ []) a f (list_all-at (fires_test m d (trace ++ a ∷ []) a) firings f fire h)),
    (λ h.
        let per : Binding → ℕ → Bool = λ t k.
        not (fires_test m d (trace ++ a ∷ []) a (record { instance = t; handler = k }))
        || list_any (λ g. same_firing g (record { instance = t; handler = k })) firings in
        let at_instance = list_all-at (λ t. list_all (per t) (numbers_below m.handlers)) (joins_of (seen_of (trace ++ a ∷ []))) f.instance listed (instance-among (trace ++ a ∷ []) f.instance h.instance) in
        let at_handler = list_all-at (per f.instance) (numbers_below m.handlers) f.handler at_instance (Contains-numbers_below m.handlers f.handler h.hit.2) in
        member-tested same_firing firing-same firings f
        (implied (fires_test m d (trace ++ a ∷ []) a f) (list_any (λ g. same_firing g f) firings) at_handler (tested-fires m d (trace ++ a ∷ []) a f h))),
  );
}
