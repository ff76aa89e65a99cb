use Rattle.std.proofs.Common.{◌≡◌, Bool, true, false, cond, inl, inr, List, [], ◌∷◌, ◌++◌, length, refl, sym, ◌∙◌, ap, subst}
use Rattle.std.specs.Prelude.{Contains, Some, filter, map}
use Rattle.std.proofs.lemmas.Bool.{false≢true, cases_Bool}
use Rattle.std.proofs.lemmas.List.{append-nil, map-append}
use Rattle.std.proofs.lemmas.List.Elements.{filter-append, Contains-append_left, Contains-append_right}
use Rattle.jm_model.specs.Bindings.{empty, is_below, is_compatible, object_at, join, join_of}
use Rattle.jm_model.specs.declared.binding.Binding.{Binding}
use Rattle.jm_semantics.specs.Traces.{ParametricEvent, seen_of, slice_of}
use Rattle.jm_semantics.specs.Instances.{IsInstance, seen_below, join_below}
use Rattle.jm_semantics.specs.Laws.{InstancesAreJoins, IsGrownInstance, InstancesGrowByJoins, SliceOfNewInstance, SliceOfAnyBinding}
use Rattle.jm_semantics.proofs.ListLemmas.{Contains-head, Contains-filter, Contains-from_filter, Contains-map, filter-agree_within}
use Rattle.jm_semantics.proofs.BindingLemmas.{below-object, below-from_objects, below-length, below-antisym, below-trans, below-compatible, below-join_left, below-join_right, join-gives, unbound-gives, join_of-below, below-join_of, join_of-gives, join_of-push}

-- ---- the join of the seen bindings below t
-- each seen binding below t lies below t
pub seen_below-below : (trace : List ParametricEvent) (t b : Binding) → Contains (seen_below trace t) b → is_below b t ≡ true
seen_below-below trace t b h = (Contains-from_filter (λ c. is_below c t) (seen_of trace) b h).1

-- so does their join
pub join_below-below : (trace : List ParametricEvent) (t : Binding) → length t ≡ 8 → is_below (join_below trace t) t ≡ true
join_below-below trace t l = join_of-below (seen_below trace t) t l (seen_below-below trace t)

-- a seen binding below t lies below the join of these
pub below-join_below : (trace : List ParametricEvent) (t b : Binding) → length t ≡ 8 → Contains (seen_of trace) b → is_below b t ≡ true → is_below b (join_below trace t) ≡ true
below-join_below trace t b l h k =
    below-join_of (seen_below trace t) t l (seen_below-below trace t) b (Contains-filter (λ c. is_below c t) (seen_of trace) b h k)

-- an instance below t lies below the join of the seen bindings below t, which is the largest instance below t
pub instance-below_join : (trace : List ParametricEvent) (s t : Binding) → IsInstance trace s → length t ≡ 8 → is_below s t ≡ true → is_below s (join_below trace t) ≡ true
instance-below_join trace s t i l below =
    let low : is_below (join_below trace t) t ≡ true = join_below-below trace t l in
    below-from_objects s (join_below trace t) (i.eight ∙ sym l ∙ sym (below-length (join_below trace t) t low)) (λ p o e.
    let g = i.given p o e in
    below-object g.0 (join_below trace t) p o (below-join_below trace t g.0 l g.1 (below-trans g.0 s t g.2 below)) g.3)

-- ---- instances are joins
pub instance-join : (trace : List ParametricEvent) (t : Binding) → IsInstance trace t → t ≡ join_below trace t
instance-join trace t i =
    below-antisym t (join_below trace t) (instance-below_join trace t t i i.eight (below-from_objects t t refl (λ p o e. e)))
    (join_below-below trace t i.eight)

pub join-instance : (trace : List ParametricEvent) (t : Binding) → length t ≡ 8 → t ≡ join_below trace t → IsInstance trace t
join-instance trace t l e = record {
  eight = l;
  given = λ p o at.
      let at' : object_at (join_below trace t) p ≡ Some o = ap (λ s. object_at s p) (sym e) ∙ at in
      let g = join_of-gives (seen_below trace t) p o at' in
      let from = Contains-from_filter (λ c. is_below c t) (seen_of trace) g.0 g.1 in
      (g.0, from.0, from.1, g.2);
}

pub instances_are_joins-lem : InstancesAreJoins
instances_are_joins-lem trace t = ((λ i. (i.eight, instance-join trace t i)), λ is. join-instance trace t is.0 is.1)

-- an instance below t that covers the seen bindings below t is their join
pub covering-join_below : (trace : List ParametricEvent) (s t : Binding) → IsInstance trace s → length t ≡ 8 → is_below s t ≡ true
    → ((b : Binding) → Contains (seen_of trace) b → is_below b t ≡ true → is_below b s ≡ true) → s ≡ join_below trace t
covering-join_below trace s t i l below covers =
    below-antisym s (join_below trace t) (instance-below_join trace s t i l below)
    (join_of-below (seen_below trace t) s i.eight (λ b h.
    let from = Contains-from_filter (λ c. is_below c t) (seen_of trace) b h in
    covers b from.0 from.1))

-- the empty binding is always an instance
pub empty-instance : (trace : List ParametricEvent) → IsInstance trace empty
empty-instance trace = record { eight = refl; given = λ p o at. absurd (unbound-gives 8 p o at) }

-- ---- the slice of any binding
same_test : (a b : Bool) → (a ≡ true → b ≡ true) → (b ≡ true → a ≡ true) → a ≡ b
same_test true b f g = sym (f refl)
same_test false true f g = absurd (false≢true (g refl))
same_test false false f g = refl

module _ (trace : List ParametricEvent) (t : Binding) (l : length t ≡ 8) where
  -- a seen binding lies below t exactly where it lies below the join of those below t
  below_as_join : (b : Binding) → Contains (seen_of trace) b → is_below b t ≡ is_below b (join_below trace t)
  below_as_join b h =
      same_test (is_below b t) (is_below b (join_below trace t))
      (below-join_below trace t b l h)
      (λ k. below-trans b (join_below trace t) t k (join_below-below trace t l))

  pub slice-join_below : slice_of trace t ≡ slice_of trace (join_below trace t)
  slice-join_below =
      ap (map (λ (a : ParametricEvent). a.letter))
      (filter-agree_within (λ a. is_below a.binding t) (λ a. is_below a.binding (join_below trace t)) trace
      (λ a h. below_as_join a.binding (Contains-map (λ (x : ParametricEvent). x.binding) trace a h)))

  pub join_below-instance : IsInstance trace (join_below trace t)
  join_below-instance =
      join-instance trace (join_below trace t)
      (below-length (join_below trace t) t (join_below-below trace t l) ∙ l)
      (ap join_of (filter-agree_within (λ b. is_below b t) (λ b. is_below b (join_below trace t)) (seen_of trace) below_as_join))

pub slice_of_any_binding-lem : SliceOfAnyBinding
slice_of_any_binding-lem trace t l = (join_below-instance trace t l, slice-join_below trace t l)

-- ---- the instances after one event more
-- an instance stays one
pub instance-append : (trace more : List ParametricEvent) (t : Binding) → IsInstance trace t → IsInstance (trace ++ more) t
instance-append trace more t i = record {
  eight = i.eight;
  given = λ p o at.
      let g = i.given p o at in
      let there = Contains-append_left (seen_of trace) (seen_of more) g.0 g.1 in
      (g.0, subst (λ bs. Contains bs g.0) (sym (map-append (λ (x : ParametricEvent). x.binding) trace more)) there, g.2, g.3);
}

-- the binding of the event has been seen
event-seen : (trace : List ParametricEvent) (a : ParametricEvent) → Contains (seen_of (trace ++ a ∷ [])) a.binding
event-seen trace a =
    subst (λ bs. Contains bs a.binding) (sym (map-append (λ (x : ParametricEvent). x.binding) trace (a ∷ [])))
    (Contains-append_right (seen_of trace) (a.binding ∷ []) a.binding (Contains-head a.binding []))

-- what one event more adds to the seen bindings below t
seen_below-push : (trace : List ParametricEvent) (a : ParametricEvent) (t : Binding) → seen_below (trace ++ a ∷ []) t ≡ seen_below trace t ++ cond (is_below a.binding t) (a.binding ∷ []) []
seen_below-push trace a t =
    ap (filter (λ b. is_below b t)) (map-append (λ (x : ParametricEvent). x.binding) trace (a ∷ []))
    ∙ filter-append (λ b. is_below b t) (seen_of trace) (a.binding ∷ [])

module _ (trace : List ParametricEvent) (a : ParametricEvent) (t : Binding) where
  -- an instance that the event doesn't reach was one before
  pub instance-apart : is_below a.binding t ≡ false → IsInstance (trace ++ a ∷ []) t → IsInstance trace t
  instance-apart apart after =
      join-instance trace t after.eight
      (instance-join (trace ++ a ∷ []) t after ∙ ap join_of (seen_below-push trace a t)
      ∙ ap (λ v. join_of (seen_below trace t ++ cond v (a.binding ∷ []) [])) apart ∙ ap join_of (append-nil (seen_below trace t)))

  -- an instance above the event's binding is the join of that binding and of those seen before below the instance
  pub instance-above : is_below a.binding t ≡ true → IsInstance (trace ++ a ∷ []) t → t ≡ join (join_below trace t) a.binding
  instance-above above after =
      instance-join (trace ++ a ∷ []) t after ∙ ap join_of (seen_below-push trace a t)
      ∙ ap (λ v. join_of (seen_below trace t ++ cond v (a.binding ∷ []) [])) above
      ∙ join_of-push (seen_below trace t) a.binding (below-length a.binding t above ∙ after.eight)

-- the join of an instance and the event's binding is an instance
pub join_event-instance : (trace : List ParametricEvent) (a : ParametricEvent) (s : Binding) → IsInstance trace s → is_compatible s a.binding ≡ true → IsInstance (trace ++ a ∷ []) (join s a.binding)
join_event-instance trace a s i c =
    let low : is_below s (join s a.binding) ≡ true = below-join_left s a.binding c in
    let before = (instance-append trace (a ∷ []) s i).given in
    record {
      eight = sym (below-length s (join s a.binding) low) ∙ i.eight;
      given = λ p o at. elim (join-gives s a.binding p o at) [
        | inl mine ↦ let g = before p o mine in (g.0, g.1, below-trans g.0 s (join s a.binding) g.2 low, g.3)
        | inr its ↦ (a.binding, event-seen trace a, below-join_right s a.binding c, its)
      ];
    }

pub instances_grow_by_joins-lem : InstancesGrowByJoins
instances_grow_by_joins-lem trace a t l = (grown, back)
  where
    grown : IsInstance (trace ++ a ∷ []) t → IsGrownInstance trace a t
    grown i = elim (cases_Bool (is_below a.binding t)) [
      | inl above ↦
          let s = join_below trace t in
          let low : is_below s t ≡ true = join_below-below trace t i.eight in
          inr (s, join_below-instance trace t i.eight, below-compatible s a.binding t low above, instance-above trace a t above i)
      | inr apart ↦ inl (instance-apart trace a t apart i)
    ]

    back : IsGrownInstance trace a t → IsInstance (trace ++ a ∷ []) t
    back (inl i) = instance-append trace (a ∷ []) t i
    back (inr j) = subst (IsInstance (trace ++ a ∷ [])) (sym j.3) (join_event-instance trace a j.0 j.1 j.2)

pub slice_of_new_instance-lem : SliceOfNewInstance
slice_of_new_instance-lem trace a t before after =
    elim (cases_Bool (is_below a.binding t)) [
      | inl above ↦ (
        join_below-instance trace t after.eight,
        slice-join_below trace t after.eight,
        instance-above trace a t above after,
        above,
      )
      | inr apart ↦ absurd (before (instance-apart trace a t apart after))
    ]
