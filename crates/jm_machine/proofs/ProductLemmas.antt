-- What rules mean is put together of what their properties mean.
use Rattle.std.proofs.Common.{◌≡◌, inl, inr, ℕ, zero, suc, ◌+◌, ◌-◌, ◌<◌, ◌≤◌, Bool, true, false, cond, List, [], ◌∷◌, ◌++◌, Option, Some, None, length, slice_get, bit_or, refl, sym, ◌∙◌, ap, subst, arith}
use Rattle.std.specs.Prelude.{◌↔◌, IsSomeAnd, MatchBool, option_map, nat_lt}
use Rattle.std.specs.Option.{option_map_or}
use Rattle.std.proofs.lemmas.Bool.{lt-ltb, le-ltb, cases_lt}
use Rattle.std.proofs.lemmas.Option.{same_Some, none-some}
use Rattle.jm_model.specs.Meanings.{Meaning, IsHit, IsAvailable, CanHit, IsPropertyCut, IsCutWord}
use Rattle.jm_semantics.specs.Families.{params_of, IsNeeded}
use Rattle.jm_machine.specs.PropertyMeanings.{Runs, is_failing_grammar, property_meaning}
use Rattle.jm_machine.specs.Meanings.{PropertyDefinition, RuleDefinition, rules_about, handler_count, first_of, place_of, rules_meaning}

pub some_is : {X : Type 0} (P : X → Type 0) (o : Option X) (x : X) → o ≡ Some x → IsSomeAnd o P ↔ P x
some_is P o x at = (λ h. subst (λ o. IsSomeAnd o P) at h, λ h. subst (λ o. IsSomeAnd o P) (sym at) h)

pub some_of : {X : Type 0} (P : X → Type 0) (o : Option X) → IsSomeAnd o P → (x : X) × (o ≡ Some x) × P x
some_of P None h = absurd h
some_of P (Some x) h = (x, refl, h)

-- ---- the numbers of handlers

abbrev later : ℕ × ℕ → ℕ × ℕ
later place = (place.0 + 1, place.1)

same_pair : (x y : ℕ × ℕ) → Some x ≡ Some y → (x.0 ≡ y.0) × (x.1 ≡ y.1)
same_pair x y e =
    let same = same_Some x y e in
    (ap (λ (z : ℕ × ℕ). z.0) same, ap (λ (z : ℕ × ℕ). z.1) same)

-- handler i of property j
pub place_at : (ps : List PropertyDefinition) (j i : ℕ) (p : PropertyDefinition) → slice_get ps j ≡ Some p → i < length p.handlers → place_of ps (first_of ps j + i) ≡ Some (j, i)
place_at [] j i p at less = absurd (none-some p at)
place_at (q ∷ ps) zero i p at less =
    let here : i < length q.handlers = subst (λ (x : PropertyDefinition). i < length x.handlers) (sym (same_Some q p at)) less in
    let test : nat_lt (0 + i) (length q.handlers) ≡ true = lt-ltb (0 + i) (length q.handlers) (omega (arith, here)) in
    rw test (ap (λ (n : ℕ). Some (0, n)) (omega arith))
place_at (q ∷ ps) (suc j) i p at less =
    let n = length q.handlers in
    let first = first_of ps j in
    let past : nat_lt (n + first + i) n ≡ false = le-ltb (n + first + i) n (omega arith) in
    let rest : n + first + i - n ≡ first + i = omega arith in
    rw past (ap (λ (k : ℕ). option_map later (place_of ps k)) rest ∙ ap (λ (o : Option (ℕ × ℕ)). option_map later o) (place_at ps j i p at less) ∙ ap (λ (m : ℕ). Some (m, i)) (omega arith))

-- the place of a handler is one of a property
pub place_there : (ps : List PropertyDefinition) (k j i : ℕ) → place_of ps k ≡ Some (j, i) → (p : PropertyDefinition) × (slice_get ps j ≡ Some p) × (i < length p.handlers) × (k ≡ first_of ps j + i)
place_there [] k j i at = absurd (none-some (j, i) at)
place_there (q ∷ ps) k j i at =
    elim (cases_lt k (length q.handlers)) [
      | inl lt ↦ here lt (same_pair (0, k) (j, i) (subst (λ (b : Bool). cond b (Some (0, k)) (option_map later (place_of ps (k - length q.handlers))) ≡ Some (j, i)) (lt-ltb k (length q.handlers) lt) at))
      | inr le ↦ behind le (place_there ps (k - length q.handlers)) (place_of ps (k - length q.handlers)) refl (subst (λ (b : Bool). cond b (Some (0, k)) (option_map later (place_of ps (k - length q.handlers))) ≡ Some (j, i)) (le-ltb k (length q.handlers) le) at)
    ]
  where
    here : k < length q.handlers → (0 ≡ j) × (k ≡ i) → (p : PropertyDefinition) × (slice_get (q ∷ ps) j ≡ Some p) × (i < length p.handlers) × (k ≡ first_of (q ∷ ps) j + i)
    here lt same =
        subst (λ (m : ℕ). (p : PropertyDefinition) × (slice_get (q ∷ ps) m ≡ Some p) × (i < length p.handlers) × (k ≡ first_of (q ∷ ps) m + i)) same.0
        (q, refl, subst (λ (m : ℕ). m < length q.handlers) same.1 lt, omega (arith, same.1))

    behind : length q.handlers ≤ k → ((a b : ℕ) → place_of ps (k - length q.handlers) ≡ Some (a, b) → (p : PropertyDefinition) × (slice_get ps a ≡ Some p) × (b < length p.handlers) × (k - length q.handlers ≡ first_of ps a + b)) → (o : Option (ℕ × ℕ)) → place_of ps (k - length q.handlers) ≡ o → option_map later o ≡ Some (j, i) → (p : PropertyDefinition) × (slice_get (q ∷ ps) j ≡ Some p) × (i < length p.handlers) × (k ≡ first_of (q ∷ ps) j + i)
    behind le more None is e = absurd (none-some (j, i) e)
    behind le more (Some place) is e =
        let there = more place.0 place.1 is in
        let moved = same_pair (place.0 + 1, place.1) (j, i) e in
        let next : suc place.0 ≡ j = omega (arith, moved.0) in
        subst (λ (m : ℕ). (p : PropertyDefinition) × (slice_get (q ∷ ps) m ≡ Some p) × (i < length p.handlers) × (k ≡ first_of (q ∷ ps) m + i)) next
        (there.0, there.1, subst (λ (m : ℕ). m < length there.0.handlers) moved.1 there.2, omega (arith, le, there.3, moved.1))

-- each handler has a place
pub place_some : (ps : List PropertyDefinition) (k : ℕ) → k < handler_count ps → (j : ℕ) × (i : ℕ) × (place_of ps k ≡ Some (j, i))
place_some [] k less = absurd (omega (arith, less))
place_some (q ∷ ps) k less =
    elim (cases_lt k (length q.handlers)) [
      | inl lt ↦ (0, k, rw (lt-ltb k (length q.handlers) lt) refl)
      | inr le ↦
          let there = place_some ps (k - length q.handlers) (omega (arith, le, less)) in
          (there.0 + 1, there.1, rw (le-ltb k (length q.handlers) le) (ap (λ (o : Option (ℕ × ℕ)). option_map later o) there.2))
    ]

-- and those are all
pub first_below : (ps : List PropertyDefinition) (j i : ℕ) (p : PropertyDefinition) → slice_get ps j ≡ Some p → i < length p.handlers → first_of ps j + i < handler_count ps
first_below [] j i p at less = absurd (none-some p at)
first_below (q ∷ ps) zero i p at less =
    let here : i < length q.handlers = subst (λ (x : PropertyDefinition). i < length x.handlers) (sym (same_Some q p at)) less in
    omega (arith, here)
first_below (q ∷ ps) (suc j) i p at less = omega (arith, first_below ps j i p at less)

-- the handlers of a property are some of all, and those of the next begin after them
pub first_within : (ps : List PropertyDefinition) (j : ℕ) (p : PropertyDefinition) → slice_get ps j ≡ Some p → first_of ps j + length p.handlers ≤ handler_count ps
first_within [] j p at = absurd (none-some p at)
first_within (q ∷ ps) zero p at =
    let here : length q.handlers ≡ length p.handlers = ap (λ (x : PropertyDefinition). length x.handlers) (same_Some q p at) in
    omega (arith, here)
first_within (q ∷ ps) (suc j) p at = omega (arith, first_within ps j p at)

pub first_next : (ps : List PropertyDefinition) (j : ℕ) (p : PropertyDefinition) → slice_get ps j ≡ Some p → first_of ps (suc j) ≡ first_of ps j + length p.handlers
first_next [] j p at = absurd (none-some p at)
first_next (q ∷ ps) zero p at =
    let here : length q.handlers ≡ length p.handlers = ap (λ (x : PropertyDefinition). length x.handlers) (same_Some q p at) in
    omega (arith, here)
first_next (q ∷ ps) (suc j) p at = omega (arith, first_next ps j p at)

-- ---- what is hit

module _ (r : RuleDefinition) where
  abbrev whole : Meaning
  whole = rules_meaning r

  abbrev part : PropertyDefinition → Meaning
  part p = property_meaning (rules_about r p)

  abbrev runs : PropertyDefinition → List ℕ → ℕ → Type 0
  runs p = Runs (rules_about r p)

  module _ (j : ℕ) (p : PropertyDefinition) (at : slice_get r.properties j ≡ Some p) where
    -- handler i of property j is hit where it is by what the property means
    pub hit_of : (w : List ℕ) (i : ℕ) → i < length p.handlers → IsHit whole w (first_of r.properties j + i) ↔ IsHit (part p) w i
    hit_of w i less =
        let place = place_at r.properties j i p at less in
        let outer = some_is (λ (x : ℕ × ℕ). IsSomeAnd (slice_get r.properties x.0) (λ q. runs q w x.1)) (place_of r.properties (first_of r.properties j + i)) (j, i) place in
        let inner = some_is (λ q. runs q w i) (slice_get r.properties j) p at in (
          λ h. (h.0, h.1, less, inner.0 (outer.0 h.3)),
          λ h. (h.0, h.1, first_below r.properties j i p at less, outer.1 (inner.1 h.3)),
        )

    owner_of : (i : ℕ) → i < length p.handlers → whole.property_of (first_of r.properties j + i) ≡ j
    owner_of i less = rw (place_at r.properties j i p at less) refl

    -- a handler of property j is one of its own
    own : (k : ℕ) → k < whole.handlers → whole.property_of k ≡ j → (i : ℕ) × (i < length p.handlers) × (k ≡ first_of r.properties j + i)
    own k less owner =
        let place = place_some r.properties k less in
        let there = place_there r.properties k place.0 place.1 place.2 in
        let is : place.0 ≡ j = sym (ap (λ (o : Option (ℕ × ℕ)). option_map_or (λ (x : ℕ × ℕ). x.0) o 0) place.2) ∙ owner in
        let same : there.0 ≡ p = same_Some there.0 p (sym there.1 ∙ ap (λ (n : ℕ). slice_get r.properties n) is ∙ at) in
        (place.1, subst (λ (q : PropertyDefinition). place.1 < length q.handlers) same there.2, there.3 ∙ ap (λ (n : ℕ). first_of r.properties n + place.1) is)

    pub can_hit_of : (w : List ℕ) (dead : ℕ) → CanHit whole w dead j ↔ CanHit (part p) w dead 0
    can_hit_of w dead = (
      λ h.
          let mine = own h.handler h.hit.2 h.owner in
          record {
            next = h.next;
            rest = h.rest;
            handler = mine.0;
            available = h.available;
            hit = (hit_of (w ++ h.next ∷ h.rest) mine.0 mine.1).0 (subst (λ (k : ℕ). IsHit whole (w ++ h.next ∷ h.rest) k) mine.2 h.hit);
            owner = refl;
          },
      λ h. record {
        next = h.next;
        rest = h.rest;
        handler = first_of r.properties j + h.handler;
        available = h.available;
        hit = (hit_of (w ++ h.next ∷ h.rest) h.handler h.hit.2).1 h.hit;
        owner = owner_of h.handler h.hit.2;
      },
    )

    coarse_of : whole.coarse_cut j ≡ (part p).coarse_cut 0
    coarse_of = ap (λ (o : Option PropertyDefinition). option_map_or (λ (q : PropertyDefinition). is_failing_grammar (rules_about r q)) o false) at

    pub property_cut_of : (w : List ℕ) (dead : ℕ) → IsPropertyCut whole w dead j ↔ IsPropertyCut (part p) w dead 0
    property_cut_of w dead = subst (λ (b : Bool). IsPropertyCut whole w dead j ↔ MatchBool b ((e : ℕ) → IsAvailable whole dead e → ⊥) (CanHit (part p) w dead 0 → ⊥)) coarse_of (by_case (whole.coarse_cut j))
      where
        by_case : (b : Bool) → MatchBool b ((e : ℕ) → IsAvailable whole dead e → ⊥) (CanHit whole w dead j → ⊥) ↔ MatchBool b ((e : ℕ) → IsAvailable whole dead e → ⊥) (CanHit (part p) w dead 0 → ⊥)
        by_case true = (λ h. h, λ h. h)
        by_case false = (λ never can. never ((can_hit_of w dead).1 can), λ never can. never ((can_hit_of w dead).0 can))

  -- a word is cut where each property says so of itself
  pub cut_of : (w : List ℕ) (dead : ℕ) → IsCutWord whole w dead ↔ ((j : ℕ) (p : PropertyDefinition) → slice_get r.properties j ≡ Some p → IsCutWord (part p) w dead)
  cut_of w dead = (
    λ cut j p at i less. (property_cut_of j p at w dead).0 (subst (IsPropertyCut whole w dead) (owner_of j p at i less) (cut (first_of r.properties j + i) (first_below r.properties j i p at less))),
    λ each k less.
        let place = place_some r.properties k less in
        let there = place_there r.properties k place.0 place.1 place.2 in
        subst (IsPropertyCut whole w dead) (sym (ap (λ (o : Option (ℕ × ℕ)). option_map_or (λ (x : ℕ × ℕ). x.0) o 0) place.2))
        ((property_cut_of place.0 there.0 there.1 w dead).1 (each place.0 there.0 there.1 place.1 there.2)),
  )

  -- a handler that is hit is one of a property, which says so of itself
  pub hit_by : (w : List ℕ) (k : ℕ) → IsHit whole w k → (j : ℕ) × (p : PropertyDefinition) × (i : ℕ) × (slice_get r.properties j ≡ Some p) × (k ≡ first_of r.properties j + i) × IsHit (part p) w i
  hit_by w k h =
      let place = place_some r.properties k h.2 in
      let there = place_there r.properties k place.0 place.1 place.2 in
      (place.0, there.0, place.1, there.1, there.3, (hit_of place.0 there.0 there.1 w place.1 there.2).0 (subst (IsHit whole w) there.3 h))

  same_params : (p : PropertyDefinition) (u : List ℕ) → params_of whole u ≡ params_of (part p) u
  same_params p [] = refl
  same_params p (e ∷ u) = ap (λ (n : ℕ). bit_or (whole.params e) n) (same_params p u)

  -- what is needed is what one of the properties needs
  pub needed_of : (w : List ℕ) (mask : ℕ) → IsNeeded whole w mask ↔ ((j : ℕ) × (p : PropertyDefinition) × (slice_get r.properties j ≡ Some p) × IsNeeded (part p) w mask)
  needed_of w mask = (
    λ need.
        let by = hit_by (w ++ need.next ∷ need.rest) need.handler need.hit in (
          by.0,
          by.1,
          by.3,
          record {
            next = need.next;
            rest = need.rest;
            handler = by.2;
            letters = need.letters;
            hit = by.5;
            params = need.params ∙ same_params by.1 (need.next ∷ need.rest);
          },
        ),
    λ h. let need = h.3 in record {
      next = need.next;
      rest = need.rest;
      handler = first_of r.properties h.0 + need.handler;
      letters = need.letters;
      hit = (hit_of h.0 h.1 h.2 (w ++ need.next ∷ need.rest) need.handler need.hit.2).1 need.hit;
      params = need.params ∙ sym (same_params h.1 (need.next ∷ need.rest));
    },
  )
