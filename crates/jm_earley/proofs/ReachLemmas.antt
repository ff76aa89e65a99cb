-- The places that are kept after a new one.
use Rattle.std.proofs.Common.{ℕ, ◌≡◌, ◌<◌, ◌≤◌, ◌+◌, ◌-◌, ◌⊎◌, List, [], ◌∷◌, ◌++◌, Some, Contains, length, take, slice_get, refl, sym, ap, subst, ◌∙◌, inl, inr, arith, length-append}
use Rattle.std.proofs.lemmas.List.{length-take-le}
use Rattle.std.proofs.lemmas.List.Elements.{Contains-push_cases, Contains-push, Contains-append_left}
use Rattle.std.proofs.lemmas.Option.{same_Some, slice_get_within}
use Rattle.jm_earley.specs.declared.item.Item.{Item}
use Rattle.jm_earley.specs.declared.earley_set.EarleySet.{EarleySet}
use Rattle.jm_earley.specs.Kept.{IsSorted, place_at, HasPlaceAt, IsPlaceNumber, AreLinked, IsReach, IsFollowedBy}
use Rattle.jm_earley.proofs.PlaceLemmas.{place-Contains, slice_get-append, slice_get-push, slice_get-push_cases, take_next, get-take, take-get}
use Rattle.jm_earley.proofs.KeptLemmas.{number_at, sorted_at, sorted_push, number_le}

module _ (places : List EarleySet) where
  -- the number after the place at a position, if that is more than the number so far
  pub record IsReachTo (position : ℕ) (old new : ℕ) : Type 0 where
    pub within : new ≤ length places
    pub kept : old ≤ new
    pub all : (number : ℕ) → IsPlaceNumber places position number → number < new
    pub last : (new ≡ old) ⊎ ((number : ℕ) × (number + 1 ≡ new) × IsPlaceNumber places position number)

  -- ---- item by item

  pub reach_none : (items : List Item) → items ≡ [] → IsReach places items 0
  reach_none items none = record {
    within = omega arith;
    all = λ number (x, among, there). absurd (let nowhere : Contains [] x = subst (λ (l : List Item). Contains l x) none among in omega (arith, nowhere.1));
    last = λ number is. absurd (omega (arith, is));
  }

  pub reach_next : (items : List Item) (i : ℕ) (x : Item) (old new : ℕ) → slice_get items i ≡ Some x → IsReach places (take i items) old → IsReachTo x.origin old new → IsReach places (take (i + 1) items) new
  reach_next items i x old new at before step =
      let longer = take_next items i x at in
      record {
        within = step.within;
        all = λ number (y, among, there). elim (Contains-push_cases (take i items) x y (subst (λ (l : List Item). Contains l y) longer among)) [
          | inl first ↦ omega (arith, step.kept, before.all number (y, first, there))
          | inr is ↦ step.all number (subst (λ (z : Item). IsPlaceNumber places z.origin number) (sym is) there)
        ];
        last = λ number is. elim step.last [
          | inl same ↦
              let (y, among, there) = before.last number (is ∙ same) in
              (y, subst (λ (l : List Item). Contains l y) (sym longer) (Contains-append_left (take i items) (x ∷ []) y among), there)
          | inr (here, is_here, there) ↦
              let same : here ≡ number = omega (arith, is, is_here) in
              (x, subst (λ (l : List Item). Contains l x) (sym longer) (Contains-push (take i items) x), subst (λ (k : ℕ). IsPlaceNumber places x.origin k) same there)
        ];
      }

  -- ---- a position

  pub reach_same : (position count : ℕ) → count ≤ length places → ((number : ℕ) → IsPlaceNumber places position number → number < count) → IsReachTo position count count
  reach_same position count within all = record { within = within; kept = omega arith; all = all; last = inl refl }

  pub reach_more : IsSorted places → (position count number : ℕ) → count ≤ number → IsPlaceNumber places position number → IsReachTo position count (number + 1)
  reach_more sorted position count number more (p, at, is) = record {
    within = omega (arith, slice_get_within places number p at);
    kept = omega (arith, more);
    all = λ other (q, there, here). omega (arith, number_le places sorted other number q p there at (omega (arith, is, here)));
    last = inr (number, refl, (p, at, is));
  }

  sorted_first : IsSorted places → (count : ℕ) → IsSorted (take count places)
  sorted_first sorted count i j p q lt at_i at_j = sorted i j p q lt (get-take places count i p at_i).1 (get-take places count j q at_j).1

  -- ---- with the new place

  module _ (sorted : IsSorted places) (place : EarleySet) (count : ℕ) (list new : List EarleySet) (behind : (number : ℕ) (p : EarleySet) → slice_get places number ≡ Some p → p.position < place.position)
      (reach : IsReach places place.items count) (list_is : list ≡ take count places) (is : new ≡ list ++ place ∷ []) where
    old_one : (number : ℕ) (p : EarleySet) → slice_get list number ≡ Some p → (number < count) × (slice_get places number ≡ Some p)
    old_one number p at = get-take places count number p (ap (λ (l : List EarleySet). slice_get l number) (sym list_is) ∙ at)

    cases : (number : ℕ) (p : EarleySet) → slice_get new number ≡ Some p → (slice_get list number ≡ Some p) ⊎ ((number ≡ length list) × (place ≡ p))
    cases number p at = slice_get-push_cases list place number p (ap (λ (l : List EarleySet). slice_get l number) (sym is) ∙ at)

    count_is : length list ≡ count
    count_is = ap length list_is ∙ length-take-le count places reach.within

    pub new_sorted : IsSorted new
    new_sorted = subst (λ (l : List EarleySet). IsSorted l) (sym is) (sorted_push list place
        (subst (λ (l : List EarleySet). IsSorted l) (sym list_is) (sorted_first sorted count))
        (λ q there. let (number, at) = place-Contains list q there in behind number q (old_one number q at).1))

    kept_where : (number : ℕ) (position : ℕ) → number < count → IsPlaceNumber places position number → HasPlaceAt new position
    kept_where number position lt (p, at, here) =
        let in_list : slice_get list number ≡ Some p = ap (λ (l : List EarleySet). slice_get l number) list_is ∙ take-get places count number p lt at in
        let in_new : slice_get new number ≡ Some p = ap (λ (l : List EarleySet). slice_get l number) is ∙ slice_get-append list (place ∷ []) number p in_list in
        subst (λ (k : ℕ). HasPlaceAt new k) here (p, sorted_at new new_sorted number p in_new)

    -- each place but the last is one where an item of the next began
    new_linked : AreLinked places → AreLinked new
    new_linked linked number p q at_p at_q = elim (cases (number + 1) q at_q) [
      | inl in_list ↦ elim (cases number p at_p) [
        | inl first ↦ linked number p q (old_one number p first).1 (old_one (number + 1) q in_list).1
        | inr (end, same) ↦ absurd (omega (arith, end, slice_get_within list (number + 1) q in_list))
      ]
      | inr (end, same) ↦ elim (cases number p at_p) [
        | inl first ↦
            let (x, among, (p', at, here)) = reach.last number (end ∙ count_is) in
            let is_it : p' ≡ p = same_Some p' p (sym at ∙ (old_one number p first).1) in
            (x, subst (λ (r : EarleySet). Contains r.items x) same among, sym here ∙ ap (λ (r : EarleySet). r.position) is_it)
        | inr (early, other) ↦ absurd (omega (arith, end, early))
      ]
    ]

    pub followed : IsFollowedBy places place new
    followed =
        let last : slice_get new (length list) ≡ Some place = ap (λ (l : List EarleySet). slice_get l (length list)) is ∙ slice_get-push list place in
        let end : length new - 1 ≡ length list = omega (arith, ap length is, length-append list (place ∷ [])) in
        record {
          ends = ap (λ (k : ℕ). slice_get new k) end ∙ last;
          here = sorted_at new new_sorted (length list) place last;
          only = λ position p at.
              let number = number_at new position p at in
              elim (cases number.0 p number.1) [
                | inl old ↦ inl (subst (λ (k : ℕ). place_at places k ≡ Some p) number.2 (sorted_at places sorted number.0 p (old_one number.0 p old).1))
                | inr same ↦ inr (sym number.2 ∙ ap (λ (q : EarleySet). q.position) (sym same.1), sym same.1)
              ];
          linked = new_linked;
          first = λ x there (p, at).
              let number = number_at places x.origin p at in
              let here : IsPlaceNumber places x.origin number.0 = (p, number.1, number.2) in
              kept_where number.0 x.origin (reach.all number.0 (x, there, here)) here;
          closed = λ back position p at_new at_old x there (q, at).
              let number = number_at places x.origin q at in
              let inside = number_at new position p at_new in
              elim (cases inside.0 p inside.1) [
                | inl old ↦
                    let known = old_one inside.0 p old in
                    let le = number_le places sorted number.0 inside.0 q p number.1 known.1 (omega (arith, number.2, inside.2, back position p at_old x there)) in
                    kept_where number.0 x.origin (omega (arith, le, known.0)) (q, number.1, number.2)
                | inr same ↦
                    let old_number = number_at places position p at_old in
                    absurd (omega (arith, behind old_number.0 p old_number.1, ap (λ (r : EarleySet). r.position) same.1))
              ];
        }
