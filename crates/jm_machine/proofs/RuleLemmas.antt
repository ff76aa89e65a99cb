-- What compiled rules mean is put together of what their parts mean.
use Rattle.std.proofs.Common.{◌≡◌, ◌⊎◌, inl, inr, ℕ, zero, suc, ◌+◌, ◌*◌, ◌%◌, ◌^◌, ◌<◌, ◌≤◌, ◌==◌, Bool, true, List, [], ◌∷◌, ◌++◌, Option, Some, None, map, length, slice_get, min, bit_and, bit_or, Result, Ok, Err, IfOk, refl, sym, ◌∙◌, ap, subst, arith}
use Rattle.std.specs.Int.{bit_at}
use Rattle.std.specs.Prelude.{◌↔◌, IsBitSet, IsTrue, Contains, option_map, unwrap_or}
use Rattle.std.proofs.lemmas.Bool.{cases_lt, eqb-true}
use Rattle.std.proofs.lemmas.Bool.Decides.{eqb_tells}
use Rattle.std.proofs.lemmas.List.{length-map, length-append}
use Rattle.std.proofs.lemmas.Nat.Bits.{bit_at_and, bit_at-lt}
use Rattle.std.proofs.lemmas.Option.{same_Some, none-some, slice_get_within, slice_get-map}
use Rattle.jm_model.specs.Meanings.{Meaning, IsCreated, IsHit, IsCutWord}
use Rattle.jm_model.specs.Numbers.{IsPlainMove, IsAtRest, AreEnds}
use Rattle.jm_semantics.specs.Families.{IsNeeded}
use Rattle.jm_machine.specs.declared.place.Place.{Place}
use Rattle.jm_machine.specs.declared.place.Place.TheVariants as place
use Rattle.jm_machine.specs.PropertyMeanings.{PropertyRules, property_meaning}
use Rattle.jm_machine.specs.Meanings.{PropertyDefinition, RuleDefinition, rules_about, handler_count, first_of, rules_meaning}
use Rattle.jm_machine.specs.CompiledProperties.{CompiledProperty}
use Rattle.jm_machine.specs.Places.{IsPlaceAfter}
use Rattle.jm_machine.specs.RuleSets.{CompiledRules, IsRuleSet, IsAlike, AreRules, property_of, rules_with}
use Rattle.jm_machine.specs.HandlerNames.{numbered, numbered_from, names_for, names_of}
use Rattle.jm_machine.specs.Configurations.{place_at, AreAfter, IsConfigurationOf}
use Rattle.jm_machine.specs.declared.configuration.Configuration.{Configuration}
use Rattle.jm_machine.specs.declared.configuration.Configuration.TheVariants as configuration
use Rattle.jm_model.specs.declared.step.NoMemory.{NoMemory}
use Rattle.jm_machine.proofs.ProductLemmas.{hit_of, hit_by, cut_of, needed_of, first_within, first_next}
use Rattle.jm_machine.proofs.GoalLemmas.{no_bit, set_here, kept_other}
use Rattle.jm_machine.proofs.HitLemmas.{HasHitsOf, more_hits, all_hits, set_is_one}

-- ---- the parts

module _ (first : CompiledProperty) (others : List CompiledProperty) (alike : (k : ℕ) (other : CompiledProperty) → slice_get others k ≡ Some other → IsAlike first other) where
  about_first : (part : CompiledProperty) → first ≡ part → rules_about (rules_with first others) (property_of part) ≡ part.definition
  about_first part same = subst (λ (c : CompiledProperty). rules_about (rules_with first others) (property_of c) ≡ c.definition) same refl

  about_other : (part : CompiledProperty) → IsAlike first part → rules_about (rules_with first others) (property_of part) ≡ part.definition
  about_other part a = λ i. record {
    masks = sym a.masks i;
    creation = sym a.creation i;
    must_bind = sym a.must_bind i;
    formula = part.definition.formula;
    handlers = part.definition.handlers;
    resets = part.definition.resets;
  }

  about : (k : ℕ) (part : CompiledProperty) → slice_get (first ∷ others) k ≡ Some part → rules_about (rules_with first others) (property_of part) ≡ part.definition
  about zero part at = about_first part (same_Some first part at)
  about (suc k) part at = about_other part (alike k part at)

  -- the rules of these parts are those of their parts
  pub rule_set : length others < 16 → handler_count (map property_of (first ∷ others)) ≤ 16 → IsRuleSet (record { definition = rules_with first others; parts = first ∷ others })
  rule_set few handlers = record {
    some = omega arith;
    few = omega (arith, few);
    properties = refl;
    about = about;
    handlers = handlers;
  }

-- ---- what holds of rules

pub created_same : (m n : Meaning) → m.creation ≡ n.creation → (w : List ℕ) → IsCreated m w → IsCreated n w
created_same m n same [] h = tt
created_same m n same (e ∷ w) h = subst (λ (letters : List ℕ). (letters ≡ []) ⊎ Contains letters e) same h

-- ---- what holds of the first so many parts, at the places of the list or else at this one

module _ (r : CompiledRules) (places : List Place) (otherwise : Place) where
  -- the place of a part with letters more
  abbrev pub Follows : List ℕ → ℕ → Place → Type 0
  Follows more k next = (part : CompiledProperty) → slice_get r.parts k ≡ Some part → (w : List ℕ) → IsPlaceAfter part (place_at places otherwise k) w → IsPlaceAfter part next (w ++ more)

  -- a letter whose bit is set leaves each at its place, and hits nothing
  abbrev pub Rests : ℕ → ℕ → Type 0
  Rests n idle = (w : List ℕ) → AreAfter r.parts places otherwise w → (e : ℕ) → IsBitSet idle e → (k : ℕ) (part : CompiledProperty) → k < n → slice_get r.parts k ≡ Some part
      → IsPlaceAfter part (place_at places otherwise k) (w ++ e ∷ []) × ((i : ℕ) → IsHit (property_meaning part.definition) (w ++ e ∷ []) i → ⊥)

  -- a letter whose bit is set hits nothing of each, and cuts it
  abbrev pub Ends : ℕ → ℕ → Type 0
  Ends n ending = (w : List ℕ) → AreAfter r.parts places otherwise w → (e : ℕ) → IsBitSet ending e → (k : ℕ) (part : CompiledProperty) → k < n → slice_get r.parts k ≡ Some part
      → ((i : ℕ) → IsHit (property_meaning part.definition) (w ++ e ∷ []) i → ⊥) × IsCutWord (property_meaning part.definition) (w ++ e ∷ []) 0

  pub follow_here : (more : List ℕ) (n : ℕ) (next here : Place) (own : CompiledProperty) → slice_get r.parts n ≡ Some own → here ≡ place_at places otherwise n
      → ((w : List ℕ) → IsPlaceAfter own here w → IsPlaceAfter own next (w ++ more)) → Follows more n next
  follow_here more n next here own at is step part there w h =
      let same : own ≡ part = same_Some own part (sym at ∙ there) in
      subst (λ (c : CompiledProperty). IsPlaceAfter c next (w ++ more)) same
      (step w (subst (λ (x : Place). IsPlaceAfter own x w) (sym is) (subst (λ (c : CompiledProperty). IsPlaceAfter c (place_at places otherwise n) w) (sym same) h)))

-- the place of words that began otherwise is that of words with a letter more
pub trap_later : (part : CompiledProperty) (w : List ℕ) (e : ℕ) → IsPlaceAfter part place.Trap w → IsPlaceAfter part place.Trap (w ++ e ∷ [])
trap_later part [] e h = absurd (h.0 refl)
trap_later part (d ∷ w) e h = (λ (none : d ∷ (w ++ e ∷ []) ≡ []). absurd cc, h.1)

-- of the bits of two masks that are set in both
pub and_set : (a b k : ℕ) → IsBitSet (bit_and a b) k → IsBitSet a k × IsBitSet b k
and_set a b k set =
    let one : min (bit_at a k) (bit_at b k) ≡ 1 = sym (bit_at_and a b k) ∙ (set_is_one (bit_and a b) k).0 set in
    let left = bit_at-lt a k in
    let right = bit_at-lt b k in
    ((set_is_one a k).1 (omega (arith, one, left, right)), (set_is_one b k).1 (omega (arith, one, left, right)))

module _ (r : CompiledRules) (set : IsRuleSet r) where
  abbrev whole : Meaning
  whole = rules_meaning r.definition

  abbrev means : CompiledProperty → Meaning
  means part = property_meaning part.definition

  abbrev ps : List PropertyDefinition
  ps = r.definition.properties

  pub property_at : (k : ℕ) (part : CompiledProperty) → slice_get r.parts k ≡ Some part → slice_get ps k ≡ Some (property_of part)
  property_at k part at =
      ap (λ (xs : List PropertyDefinition). slice_get xs k) set.properties ∙ slice_get-map property_of r.parts k ∙ ap (λ (o : Option CompiledProperty). option_map property_of o) at

  pub part_at : (k : ℕ) (p : PropertyDefinition) → slice_get ps k ≡ Some p → (part : CompiledProperty) × (slice_get r.parts k ≡ Some part) × (property_of part ≡ p)
  part_at k p at =
      by_case (slice_get r.parts k) refl (sym (slice_get-map property_of r.parts k) ∙ sym (ap (λ (xs : List PropertyDefinition). slice_get xs k) set.properties) ∙ at)
    where
      by_case : (o : Option CompiledProperty) → slice_get r.parts k ≡ o → option_map property_of o ≡ Some p → (part : CompiledProperty) × (slice_get r.parts k ≡ Some part) × (property_of part ≡ p)
      by_case None is e = absurd (none-some p e)
      by_case (Some part) is e = (part, is, same_Some (property_of part) p e)

  -- a handler of a part is hit where it is by what the part means
  pub hit_in : (j : ℕ) (part : CompiledProperty) → slice_get r.parts j ≡ Some part → (w : List ℕ) (i : ℕ) → i < length part.definition.handlers → IsHit whole w (first_of ps j + i) ↔ IsHit (means part) w i
  hit_in j part at w i less =
      subst (λ (d : PropertyRules). IsHit whole w (first_of ps j + i) ↔ IsHit (property_meaning d) w i) (set.about j part at)
      (hit_of r.definition j (property_of part) (property_at j part at) w i less)

  pub hit_by_part : (w : List ℕ) (k : ℕ) → IsHit whole w k → (j : ℕ) × (part : CompiledProperty) × (i : ℕ) × (slice_get r.parts j ≡ Some part) × (k ≡ first_of ps j + i) × IsHit (means part) w i
  hit_by_part w k hit =
      let by = hit_by r.definition w k hit in
      let part = part_at by.0 by.1 by.3 in (
        by.0,
        part.0,
        by.2,
        part.1,
        by.4,
        subst (λ (d : PropertyRules). IsHit (property_meaning d) w by.2) (set.about by.0 part.0 part.1)
            (subst (λ (p : PropertyDefinition). IsHit (property_meaning (rules_about r.definition p)) w by.2) (sym part.2) by.5),
      )

  -- a word is cut where each part says so
  pub cut_in : (w : List ℕ) (dead : ℕ) → IsCutWord whole w dead ↔ ((j : ℕ) (part : CompiledProperty) → slice_get r.parts j ≡ Some part → IsCutWord (means part) w dead)
  cut_in w dead =
      let of = cut_of r.definition w dead in (
        λ cut j part at. subst (λ (d : PropertyRules). IsCutWord (property_meaning d) w dead) (set.about j part at) (of.0 cut j (property_of part) (property_at j part at)),
        λ each. of.1 (λ j p at.
            let part = part_at j p at in
            subst (λ (q : PropertyDefinition). IsCutWord (property_meaning (rules_about r.definition q)) w dead) part.2
            (subst (λ (d : PropertyRules). IsCutWord (property_meaning d) w dead) (sym (set.about j part.0 part.1)) (each j part.0 part.1))),
      )

  -- what is needed is what some part needs
  pub needed_in : (w : List ℕ) (mask : ℕ) → IsNeeded whole w mask ↔ ((j : ℕ) × (part : CompiledProperty) × (slice_get r.parts j ≡ Some part) × IsNeeded (means part) w mask)
  needed_in w mask =
      let of = needed_of r.definition w mask in (
        λ need.
            let h = of.0 need in
            let part = part_at h.0 h.1 h.2 in (
              h.0,
              part.0,
              part.1,
              subst (λ (d : PropertyRules). IsNeeded (property_meaning d) w mask) (set.about h.0 part.0 part.1)
                  (subst (λ (p : PropertyDefinition). IsNeeded (property_meaning (rules_about r.definition p)) w mask) (sym part.2) h.3),
            ),
        λ h. of.1 (
          h.0,
          property_of h.1,
          property_at h.0 h.1 h.2,
          subst (λ (d : PropertyRules). IsNeeded (property_meaning d) w mask) (sym (set.about h.0 h.1 h.2)) h.3,
        ),
      )

  -- parts of the same creation letters
  same_creation : (j k : ℕ) (part other : CompiledProperty) → slice_get r.parts j ≡ Some part → slice_get r.parts k ≡ Some other → part.definition.creation ≡ other.definition.creation
  same_creation j k part other at there =
      ap (λ (d : PropertyRules). d.creation) (sym (set.about j part at) ∙ λ i. rules_about r.definition (property_of part)) ∙ ap (λ (d : PropertyRules). d.creation) (set.about k other there)

  -- where one began otherwise, all did
  pub all_trap : (j : ℕ) (part : CompiledProperty) → slice_get r.parts j ≡ Some part → (w : List ℕ) → IsPlaceAfter part place.Trap w → AreAfter r.parts [] place.Trap w
  all_trap j part at w h k other there =
      (h.0, λ created. h.1 (created_same (means other) (means part) (same_creation k j other part there at) w created))

  -- ---- the only part

  module _ (one : length r.parts ≡ 1) (first : CompiledProperty) (there : slice_get r.parts 0 ≡ Some first) where
    only : (j : ℕ) (part : CompiledProperty) → slice_get r.parts j ≡ Some part → (j ≡ 0) × (part ≡ first)
    only j part at =
        let within = slice_get_within r.parts j part at in
        let zero_it : j ≡ 0 = omega (arith, within, one) in
        (zero_it, same_Some part first (sym at ∙ ap (λ (n : ℕ). slice_get r.parts n) zero_it ∙ there))

    pub only_hits : (w : List ℕ) (k : ℕ) → IsHit (means first) w k ↔ IsHit whole w k
    only_hits w k = (
      λ hit. let same : 0 + k ≡ k = omega arith in subst (λ (n : ℕ). IsHit whole w n) same ((hit_in 0 first there w k hit.2).1 hit),
      λ hit.
          let by = hit_by_part w k hit in
          let is = only by.0 by.1 by.3 in
          let same : 0 + by.2 ≡ by.2 = omega arith in
          let number : k ≡ by.2 = by.4 ∙ ap (λ (n : ℕ). first_of ps n + by.2) is.0 ∙ same in
          subst (λ (n : ℕ). IsHit (means first) w n) (sym number) (subst (λ (c : CompiledProperty). IsHit (means c) w by.2) is.1 by.5),
    )

    pub only_cut : (w : List ℕ) (dead : ℕ) → IsCutWord (means first) w dead ↔ IsCutWord whole w dead
    only_cut w dead = (
      λ cut. (cut_in w dead).1 (λ j part at. subst (λ (c : CompiledProperty). IsCutWord (means c) w dead) (sym (only j part at).1) cut),
      λ cut. (cut_in w dead).0 cut 0 first there,
    )

    -- where the only part is
    pub only_after : (place : Place) (w : List ℕ) → IsPlaceAfter first place w → AreAfter r.parts [] place w
    only_after place w h k part at = subst (λ (c : CompiledProperty). IsPlaceAfter c place w) (sym (only k part at).1) h

  -- ---- places, a part at a time

  module _ (places : List Place) (otherwise : Place) where
    some_there : (xs : List Place) (k : ℕ) → k < length xs → slice_get xs k ≡ None → ⊥
    some_there [] k less none = omega (arith, less)
    some_there (x ∷ xs) zero less none = none-some x (sym none)
    some_there (x ∷ xs) (suc k) less none = some_there xs k (omega (arith, less)) none

    pub all_follow : (more : List ℕ) (nexts : List Place) → length nexts ≡ length r.parts → ((k : ℕ) (next : Place) → slice_get nexts k ≡ Some next → Follows r places otherwise more k next)
        → (w : List ℕ) → AreAfter r.parts places otherwise w → AreAfter r.parts nexts place.Start (w ++ more)
    all_follow more nexts count each w h k part at = by_case (slice_get nexts k) refl
      where
        by_case : (o : Option Place) → slice_get nexts k ≡ o → IsPlaceAfter part (unwrap_or o place.Start) (w ++ more)
        by_case (Some next) is = each k next is part at w (h k part at)
        by_case None is =
            let within = slice_get_within r.parts k part at in
            absurd (some_there nexts k (omega (arith, within, count)) is)

    -- ---- what is hit

    pub hits_more : (w : List ℕ) (n before bits here own count : ℕ) (part : CompiledProperty) → slice_get r.parts n ≡ Some part → before ≡ first_of ps n → count ≡ length part.definition.handlers
        → ((k : ℕ) → IsBitSet own k ↔ ((i : ℕ) × (i < count) × (k ≡ before + i) × IsBitSet here i)) → ((k : ℕ) → IsBitSet here k ↔ IsHit (means part) w k)
        → HasHitsOf r.definition w n bits → HasHitsOf r.definition w (n + 1) (bit_or bits own)
    hits_more w n before bits here own count part at number many moved hit old =
        more_hits r.definition w n bits own (property_of part) (property_at n part at) old (λ k. (
          λ set.
              let h = (moved k).0 set in
              (h.0, h.2 ∙ ap (λ (x : ℕ). x + h.0) number, to_about h.0 ((hit h.0).0 h.3)),
          λ h.
              let mine = of_about h.0 h.2 in
              (moved k).1 (h.0, subst (λ (x : ℕ). h.0 < x) (sym many) mine.2, h.1 ∙ ap (λ (x : ℕ). x + h.0) (sym number), (hit h.0).1 mine),
        ))
      where
        to_about : (i : ℕ) → IsHit (means part) w i → IsHit (property_meaning (rules_about r.definition (property_of part))) w i
        to_about i h = subst (λ (d : PropertyRules). IsHit (property_meaning d) w i) (sym (set.about n part at)) h

        of_about : (i : ℕ) → IsHit (property_meaning (rules_about r.definition (property_of part))) w i → IsHit (means part) w i
        of_about i h = subst (λ (d : PropertyRules). IsHit (property_meaning d) w i) (set.about n part at) h

  pub hits_all : (w : List ℕ) (n bits : ℕ) → n ≡ length r.parts → HasHitsOf r.definition w n bits → (k : ℕ) → IsBitSet bits k ↔ IsHit whole w k
  hits_all w n bits all h =
      let count : length ps ≡ length r.parts = ap length set.properties ∙ length-map r.parts property_of in
      all_hits r.definition w bits (subst (λ (x : ℕ). HasHitsOf r.definition w x bits) (all ∙ sym count) h)

  pub count_parts : length ps ≡ length r.parts
  count_parts = ap length set.properties ∙ length-map r.parts property_of

  -- the handlers of a part are some of at most 16, and those of the next begin after them
  pub room : (n before count : ℕ) (part : CompiledProperty) → slice_get r.parts n ≡ Some part → before ≡ first_of ps n → count ≡ length part.definition.handlers → before + count ≤ 16
  room n before count part at number many = omega (arith, number, many, first_within ps n (property_of part) (property_at n part at), set.handlers)

  pub next_number : (n before count : ℕ) (part : CompiledProperty) → slice_get r.parts n ≡ Some part → before ≡ first_of ps n → count ≡ length part.definition.handlers → before + count ≡ first_of ps (n + 1)
  next_number n before count part at number many =
      let next : suc n ≡ n + 1 = omega arith in
      omega (arith, number, many, first_next ps n (property_of part) (property_at n part at), ap (first_of ps) next)

  -- ---- cut, a part more and of all parts

  module _ (places : List Place) (otherwise : Place) (dead : ℕ) where
    abbrev pub AreCut : ℕ → Type 0
    AreCut n = (w : List ℕ) → AreAfter r.parts places otherwise w → (j : ℕ) (part : CompiledProperty) → j < n → slice_get r.parts j ≡ Some part → IsCutWord (means part) w dead

    pub cuts_more : (n : ℕ) (own : CompiledProperty) → slice_get r.parts n ≡ Some own → ((w : List ℕ) → IsPlaceAfter own (place_at places otherwise n) w → IsCutWord (means own) w dead) → AreCut n → AreCut (n + 1)
    cuts_more n own at cut before w after j part less there =
        elim (cases_lt j n) [
          | inl earlier ↦ before w after j part earlier there
          | inr late ↦
              let last : j ≡ n = omega (arith, less, late) in
              let same : own ≡ part = same_Some own part (sym at ∙ ap (λ (x : ℕ). slice_get r.parts x) (sym last) ∙ there) in
              subst (λ (c : CompiledProperty). IsCutWord (means c) w dead) same (cut w (after n own at))
        ]

    pub all_cut : (n : ℕ) → length r.parts ≤ n → AreCut n → (w : List ℕ) → AreAfter r.parts places otherwise w → IsCutWord whole w dead
    all_cut n all cuts w after = (cut_in w dead).1 (λ j part at. let within = slice_get_within r.parts j part at in cuts w after j part (omega (arith, within, all)) at)

    pub never_cut : (n : ℕ) (own : CompiledProperty) → slice_get r.parts n ≡ Some own → ((w : List ℕ) → IsPlaceAfter own (place_at places otherwise n) w → IsCutWord (means own) w dead → ⊥) → (w : List ℕ) → AreAfter r.parts places otherwise w → IsCutWord whole w dead → ⊥
    never_cut n own at never w after cut = never w (after n own at) ((cut_in w dead).0 cut n own at)

  -- ---- resting and ending, a part more and of all parts

  module _ (places : List Place) (otherwise : Place) where
    same_part : (n : ℕ) (part other : CompiledProperty) (k : ℕ) → slice_get r.parts n ≡ Some part → slice_get r.parts k ≡ Some other → k ≡ n → part ≡ other
    same_part n part other k at there same = same_Some part other (sym at ∙ ap (λ (x : ℕ). slice_get r.parts x) (sym same) ∙ there)

    pub rests_more : (n idle here : ℕ) (part : CompiledProperty) → slice_get r.parts n ≡ Some part
        → ((w : List ℕ) → IsPlaceAfter part (place_at places otherwise n) w → (e : ℕ) → IsBitSet here e → IsPlaceAfter part (place_at places otherwise n) (w ++ e ∷ []))
        → ((w : List ℕ) → IsPlaceAfter part (place_at places otherwise n) w → (e k : ℕ) → IsBitSet here e → IsHit (means part) (w ++ e ∷ []) k → ⊥)
        → Rests r places otherwise n idle → Rests r places otherwise (n + 1) (bit_and idle here)
    rests_more n idle here part at stays quiet before w after e set k other less there =
        let both = and_set idle here e set in
        elim (cases_lt k n) [
          | inl earlier ↦ before w after e both.0 k other earlier there
          | inr late ↦
              let last : k ≡ n = omega (arith, less, late) in
              let own : IsPlaceAfter part (place_at places otherwise n) (w ++ e ∷ []) × ((i : ℕ) → IsHit (means part) (w ++ e ∷ []) i → ⊥) =
              (stays w (after n part at) e both.1, λ i. quiet w (after n part at) e i both.1) in
              subst (λ (m : ℕ). IsPlaceAfter other (place_at places otherwise m) (w ++ e ∷ []) × ((i : ℕ) → IsHit (means other) (w ++ e ∷ []) i → ⊥)) (sym last)
              (subst (λ (c : CompiledProperty). IsPlaceAfter c (place_at places otherwise n) (w ++ e ∷ []) × ((i : ℕ) → IsHit (means c) (w ++ e ∷ []) i → ⊥)) (same_part n part other k at there last) own)
        ]

    pub ends_more : (n ending here : ℕ) (part : CompiledProperty) → slice_get r.parts n ≡ Some part
        → ((w : List ℕ) → IsPlaceAfter part (place_at places otherwise n) w → (e k : ℕ) → IsBitSet here e → IsHit (means part) (w ++ e ∷ []) k → ⊥)
        → ((w : List ℕ) → IsPlaceAfter part (place_at places otherwise n) w → (e : ℕ) → IsBitSet here e → IsCutWord (means part) (w ++ e ∷ []) 0)
        → Ends r places otherwise n ending → Ends r places otherwise (n + 1) (bit_and ending here)
    ends_more n ending here part at quiet cut before w after e set k other less there =
        let both = and_set ending here e set in
        elim (cases_lt k n) [
          | inl earlier ↦ before w after e both.0 k other earlier there
          | inr late ↦
              let last : k ≡ n = omega (arith, less, late) in
              let own : ((i : ℕ) → IsHit (means part) (w ++ e ∷ []) i → ⊥) × IsCutWord (means part) (w ++ e ∷ []) 0 =
              (λ i. quiet w (after n part at) e i both.1, cut w (after n part at) e both.1) in
              subst (λ (c : CompiledProperty). ((i : ℕ) → IsHit (means c) (w ++ e ∷ []) i → ⊥) × IsCutWord (means c) (w ++ e ∷ []) 0) (same_part n part other k at there last) own
        ]

    pub all_rest : (n idle : ℕ) → length r.parts ≤ n → Rests r places otherwise n idle → (w : List ℕ) → AreAfter r.parts places otherwise w → (e : ℕ) → IsBitSet idle e → AreAfter r.parts places otherwise (w ++ e ∷ [])
    all_rest n idle all rests w after e set k part at = let within = slice_get_within r.parts k part at in (rests w after e set k part (omega (arith, within, all)) at).0

    pub all_quiet : (n idle : ℕ) → length r.parts ≤ n → Rests r places otherwise n idle → (w : List ℕ) → AreAfter r.parts places otherwise w → (e k : ℕ) → IsBitSet idle e → IsHit whole (w ++ e ∷ []) k → ⊥
    all_quiet n idle all rests w after e k set hit =
        let by = hit_by_part (w ++ e ∷ []) k hit in
        let within = slice_get_within r.parts by.0 by.1 by.3 in
        (rests w after e set by.0 by.1 (omega (arith, within, all)) by.3).1 by.2 by.5

    pub all_end_quiet : (n ending : ℕ) → length r.parts ≤ n → Ends r places otherwise n ending → (w : List ℕ) → AreAfter r.parts places otherwise w → (e k : ℕ) → IsBitSet ending e → IsHit whole (w ++ e ∷ []) k → ⊥
    all_end_quiet n ending all ends w after e k set hit =
        let by = hit_by_part (w ++ e ∷ []) k hit in
        let within = slice_get_within r.parts by.0 by.1 by.3 in
        (ends w after e set by.0 by.1 (omega (arith, within, all)) by.3).0 by.2 by.5

    pub all_end_cut : (n ending : ℕ) → length r.parts ≤ n → Ends r places otherwise n ending → (w : List ℕ) → AreAfter r.parts places otherwise w → (e : ℕ) → IsBitSet ending e → IsCutWord whole (w ++ e ∷ []) 0
    all_end_cut n ending all ends w after e set =
        (cut_in (w ++ e ∷ []) 0).1 (λ j part at. let within = slice_get_within r.parts j part at in (ends w after e set j part (omega (arith, within, all)) at).1)

-- ---- bits that are moved

module _ (before hits : ℕ) where
  -- the bits of the first so many handlers, moved past those before them
  abbrev pub AreMoved : ℕ → ℕ → Type 0
  AreMoved count all = (k : ℕ) → IsBitSet all k ↔ ((i : ℕ) × (i < count) × (k ≡ before + i) × IsBitSet hits i)

  pub moved_more : (handler all : ℕ) → before + handler < 16 → IsBitSet hits handler → AreMoved handler all → AreMoved (handler + 1) (bit_or all (1 * 2 ^ (before + handler) % 2 ^ 16))
  moved_more handler all few here old k =
      elim (eqb_tells k (before + handler)) [
        | inl same ↦ (λ _. (handler, omega arith, same.1, here), λ _. subst (IsBitSet (bit_or all (1 * 2 ^ (before + handler) % 2 ^ 16))) (sym same.1) (set_here all (before + handler) few))
        | inr other ↦
            let kept = kept_other all (before + handler) k few other.1 in (
              λ set. let h = (old k).0 (λ e. set (kept ∙ e)) in (h.0, omega (arith, h.1), h.2, h.3),
              λ h. elim (cases_lt h.0 handler) [
                | inl less ↦ let set = (old k).1 (h.0, less, h.2, h.3) in λ e. set (sym kept ∙ e)
                | inr late ↦ absurd (other.1 (omega (arith, h.1, late, h.2)))
              ],
            )
      ]

  pub moved_same : (handler all : ℕ) → (IsBitSet hits handler → ⊥) → AreMoved handler all → AreMoved (handler + 1) all
  moved_same handler all never old k = (
    λ set. let h = (old k).0 set in (h.0, omega (arith, h.1), h.2, h.3),
    λ h. elim (cases_lt h.0 handler) [
      | inl less ↦ (old k).1 (h.0, less, h.2, h.3)
      | inr late ↦
          let last : h.0 ≡ handler = omega (arith, h.1, late) in
          absurd (never (subst (IsBitSet hits) last h.3))
    ],
  )

-- as many names as handlers
count_numbered : (all : List PropertyDefinition) (j : ℕ) → length (numbered_from j (map (λ (p : PropertyDefinition). p.handlers) all)) ≡ handler_count all
count_numbered [] j = refl
count_numbered (p ∷ all) j =
    omega (arith, length-append (map (numbered j) p.handlers) (numbered_from (j + 1) (map (λ (p : PropertyDefinition). p.handlers) all)), length-map p.handlers (numbered j), count_numbered all (j + 1))

pub count_names : (d : RuleDefinition) → length (names_of d) ≡ handler_count d.properties
count_names d = go d.properties
  where
    go : (all : List PropertyDefinition) → length (names_for (map (λ (p : PropertyDefinition). p.handlers) all)) ≡ handler_count all
    go [] = refl
    go (p ∷ []) = omega arith
    go (p ∷ q ∷ all) = count_numbered (p ∷ q ∷ all) 0

-- one part, where there are no others
pub one_of_empty : (first : CompiledProperty) (others : List CompiledProperty) (len : ℕ) → len ≡ length others → true ≡ (len == 0) → length (first ∷ others) ≡ 1
one_of_empty first others len is empty = let none = eqb-true len 0 (sym empty) in omega (arith, is, none)

-- ---- rules of one property

module _ (first : CompiledProperty) (others : List CompiledProperty) (given : Option (List (List ℕ))) (rules : AreRules first others given) where
  abbrev made : CompiledRules
  made = record { definition = rules_with first others; parts = first ∷ others }

  pub made_set : IsRuleSet (record { definition = rules_with first others; parts = first ∷ others })
  made_set = rule_set first others rules.alike rules.properties rules.handlers

  -- the empty word hits nothing, nor does one that began otherwise
  pub start_hits : (w : List ℕ) → AreAfter (first ∷ others) [] place.Start w → (k : ℕ) → IsBitSet 0 k ↔ IsHit (rules_meaning (rules_with first others)) w k
  start_hits w after k = (
    λ set. absurd (no_bit 0 k refl set),
    λ hit. let by = hit_by_part made made_set w k hit in absurd (by.5.0 (after by.0 by.1 by.3)),
  )

  pub trap_never : (w : List ℕ) → AreAfter (first ∷ others) [] place.Trap w → (k : ℕ) → IsHit (rules_meaning (rules_with first others)) w k → ⊥
  trap_never w after k hit =
      let by = hit_by_part made made_set w k hit in
      (after by.0 by.1 by.3).1 by.5.1

  pub trap_hits : (w : List ℕ) → AreAfter (first ∷ others) [] place.Trap w → (k : ℕ) → IsBitSet 0 k ↔ IsHit (rules_meaning (rules_with first others)) w k
  trap_hits w after k = (λ set. absurd (no_bit 0 k refl set), λ hit. absurd (trap_never w after k hit))

  pub trap_quiet : (w : List ℕ) → AreAfter (first ∷ others) [] place.Trap w → (e k : ℕ) → IsHit (rules_meaning (rules_with first others)) (w ++ e ∷ []) k → ⊥
  trap_quiet w after e k hit = trap_never (w ++ e ∷ []) (λ j part at. trap_later part w e (after j part at)) k hit

  -- what stands for the word of one letter is where that leads from the start
  pub from_start : (c : Configuration) (e : ℕ) → IsConfigurationOf made c (e ∷ []) → (w : List ℕ)
      → AreAfter (first ∷ others) [] place.Start w → IsConfigurationOf made c (w ++ e ∷ [])
  from_start c e here w after =
      subst (λ (u : List ℕ). IsConfigurationOf made c (u ++ e ∷ [])) (sym (after 0 first refl)) here

  module _ (one : length (first ∷ others) ≡ 1) (place : Place) where
    pub alone_at : (w : List ℕ) → IsPlaceAfter first place w → AreAfter (first ∷ others) [] place w
    alone_at w h = only_after made made_set one first refl place w h

    pub alone_hits : (bits : ℕ) → ((w : List ℕ) → IsPlaceAfter first place w → (k : ℕ) → IsBitSet bits k ↔ IsHit (property_meaning first.definition) w k)
        → (w : List ℕ) → AreAfter (first ∷ others) [] place w → (k : ℕ) → IsBitSet bits k ↔ IsHit (rules_meaning (rules_with first others)) w k
    alone_hits bits hits w after k =
        let of = hits w (after 0 first refl) k in
        let whole = only_hits made made_set one first refl w k in
        (λ set. whole.0 (of.0 set), λ hit. of.1 (whole.1 hit))

    pub alone_cut : (dead : ℕ) (b : Bool) → ((w : List ℕ) → IsPlaceAfter first place w → IsTrue b ↔ IsCutWord (property_meaning first.definition) w dead)
        → (w : List ℕ) → AreAfter (first ∷ others) [] place w → IsTrue b ↔ IsCutWord (rules_meaning (rules_with first others)) w dead
    alone_cut dead b says w after =
        let of = says w (after 0 first refl) in
        let whole = only_cut made made_set one first refl w dead in
        (λ yes_it. whole.0 (of.0 yes_it), λ cut. of.1 (whole.1 cut))

    pub alone_stays : (bits : ℕ) → ((w : List ℕ) → IsPlaceAfter first place w → (e : ℕ) → IsBitSet bits e → IsPlaceAfter first place (w ++ e ∷ []))
        → (w : List ℕ) → AreAfter (first ∷ others) [] place w → (e : ℕ) → IsBitSet bits e → AreAfter (first ∷ others) [] place (w ++ e ∷ [])
    alone_stays bits stays w after e set = only_after made made_set one first refl place (w ++ e ∷ []) (stays w (after 0 first refl) e set)

    pub alone_quiet : (bits : ℕ) → ((w : List ℕ) → IsPlaceAfter first place w → (e k : ℕ) → IsBitSet bits e → IsHit (property_meaning first.definition) (w ++ e ∷ []) k → ⊥)
        → (w : List ℕ) → AreAfter (first ∷ others) [] place w → (e k : ℕ) → IsBitSet bits e → IsHit (rules_meaning (rules_with first others)) (w ++ e ∷ []) k → ⊥
    alone_quiet bits quiet w after e k set hit =
        quiet w (after 0 first refl) e k set ((only_hits made made_set one first refl (w ++ e ∷ []) k).1 hit)

    pub alone_ends : (bits : ℕ) → ((w : List ℕ) → IsPlaceAfter first place w → (e : ℕ) → IsBitSet bits e → IsCutWord (property_meaning first.definition) (w ++ e ∷ []) 0)
        → (w : List ℕ) → AreAfter (first ∷ others) [] place w → (e : ℕ) → IsBitSet bits e → IsCutWord (rules_meaning (rules_with first others)) (w ++ e ∷ []) 0
    alone_ends bits cut w after e set = (only_cut made made_set one first refl (w ++ e ∷ []) 0).0 (cut w (after 0 first refl) e set)

    -- where the next place of the only property leads
    pub alone_follows : (next : Place) (e : ℕ) → ((w : List ℕ) → IsPlaceAfter first place w → IsPlaceAfter first next (w ++ e ∷ []))
        → (w : List ℕ) → AreAfter (first ∷ others) [] place w → AreAfter (first ∷ others) [] next (w ++ e ∷ [])
    alone_follows next e step w after = only_after made made_set one first refl next (w ++ e ∷ []) (step w (after 0 first refl))

  -- what is told of the only property's states by their numbers is so of the rules
  pub alone_plain : (e s n : ℕ)
      → IsPlainMove Place (property_meaning first.definition) (IsPlaceAfter first) e (place.State s) (place.State n)
      → IsPlainMove Configuration (rules_meaning (rules_with first others)) (IsConfigurationOf made) e
      (configuration.State s) (configuration.State n)
  alone_plain e s n move = record {
    leads = λ w h. (h.0, alone_follows h.0 (place.State s) (place.State n) e move.leads w h.1);
    quiet = λ w h k hit. move.quiet w (h.1 0 first refl) k ((only_hits made made_set h.0 first refl w k).1 hit);
    goes_on = λ w h cut. move.goes_on w (h.1 0 first refl) ((only_cut made made_set h.0 first refl w 0).1 cut);
  }

  pub alone_at_rest : (e s : ℕ)
      → IsAtRest Place (property_meaning first.definition) (IsPlaceAfter first) e (place.State s)
      → IsAtRest Configuration (rules_meaning (rules_with first others)) (IsConfigurationOf made) e
      (configuration.State s)
  alone_at_rest e s rest =
      let move = alone_plain e s s (record { leads = rest.stays; quiet = rest.quiet; goes_on = rest.goes_on }) in record {
        stays = move.leads;
        quiet = move.quiet;
        goes_on = move.goes_on;
      }

  pub alone_endings : (mask s : ℕ)
      → AreEnds Place (property_meaning first.definition) (IsPlaceAfter first) mask (place.State s)
      → AreEnds Configuration (rules_meaning (rules_with first others)) (IsConfigurationOf made) mask
      (configuration.State s)
  alone_endings mask s ends = record {
    quiet = λ w h. alone_quiet h.0 (place.State s) mask ends.quiet w h.1;
    cut = λ w h. alone_ends h.0 (place.State s) mask ends.cut w h.1;
  }

-- where a configuration of the next place leads
pub configured : (r : CompiledRules) (result : Result Configuration NoMemory) (here next : Place) (more : List ℕ) → IfOk result (λ c. (w : List ℕ) → AreAfter r.parts [] next w → IsConfigurationOf r c w)
    → ((w : List ℕ) → AreAfter r.parts [] here w → AreAfter r.parts [] next (w ++ more)) → IfOk result (λ c. (w : List ℕ) → AreAfter r.parts [] here w → IsConfigurationOf r c (w ++ more))
configured r (Err x) here next more told step = tt
configured r (Ok c) here next more told step = λ w after. told (w ++ more) (step w after)

-- from a configuration of one property
pub configured_alone : (r : CompiledRules) (result : Result Configuration NoMemory) (here next : Place) (more : List ℕ) → (length r.parts ≡ 1 → IfOk result (λ c. (w : List ℕ) → AreAfter r.parts [] next w → IsConfigurationOf r c w))
    → (length r.parts ≡ 1 → (w : List ℕ) → AreAfter r.parts [] here w → AreAfter r.parts [] next (w ++ more)) → IfOk result (λ c. (w : List ℕ) → (length r.parts ≡ 1) × AreAfter r.parts [] here w → IsConfigurationOf r c (w ++ more))
configured_alone r (Err x) here next more told step = tt
configured_alone r (Ok c) here next more told step = λ w h. told h.0 (w ++ more) (step h.0 w h.1)
