-- Lists that get a slot, are tidied, let go or made.
use Rattle.std.proofs.Common.{◌≡◌, ◌≢◌, ℕ, ◌<◌, ◌≤◌, ◌*◌, ◌/◌, ◌%◌, ◌⊎◌, inl, inr, Bool, true, false, List, Option, Some, None, length, map, refl, sym, ap, ◌∙◌, subst, arith}
use Rattle.std.specs.Prelude.{AllPairs, Contains, filter, slice_index_or, ◌==◌, ◌&&◌, nat_lt}
use Rattle.std.specs.Int.{bit_at}
use Rattle.std.proofs.lemmas.Bool.{cases_eq, eqb-true, eq-eqb, lt-ltb, and_parts, and_from, false≢true, false_from_ne_true}
use Rattle.std.proofs.lemmas.List.{get_or-map, length-map}
use Rattle.std.proofs.lemmas.List.Elements.{Contains-get_or}
use Rattle.std.proofs.lemmas.List.Kept.{AllPairs-filter}
use Rattle.std.proofs.lemmas.Option.{same_Some, none-some}
use Rattle.jm_model.specs.Bindings.{is_below}
use Rattle.jm_model.specs.declared.binding.Binding.{Binding}
use Rattle.jm_awake.specs.declared.card.Listed.{Listed}
use Rattle.jm_awake.specs.declared.card.Card.{Card}
use Rattle.jm_awake.specs.Awake.{SlotList, Lists, no_list, fresh, list_at, card_at, IsOn, IsMourned, entry_of, is_there, is_listed, IsKept, Occupant, Occupants, with_slot, AreFound, IsEntry, AreSoundBut, AreSound, AreStill, IsAwake, IsWakable, AreAllAbove}
use Rattle.jm_awake.specs.Added.{IsAddedTo}
use Rattle.jm_awake.specs.Steps.{IsCarded, IsCovered, IsAged, IsFewer, Takes, IsWokenAt, IsWoken, IsMade}
use Rattle.jm_awake.proofs.CardLemmas.{none_left}
use Rattle.jm_awake.proofs.StepLemmas.{with_here, came_sound}
use Rattle.jm_awake.proofs.ListLemmas.{filtered_from, filtered_in, filtered_passes}
use Rattle.jm_awake.proofs.SoundLemmas.{covered_sound, half_of, entry_same, on_cards, same_place, found_along, entry_along}

-- ---- fewer lists
pub fewer_sound : (q : Option ℕ) (o : Occupants) (old new : Lists) → IsFewer old new → AreSoundBut q o old → AreSoundBut q o new
fewer_sound q o old new fewer sound = record {
  found = λ place kept.
      let same = fewer.each place kept in
      found_along old new place (list_at old place) (list_at new place) fewer.rows fewer.letters fewer.masks (ap (λ (l : SlotList). l.letter) same) (ap (λ (l : SlotList). l.binding) same) (sound.found place (back place kept));
  listed = λ place k x kept at below on.
      let same = fewer.each place kept in
      let card = card_same k in
      let own : is_below (list_at old place).binding x.instance ≡ true = subst (λ (l : SlotList). is_below l.binding x.instance ≡ true) same below in
      let lit : IsOn (card_at old k) (list_at old place).letter = subst (λ (l : SlotList). IsOn (card_at old k) l.letter) same (subst (λ (c : Card). IsOn c (list_at new place).letter) card on) in
      subst (λ (l : SlotList). Contains l.entries (entry_of k (card_at new k))) (sym same)
      (subst (λ (c : Card). Contains (list_at old place).entries (entry_of k c)) (sym card) (sound.listed place k x (back place kept) at own lit));
  each = λ place x kept has.
      let same = fewer.each place kept in
      subst (λ (cs : List Card). IsEntry (q ≡ Some place) o cs (list_at new place) x) (sym fewer.cards)
      (subst (λ (l : SlotList). IsEntry (q ≡ Some place) o old.cards l x) (sym same)
      (sound.each place x (back place kept) (subst (λ (l : SlotList). Contains l.entries x) same has)));
  apart = λ place kept. subst (λ (l : SlotList). AllPairs (λ x y. x ≢ y) l.entries) (sym (fewer.each place kept)) (sound.apart place (back place kept));
  blank = λ k e free on. sound.blank k e free (subst (λ (c : Card). IsOn c e) (card_same k) on);
}
  where
    back : (place : ℕ) → IsKept new place → IsKept old place
    back place kept = sym (ap (λ (l : SlotList). l.is_kept) (fewer.each place kept)) ∙ kept

    card_same : (k : ℕ) → card_at new k ≡ card_at old k
    card_same k = ap (λ (cs : List Card). slice_index_or cs k fresh) fewer.cards

-- ---- a list is tidied
-- the list at a place is without what doesn't count there
pub record IsTidied (old new : Lists) (place : ℕ) : Type 0 where
  pub rows : new.rows ≡ old.rows
  pub cards : new.cards ≡ old.cards
  pub letters : new.letters ≡ old.letters
  pub masks : new.masks ≡ old.masks
  pub here : list_at new place ≡ record (list_at old place) { entries = filter (is_listed old.cards (list_at old place).letter) (list_at old place).entries }
  pub others : (p : ℕ) → (p ≡ place → ⊥) → list_at new p ≡ list_at old p

pub listed_on : (cards : List Card) (e k : ℕ) → k < length cards → e < 32 → IsOn (slice_index_or cards k fresh) e → is_listed cards e (entry_of k (slice_index_or cards k fresh)) ≡ true
listed_on cards e k within low on =
    and_from (is_there cards (entry_of k (slice_index_or cards k fresh))) (nat_lt e 32 && (bit_at (slice_index_or cards k fresh).letters e == 1)) (on_cards cards k within)
    (and_from (nat_lt e 32) (bit_at (slice_index_or cards k fresh).letters e == 1) (lt-ltb e 32 low) (eq-eqb (bit_at (slice_index_or cards k fresh).letters e) 1 on))

pub on_listed : (cards : List Card) (e : ℕ) (x : Listed) → is_listed cards e x ≡ true → IsOn (slice_index_or cards x.slot fresh) e
on_listed cards e x is =
    let rest = (and_parts (is_there cards x) (nat_lt e 32 && (bit_at (slice_index_or cards x.slot fresh).letters e == 1)) is).1 in
    eqb-true (bit_at (slice_index_or cards x.slot fresh).letters e) 1 (and_parts (nat_lt e 32) (bit_at (slice_index_or cards x.slot fresh).letters e == 1) rest).1

pub tidied_sound : (q : Option ℕ) (o : Occupants) (old new : Lists) (place : ℕ) → IsTidied old new place → (q ≡ None) ⊎ (q ≡ Some place) → AreSoundBut q o old → AreSound o new
tidied_sound q o old new place tidied loose sound = record {
  found = λ p kept.
      found_along old new p (list_at old p) (list_at new p) tidied.rows tidied.letters tidied.masks (letter_same p) (binding_same p) (sound.found p (back p kept));
  listed = λ p k x kept at below on.
      let own : is_below (list_at old p).binding x.instance ≡ true = subst (λ (b : Binding). is_below b x.instance ≡ true) (binding_same p) below in
      let lit : IsOn (card_at old k) (list_at old p).letter = subst (IsOn (card_at old k)) (letter_same p) (subst (λ (c : Card). IsOn c (list_at new p).letter) (card_same k) on) in
      let was = sound.listed p k x (back p kept) at own lit in
      subst (λ (c : Card). Contains (list_at new p).entries (entry_of k c)) (sym (card_same k)) (in_list p k (back p kept) lit was);
  each = λ p x kept has.
      subst (λ (cs : List Card). IsEntry (None ≡ Some p) o cs (list_at new p) x) (sym tidied.cards) (of_list p x (back p kept) has);
  apart = λ p kept. apart_in p (back p kept);
  blank = λ k e free on. sound.blank k e free (subst (λ (c : Card). IsOn c e) (card_same k) on);
}
  where
    own_list : SlotList
    own_list = record (list_at old place) { entries = filter (is_listed old.cards (list_at old place).letter) (list_at old place).entries }

    card_same : (k : ℕ) → card_at new k ≡ card_at old k
    card_same k = ap (λ (cs : List Card). slice_index_or cs k fresh) tidied.cards

    letter_same : (p : ℕ) → (list_at new p).letter ≡ (list_at old p).letter
    letter_same p = elim (cases_eq p place) [
      | inl is ↦ ap (λ (n : ℕ). (list_at new n).letter) is ∙ ap (λ (l : SlotList). l.letter) tidied.here ∙ sym (ap (λ (n : ℕ). (list_at old n).letter) is)
      | inr other ↦ ap (λ (l : SlotList). l.letter) (tidied.others p other)
    ]

    binding_same : (p : ℕ) → (list_at new p).binding ≡ (list_at old p).binding
    binding_same p = elim (cases_eq p place) [
      | inl is ↦ ap (λ (n : ℕ). (list_at new n).binding) is ∙ ap (λ (l : SlotList). l.binding) tidied.here ∙ sym (ap (λ (n : ℕ). (list_at old n).binding) is)
      | inr other ↦ ap (λ (l : SlotList). l.binding) (tidied.others p other)
    ]

    back : (p : ℕ) → IsKept new p → IsKept old p
    back p kept = elim (cases_eq p place) [
      | inl is ↦ ap (λ (n : ℕ). (list_at old n).is_kept) is ∙ sym (ap (λ (l : SlotList). l.is_kept) tidied.here) ∙ sym (ap (λ (n : ℕ). (list_at new n).is_kept) is) ∙ kept
      | inr other ↦ sym (ap (λ (l : SlotList). l.is_kept) (tidied.others p other)) ∙ kept
    ]

    in_list : (p k : ℕ) → IsKept old p → IsOn (card_at old k) (list_at old p).letter → Contains (list_at old p).entries (entry_of k (card_at old k)) → Contains (list_at new p).entries (entry_of k (card_at old k))
    in_list p k kept lit was = elim (cases_eq p place) [
      | inl is ↦
          let within = (sound.each p (entry_of k (card_at old k)) kept was).within in
          subst (λ (n : ℕ). Contains (list_at new n).entries (entry_of k (card_at old k))) (sym is)
          (subst (λ (l : SlotList). Contains l.entries (entry_of k (card_at old k))) (sym tidied.here)
          (filtered_in (is_listed old.cards (list_at old place).letter) (list_at old place).entries (entry_of k (card_at old k))
          (subst (λ (n : ℕ). Contains (list_at old n).entries (entry_of k (card_at old k))) is was)
          (listed_on old.cards (list_at old place).letter k within (sound.found place (subst (IsKept old) is kept)).low (subst (λ (n : ℕ). IsOn (card_at old k) (list_at old n).letter) is lit))))
      | inr other ↦ subst (λ (l : SlotList). Contains l.entries (entry_of k (card_at old k))) (sym (tidied.others p other)) was
    ]

    tighter : (p : ℕ) (x : Listed) (l m : SlotList) → m.letter ≡ l.letter → m.binding ≡ l.binding → ((q ≡ Some p) → IsOn (slice_index_or old.cards x.slot fresh) l.letter) → IsEntry (q ≡ Some p) o old.cards l x → IsEntry (None ≡ Some p) o old.cards m x
    tighter p x l m letter binding on entry = record {
      within = entry.within;
      even = entry.even;
      aged = entry.aged;
      there = λ there.
          let is = entry.there there in
          record {
            occupant = is.occupant;
            here = is.here;
            below = ap (λ (b : Binding). is_below b is.occupant.instance) binding ∙ is.below;
            whole = is.whole;
            on = λ tight. subst (IsOn (slice_index_or old.cards x.slot fresh)) (sym letter) (elim loose [
              | inl none ↦ is.on (λ (some : q ≡ Some p). none-some p (sym none ∙ some))
              | inr some ↦ elim (cases_eq p place) [
                | inl same ↦ on (some ∙ ap (λ (n : ℕ). Some n) (sym same))
                | inr other ↦ is.on (λ (here : q ≡ Some p). other (same_Some p place (sym here ∙ some)))
              ]
            ]);
          };
    }

    of_list : (p : ℕ) (x : Listed) → IsKept old p → Contains (list_at new p).entries x → IsEntry (None ≡ Some p) o old.cards (list_at new p) x
    of_list p x kept has = elim (cases_eq p place) [
      | inl is ↦
          let own : Contains (filter (is_listed old.cards (list_at old place).letter) (list_at old place).entries) x =
          subst (λ (l : SlotList). Contains l.entries x) tidied.here (subst (λ (n : ℕ). Contains (list_at new n).entries x) is has)
          in
          let was : Contains (list_at old p).entries x =
          subst (λ (n : ℕ). Contains (list_at old n).entries x) (sym is) (filtered_from (is_listed old.cards (list_at old place).letter) (list_at old place).entries x own)
          in
          let on : IsOn (slice_index_or old.cards x.slot fresh) (list_at old p).letter =
          subst (λ (n : ℕ). IsOn (slice_index_or old.cards x.slot fresh) (list_at old n).letter) (sym is)
          (on_listed old.cards (list_at old place).letter x (filtered_passes (is_listed old.cards (list_at old place).letter) (list_at old place).entries x own))
          in
          tighter p x (list_at old p) (list_at new p) (letter_same p) (binding_same p) (λ some. on) (sound.each p x kept was)
      | inr other ↦
          tighter p x (list_at old p) (list_at new p) (letter_same p) (binding_same p)
          (λ some. elim loose [
            | inl none ↦ absurd (none-some p (sym none ∙ some))
            | inr here ↦ absurd (other (same_Some p place (sym some ∙ here)))
          ])
          (sound.each p x kept (subst (λ (l : SlotList). Contains l.entries x) (tidied.others p other) has))
    ]

    apart_in : (p : ℕ) → IsKept old p → AllPairs (λ x y. x ≢ y) (list_at new p).entries
    apart_in p kept = elim (cases_eq p place) [
      | inl is ↦
          subst (λ (n : ℕ). AllPairs (λ x y. x ≢ y) (list_at new n).entries) (sym is)
          (subst (λ (l : SlotList). AllPairs (λ x y. x ≢ y) l.entries) (sym tidied.here)
          (AllPairs-filter (λ x y. x ≢ y) (is_listed old.cards (list_at old place).letter) (list_at old place).entries (sound.apart place (subst (IsKept old) is kept))))
      | inr other ↦ subst (λ (l : SlotList). AllPairs (λ x y. x ≢ y) l.entries) (sym (tidied.others p other)) (sound.apart p kept)
    ]

-- ---- a slot is put into the lists of a letter
module _ (q : Option ℕ) (o : Occupants) (old new : Lists) (e slot : ℕ) (t : Binding) (x : Occupant) (woken : IsWokenAt e slot t old new) (at : o slot ≡ Some x) (is : x.instance ≡ t) (mourned : x.has_dead ≡ true → IsMourned (card_at old slot))
    (within : slot < length old.cards) (off : IsOn (card_at old slot) e → ⊥) (clear : (place : ℕ) → q ≡ Some place → IsKept old place → (list_at old place).letter ≡ e → ⊥) (sound : AreSoundBut q o old) where
  pub woken_kept : (place : ℕ) → IsKept new place → IsKept old place
  woken_kept place kept = elim (woken.lists place kept) [
    | inl same ↦ sym (ap (λ (l : SlotList). l.is_kept) same.0) ∙ kept
    | inr (takes, added) ↦ added.kept
  ]

  woken_letter : (place : ℕ) → IsKept new place → (list_at new place).letter ≡ (list_at old place).letter
  woken_letter place kept = elim (woken.lists place kept) [
    | inl same ↦ ap (λ (l : SlotList). l.letter) same.0
    | inr (takes, added) ↦ added.letter
  ]

  woken_binding : (place : ℕ) → IsKept new place → (list_at new place).binding ≡ (list_at old place).binding
  woken_binding place kept = elim (woken.lists place kept) [
    | inl same ↦ ap (λ (l : SlotList). l.binding) same.0
    | inr (takes, added) ↦ added.binding
  ]

  age_same : (k : ℕ) → (card_at new k).age ≡ (card_at old k).age
  age_same k = elim (cases_eq k slot) [
    | inl here ↦ subst (λ (n : ℕ). (card_at new n).age ≡ (card_at old n).age) (sym here) woken.age
    | inr other ↦ ap (λ (c : Card). c.age) (woken.others k other)
  ]

  pub woken_on : (k letter : ℕ) → IsOn (card_at old k) letter → IsOn (card_at new k) letter
  woken_on k letter on = elim (cases_eq k slot) [
    | inl here ↦ subst (λ (n : ℕ). IsOn (card_at new n) letter) (sym here) (elim (cases_eq letter e) [
      | inl same ↦ subst (IsOn (card_at new slot)) (sym same) woken.on
      | inr other ↦ woken.bits letter other ∙ subst (λ (n : ℕ). IsOn (card_at old n) letter) here on
    ])
    | inr other ↦ subst (λ (c : Card). IsOn c letter) (sym (woken.others k other)) on
  ]

  -- what a list had it has still
  still_in : (place k : ℕ) → IsKept new place → Contains (list_at old place).entries (entry_of k (card_at old k)) → Contains (list_at new place).entries (entry_of k (card_at new k))
  still_in place k kept has =
      let entry = entry_same k (card_at old k) (card_at new k) (ap (λ (n : ℕ). n / 2) (age_same k)) in
      subst (Contains (list_at new place).entries) (sym entry) (elim (woken.lists place kept) [
        | inl same ↦ subst (λ (l : SlotList). Contains l.entries (entry_of k (card_at old k))) (sym same.0) has
        | inr (takes, added) ↦
            let low = (sound.each place (entry_of k (card_at old k)) (woken_kept place kept) has).within in
            let size = woken.size in
            let more : k < length new.cards = omega (arith, low, size) in
            added.all (entry_of k (card_at old k)) has (subst (λ (y : Listed). is_there new.cards y ≡ true) entry (on_cards new.cards k more))
      ])

  listed_now : (place k : ℕ) (y : Occupant) → IsKept new place → o k ≡ Some y → is_below (list_at old place).binding y.instance ≡ true → IsOn (card_at new k) (list_at old place).letter
      → Contains (list_at new place).entries (entry_of k (card_at new k))
  listed_now place k y kept here below on = elim (cases_eq k slot) [
    | inl same ↦ elim (cases_eq (list_at old place).letter e) [
      | inl letter ↦
          let own : y ≡ x = same_Some y x (sym here ∙ ap o same ∙ at) in
          let takes : Takes old e t place = record { letter = letter; below = sym (ap (is_below (list_at old place).binding) (ap (λ (z : Occupant). z.instance) own ∙ is)) ∙ below } in
          elim (woken.lists place kept) [
            | inl was ↦ absurd (was.1 sound.found takes)
            | inr (yes', added) ↦ subst (λ (n : ℕ). Contains (list_at new place).entries (entry_of n (card_at new n))) (sym same)
                (subst (Contains (list_at new place).entries) (sym (entry_same slot (card_at old slot) (card_at new slot) (ap (λ (n : ℕ). n / 2) woken.age))) added.here)
          ]
      | inr other ↦
          let was : IsOn (card_at old k) (list_at old place).letter =
          subst (λ (n : ℕ). IsOn (card_at old n) (list_at old place).letter) (sym same) (sym (woken.bits (list_at old place).letter other) ∙ subst (λ (n : ℕ). IsOn (card_at new n) (list_at old place).letter) same on)
          in
          still_in place k kept (sound.listed place k y (woken_kept place kept) here below was)
    ]
    | inr other ↦ still_in place k kept (sound.listed place k y (woken_kept place kept) here below (subst (λ (c : Card). IsOn c (list_at old place).letter) (woken.others k other) on))
  ]

  -- the new entry
  entry_new : (place : ℕ) → Takes old e t place → IsAddedTo new.cards (entry_of slot (card_at old slot)) (list_at old place) (list_at new place)
      → IsEntry (q ≡ Some place) o new.cards (list_at new place) (entry_of slot (card_at old slot))
  entry_new place takes added =
      let size = woken.size in
      let age = woken.age in
      record {
        within = omega (arith, size, within);
        even = omega arith;
        aged = omega (arith, age);
        there = λ there. record {
          occupant = x;
          here = at;
          below = ap (λ (b : Binding). is_below b x.instance) added.binding ∙ ap (is_below (list_at old place).binding) is ∙ takes.below;
          whole = λ whole. false_from_ne_true x.has_dead (λ (dead : x.has_dead ≡ true).
              let odd : (card_at old slot).age % 2 ≡ 1 = mourned dead in
              let same : (card_at old slot).age / 2 * 2 ≡ (card_at new slot).age = whole in
              omega (arith, odd, same, age));
          on = λ tight. subst (IsOn (card_at new slot)) (sym (added.letter ∙ takes.letter)) woken.on;
        };
      }

  entry_now : (place : ℕ) (y : Listed) → IsKept new place → Contains (list_at old place).entries y → IsEntry (q ≡ Some place) o new.cards (list_at new place) y
  entry_now place y kept has =
      let size = woken.size in
      entry_along (q ≡ Some place) o old.cards new.cards (list_at old place) (list_at new place) y (omega (arith, size)) (age_same y.slot) (woken_on y.slot (list_at old place).letter) (woken_letter place kept) (woken_binding place kept)
      (sound.each place y (woken_kept place kept) has)

  apart_now : (place : ℕ) → IsKept new place → AllPairs (λ y z. y ≢ z) (list_at new place).entries
  apart_now place kept = elim (woken.lists place kept) [
    | inl same ↦ subst (λ (l : SlotList). AllPairs (λ y z. y ≢ z) l.entries) (sym same.0) (sound.apart place (woken_kept place kept))
    | inr (takes, added) ↦ added.apart (sound.apart place added.kept) (λ (has : Contains (list_at old place).entries (entry_of slot (card_at old slot))).
        let was = (sound.each place (entry_of slot (card_at old slot)) added.kept has).there (half_of (card_at old slot).age) in
        off (subst (IsOn (card_at old slot)) takes.letter (was.on (λ (here : q ≡ Some place). clear place here added.kept takes.letter))))
  ]

  pub woken_sound : AreSoundBut q o new
  woken_sound = record {
    found = λ place kept.
        found_along old new place (list_at old place) (list_at new place) woken.rows woken.letters woken.masks (woken_letter place kept) (woken_binding place kept) (sound.found place (woken_kept place kept));
    listed = λ place k y kept here below on.
        listed_now place k y kept here (subst (λ (b : Binding). is_below b y.instance ≡ true) (woken_binding place kept) below) (subst (IsOn (card_at new k)) (woken_letter place kept) on);
    each = λ place y kept has. elim (woken.lists place kept) [
      | inl same ↦ entry_now place y kept (subst (λ (l : SlotList). Contains l.entries y) same.0 has)
      | inr (takes, added) ↦ elim (added.among y has) [
        | inl was ↦ entry_now place y kept was
        | inr same ↦ subst (IsEntry (q ≡ Some place) o new.cards (list_at new place)) (sym same) (entry_new place takes added)
      ]
    ];
    apart = apart_now;
    blank = λ k letter free on. elim (cases_eq k slot) [
      | inl here ↦ none-some x (sym free ∙ ap o here ∙ at)
      | inr other ↦ sound.blank k letter free (subst (λ (c : Card). IsOn c letter) (woken.others k other) on)
    ];
  }

-- ---- a list is made
entry_injective : (j k : ℕ) (c d : Card) → entry_of j c ≡ entry_of k d → j ≡ k
entry_injective j k c d same = ap (λ (x : Listed). x.slot) same

mapped_apart : (f : ℕ → Listed) (slots : List ℕ) → ((j k : ℕ) → f j ≡ f k → j ≡ k) → AllPairs (λ j k. j ≢ k) slots → AllPairs (λ x y. x ≢ y) (map f slots)
mapped_apart f slots injective apart i j d less low same =
    let size = length-map slots f in
    let high : j < length slots = omega (arith, low, size) in
    let first = get_or-map f slots i 0 d (omega (arith, less, high)) in
    let second = get_or-map f slots j 0 d high in
    apart i j 0 less high (injective (slice_index_or slots i 0) (slice_index_or slots j 0) (sym first ∙ same ∙ second))

mapped_in : (f : ℕ → Listed) (slots : List ℕ) (k : ℕ) → Contains slots k → Contains (map f slots) (f k)
mapped_in f slots k (i, low, is) =
    let size = length-map slots f in
    (i, omega (arith, low, size), get_or-map f slots i k (f k) low ∙ ap f is)

mapped_from : (f : ℕ → Listed) (slots : List ℕ) (x : Listed) → Contains (map f slots) x → (k : ℕ) × Contains slots k × (f k ≡ x)
mapped_from f slots x (i, low, is) =
    let size = length-map slots f in
    let high : i < length slots = omega (arith, low, size) in
    (slice_index_or slots i 0, Contains-get_or slots i 0 high, sym (get_or-map f slots i 0 x high) ∙ is)

module _ (o : Occupants) (e : ℕ) (b : Binding) (slots : List ℕ) (old new : Lists) (made : IsMade e b slots old new) (above : AreAllAbove o old b slots) (sound : AreSound o old) where
  made_card : (k : ℕ) → card_at new k ≡ card_at made.mid k
  made_card k = ap (λ (cs : List Card). slice_index_or cs k fresh) made.cards

  made_age : (k : ℕ) → (card_at new k).age ≡ (card_at old k).age
  made_age k = ap (λ (c : Card). c.age) (made_card k) ∙ made.listed.ages k

  abbrev made_entry : ℕ → Listed
  made_entry = λ k. entry_of k (card_at old k)

  made_entries : (list_at new made.place).entries ≡ map (λ k. entry_of k (card_at old k)) slots
  made_entries = made.has ∙ made.listed.has

  pub made_on : (k letter : ℕ) → IsOn (card_at old k) letter → IsOn (card_at new k) letter
  made_on k letter on = subst (λ (c : Card). IsOn c letter) (sym (made_card k)) (made.listed.bits k letter on)

  made_takes : (k : ℕ) (x : Occupant) → is_below b x.instance ≡ true → Takes new e x.instance made.place
  made_takes k x below = record { letter = made.of.letter; below = ap (λ (t : Binding). is_below t x.instance) made.of.binding ∙ below }

  made_back : (p : ℕ) → (p ≡ made.place → ⊥) → IsKept new p → IsKept old p
  made_back p other kept = sym (ap (λ (l : SlotList). l.is_kept) (made.others p other kept)) ∙ kept

  new_entry : (k : ℕ) → entry_of k (card_at new k) ≡ entry_of k (card_at old k)
  new_entry k = entry_same k (card_at old k) (card_at new k) (ap (λ (n : ℕ). n / 2) (made_age k))

  made_listed : (p k : ℕ) (x : Occupant) → IsKept new p → o k ≡ Some x → is_below (list_at new p).binding x.instance ≡ true → IsOn (card_at new k) (list_at new p).letter → Contains (list_at new p).entries (entry_of k (card_at old k))
  made_listed p k x kept at below on = elim (cases_eq p made.place) [
    | inl is ↦
        let own : is_below b x.instance ≡ true = sym (ap (λ (t : Binding). is_below t x.instance) (ap (λ (n : ℕ). (list_at new n).binding) is ∙ made.of.binding)) ∙ below in
        subst (λ (l : List Listed). Contains l (entry_of k (card_at old k))) (sym (ap (λ (n : ℕ). (list_at new n).entries) is ∙ made_entries)) (mapped_in made_entry slots k (above.all k x at own))
    | inr other ↦
        let same = made.others p other kept in
        let letter = ap (λ (l : SlotList). l.letter) same in
        elim (made.listed.back k (list_at new p).letter (subst (λ (c : Card). IsOn c (list_at new p).letter) (made_card k) on)) [
          | inl was ↦
              subst (λ (l : SlotList). Contains l.entries (entry_of k (card_at old k))) (sym same)
              (sound.listed p k x (made_back p other kept) at (subst (λ (l : SlotList). is_below l.binding x.instance ≡ true) same below) (subst (IsOn (card_at old k)) letter was))
          | inr (here, has) ↦
              let (z, there, high, odd) = above.each k has in
              let own : z ≡ x = same_Some z x (sym there ∙ at) in
              let takes : Takes new e x.instance p = record { letter = here; below = below } in
              absurd (other (same_place new p made.place e x.instance (made.found sound.found) kept made.of.kept takes (made_takes k x (subst (λ (w : Occupant). is_below b w.instance ≡ true) own high))))
        ]
  ]

  made_one : (x : Listed) (k : ℕ) → Contains slots k → entry_of k (card_at old k) ≡ x → IsEntry (None ≡ Some made.place) o new.cards (list_at new made.place) x
  made_one x k has is =
      let (z, there, high, odd) = above.each k has in
      let slot : x.slot ≡ k = sym (ap (λ (y : Listed). y.slot) is) in
      let age : x.age ≡ (card_at old k).age / 2 * 2 = sym (ap (λ (y : Listed). y.age) is) in
      let low : k < length new.cards = subst (λ (cs : List Card). k < length cs) (sym made.cards) (made.listed.within k has) in
      let own : (slice_index_or new.cards x.slot fresh).age ≡ (card_at old k).age = ap (λ (n : ℕ). (slice_index_or new.cards n fresh).age) slot ∙ made_age k in
      record {
        within = omega (arith, slot, low);
        even = omega (arith, age);
        aged = omega (arith, age, own);
        there = λ still. record {
          occupant = z;
          here = ap o slot ∙ there;
          below = ap (λ (t : Binding). is_below t z.instance) made.of.binding ∙ high;
          whole = λ whole. false_from_ne_true z.has_dead (λ (dead : z.has_dead ≡ true).
              let mourned : (card_at old k).age % 2 ≡ 1 = odd dead in
              omega (arith, mourned, age, own, whole));
          on = λ tight. subst (λ (n : ℕ). IsOn (slice_index_or new.cards n fresh) (list_at new made.place).letter) (sym slot)
              (subst (IsOn (card_at new k)) (sym made.of.letter) (subst (λ (c : Card). IsOn c e) (sym (made_card k)) (made.listed.here k has)));
        };
      }

  made_each : (p : ℕ) (x : Listed) → IsKept new p → Contains (list_at new p).entries x → IsEntry (None ≡ Some p) o new.cards (list_at new p) x
  made_each p x kept has = elim (cases_eq p made.place) [
    | inl is ↦
        let (k, among, same) = mapped_from made_entry slots x (subst (λ (l : List Listed). Contains l x) (ap (λ (n : ℕ). (list_at new n).entries) is ∙ made_entries) has) in
        subst (λ (n : ℕ). IsEntry (None ≡ Some n) o new.cards (list_at new n) x) (sym is) (made_one x k among same)
    | inr other ↦
        let same = made.others p other kept in
        let size : length old.cards ≤ length new.cards = subst (λ (cs : List Card). length old.cards ≤ length cs) (sym made.cards) made.listed.carded.size in
        entry_along (None ≡ Some p) o old.cards new.cards (list_at old p) (list_at new p) x size (made_age x.slot) (made_on x.slot (list_at old p).letter) (ap (λ (l : SlotList). l.letter) same) (ap (λ (l : SlotList). l.binding) same)
        (sound.each p x (made_back p other kept) (subst (λ (l : SlotList). Contains l.entries x) same has))
  ]

  made_apart : (p : ℕ) → IsKept new p → AllPairs (λ x y. x ≢ y) (list_at new p).entries
  made_apart p kept = elim (cases_eq p made.place) [
    | inl is ↦
        subst (AllPairs (λ x y. x ≢ y)) (sym (ap (λ (n : ℕ). (list_at new n).entries) is ∙ made_entries))
        (mapped_apart made_entry slots (λ j k same. entry_injective j k (card_at old j) (card_at old k) same) above.apart)
    | inr other ↦ subst (λ (l : SlotList). AllPairs (λ x y. x ≢ y) l.entries) (sym (made.others p other kept)) (sound.apart p (made_back p other kept))
  ]

  pub made_sound : AreSound o new
  made_sound = record {
    found = made.found sound.found;
    listed = λ p k x kept at below on. subst (Contains (list_at new p).entries) (sym (new_entry k)) (made_listed p k x kept at below on);
    each = made_each;
    apart = made_apart;
    blank = λ k letter free on. elim (made.listed.back k letter (subst (λ (c : Card). IsOn c letter) (made_card k) on)) [
      | inl was ↦ sound.blank k letter free was
      | inr (here, has) ↦ let (z, there, high, odd) = above.each k has in none-some z (sym free ∙ there)
    ];
  }

-- ---- lists that are kept still
pub still_same : (a : Lists) → AreStill None a a
still_same a = λ place kept. record { kept = kept; letter = refl; binding = refl; on = λ k other on. on }

pub still_trans : (a b c : Lists) → AreStill None a b → AreStill None b c → AreStill None a c
still_trans a b c one two = λ place kept.
    let second = two place kept in
    let first = one place second.kept in
    record {
      kept = first.kept;
      letter = second.letter ∙ first.letter;
      binding = second.binding ∙ first.binding;
      on = λ k other on. subst (IsOn (card_at c k)) first.letter (second.on k (λ none. none-some k none) (subst (IsOn (card_at b k)) (sym first.letter) (first.on k (λ none. none-some k none) on)));
    }

pub woken_still : (e slot : ℕ) (t : Binding) (old new : Lists) → IsWokenAt e slot t old new → AreStill None old new
woken_still e slot t old new woken = λ place kept. elim (woken.lists place kept) [
  | inl same ↦ record {
    kept = sym (ap (λ (l : SlotList). l.is_kept) same.0) ∙ kept;
    letter = ap (λ (l : SlotList). l.letter) same.0;
    binding = ap (λ (l : SlotList). l.binding) same.0;
    on = λ k other on. more k (list_at old place).letter on;
  }
  | inr (takes, added) ↦ record { kept = added.kept; letter = added.letter; binding = added.binding; on = λ k other on. more k (list_at old place).letter on }
]
  where
    more : (k letter : ℕ) → IsOn (card_at old k) letter → IsOn (card_at new k) letter
    more k letter on = elim (cases_eq k slot) [
      | inl here ↦ subst (λ (n : ℕ). IsOn (card_at new n) letter) (sym here) (elim (cases_eq letter e) [
        | inl same ↦ subst (IsOn (card_at new slot)) (sym same) woken.on
        | inr other ↦ woken.bits letter other ∙ subst (λ (n : ℕ). IsOn (card_at old n) letter) here on
      ])
      | inr other ↦ subst (λ (c : Card). IsOn c letter) (sym (woken.others k other)) on
    ]

-- ---- a loop over the letters in whose lists the slot is missing
pub record IsWaking (slot : ℕ) (t : Binding) (start : Lists) (wanted : ℕ) (now : Lists) (left : ℕ) : Type 0 where
  pub still : AreStill None start now
  pub sound : (q : Option ℕ) (o : Occupants) (x : Occupant) → o slot ≡ Some x → x.instance ≡ t → (x.has_dead ≡ true → IsMourned (card_at start slot))
      → ((place : ℕ) → q ≡ Some place → IsKept start place → bit_at wanted (list_at start place).letter ≡ 1 → ⊥) → AreSoundBut q o start → AreSoundBut q o now
  pub low : slot < length now.cards
  pub age : (card_at now slot).age ≡ (card_at start slot).age
  pub off : (e : ℕ) → bit_at left e ≡ 1 → IsOn (card_at now slot) e → ⊥
  pub here : (e : ℕ) → bit_at wanted e ≡ 1 → (bit_at left e ≡ 1) ⊎ IsOn (card_at now slot) e
  pub among : (e : ℕ) → bit_at left e ≡ 1 → bit_at wanted e ≡ 1
  pub on : (e : ℕ) → IsOn (card_at start slot) e → IsOn (card_at now slot) e

pub waking_start : (slot : ℕ) (t : Binding) (start : Lists) (wanted : ℕ) → slot < length start.cards → ((e : ℕ) → bit_at wanted e ≡ 1 → bit_at (card_at start slot).letters e ≡ 0) → IsWaking slot t start wanted start wanted
waking_start slot t start wanted low off = record {
  still = still_same start;
  sound = λ q o x at is mourned clear sound. sound;
  low = low;
  age = refl;
  off = λ e one on. let zero = off e one in omega (arith, zero, on);
  here = λ e one. inl one;
  among = λ e one. one;
  on = λ e on. on;
}

pub waking_more : (slot : ℕ) (t : Binding) (start : Lists) (wanted : ℕ) (now next : Lists) (left rest e : ℕ) → IsWaking slot t start wanted now left → IsWokenAt e slot t now next → bit_at left e ≡ 1
    → ((k : ℕ) → bit_at rest k ≡ 1 → (bit_at left k ≡ 1) × (k ≡ e → ⊥)) → ((k : ℕ) → (k ≡ e → ⊥) → bit_at left k ≡ 1 → bit_at rest k ≡ 1) → IsWaking slot t start wanted next rest
waking_more slot t start wanted now next left rest e waking woken one back kept = record {
  still = still_trans start now next waking.still (woken_still e slot t now next woken);
  sound = λ q o x at is mourned clear sound.
      woken_sound q o now next e slot t x woken at is
      (λ (dead : x.has_dead ≡ true). let odd : (card_at start slot).age % 2 ≡ 1 = mourned dead in let age = waking.age in omega (arith, odd, age))
      waking.low (waking.off e one)
      (λ place here kept' letter.
      let was = waking.still place kept' in
      clear place here was.kept (ap (bit_at wanted) (sym was.letter ∙ letter) ∙ waking.among e one))
      (waking.sound q o x at is mourned clear sound);
  low = let size = woken.size in let low = waking.low in omega (arith, size, low);
  age = woken.age ∙ waking.age;
  off = λ k here on.
      let parts = back k here in
      waking.off k parts.0 (sym (woken.bits k parts.1) ∙ on);
  here = λ k here. elim (cases_eq k e) [
    | inl same ↦ inr (subst (IsOn (card_at next slot)) (sym same) woken.on)
    | inr other ↦ elim (waking.here k here) [
      | inl there ↦ inl (kept k other there)
      | inr on ↦ inr (woken.bits k other ∙ on)
    ]
  ];
  among = λ k here. waking.among k (back k here).0;
  on = λ k was. elim (cases_eq k e) [
    | inl same ↦ subst (IsOn (card_at next slot)) (sym same) woken.on
    | inr other ↦ woken.bits k other ∙ waking.on k was
  ];
}

-- its end
pub waking_end : (slot : ℕ) (t : Binding) (resting : ℕ) (start : Lists) (wanted : ℕ) (now : Lists) → IsWaking slot t start wanted now 0 → ((e : ℕ) → bit_at wanted e ≡ 1 → bit_at resting e ≡ 0)
    → ((e : ℕ) → bit_at wanted e ≡ 1 → bit_at (card_at start slot).letters e ≡ 0)
    → ((e : ℕ) → bit_at start.letters e ≡ 1 → (bit_at resting e ≡ 1 → ⊥) → (bit_at wanted e ≡ 1) ⊎ IsOn (card_at start slot) e) → IsWoken slot t resting start now
waking_end slot t resting start wanted now waking awake off all = record {
  still = waking.still;
  sound = λ q o x at is mourned wakable sound. waking.sound q o x at is mourned
      (λ place here kept one. elim (wakable.clear place here kept) [
        | inl rests ↦ let zero = awake (list_at start place).letter one in omega (arith, rests, zero)
        | inr on ↦ let zero = off (list_at start place).letter one in omega (arith, on, zero)
      ])
      sound;
  awake = λ found place kept below rests.
      let was = waking.still place kept in
      let has = (found place was.kept).has_letter in
      let e = (list_at start place).letter in
      let on : IsOn (card_at now slot) e = elim (all e has (λ (there : bit_at resting e ≡ 1). rests (ap (bit_at resting) was.letter ∙ there))) [
        | inl wants ↦ elim (waking.here e wants) [
          | inl left ↦ absurd (none_left e left)
          | inr on ↦ on
        ]
        | inr on ↦ waking.on e on
      ] in
      subst (IsOn (card_at now slot)) (sym was.letter) on;
}

-- ---- a slot is woken
-- its card was mourned, if an object of its monitor is dead
pub record IsMidway (mid start : Lists) (slot : ℕ) (mourns : Bool) : Type 0 where
  pub carded : IsCarded mid start
  pub others : (k : ℕ) → (k ≡ slot → ⊥) → card_at start k ≡ card_at mid k
  pub aged : IsAged (card_at mid slot) (card_at start slot)
  pub mourned : mourns ≡ true → IsMourned (card_at start slot)

pub midway_same : (a : Lists) (slot : ℕ) (mourns : Bool) → mourns ≡ false → IsMidway a a slot mourns
midway_same a slot mourns not' = record {
  carded = record { lists = refl; rows = refl; letters = refl; masks = refl; size = omega arith };
  others = λ k other. refl;
  aged = record { letters = refl; half = refl; more = omega arith };
  mourned = λ is. absurd (false≢true (sym not' ∙ is));
}

module _ (old mid start new : Lists) (slot : ℕ) (t : Binding) (resting : ℕ) (mourns : Bool) (covered : IsCovered old mid) (midway : IsMidway mid start slot mourns) (woken : IsWoken slot t resting start new) where
  lists_still : (place : ℕ) → list_at start place ≡ list_at old place
  lists_still place = ap (λ (ls : List SlotList). slice_index_or ls place no_list) (midway.carded.lists ∙ covered.carded.lists)

  letters_still : (k e : ℕ) → IsOn (card_at old k) e → IsOn (card_at start k) e
  letters_still k e on = elim (cases_eq k slot) [
    | inl here ↦ subst (λ (n : ℕ). IsOn (card_at start n) e) (sym here)
        (ap (λ (n : ℕ). bit_at n e) midway.aged.letters ∙ subst (λ (c : Card). IsOn c e) (sym (covered.same slot)) (subst (λ (n : ℕ). IsOn (card_at old n) e) here on))
    | inr other ↦ subst (λ (c : Card). IsOn c e) (sym (midway.others k other ∙ covered.same k)) on
  ]

  pub wake_still : AreStill None old new
  wake_still = still_trans old start new (λ place kept. record {
    kept = sym (ap (λ (l : SlotList). l.is_kept) (lists_still place)) ∙ kept;
    letter = ap (λ (l : SlotList). l.letter) (lists_still place);
    binding = ap (λ (l : SlotList). l.binding) (lists_still place);
    on = λ k other on. letters_still k (list_at old place).letter on;
  }) woken.still

  pub wake_awake : AreFound old → IsAwake new slot t resting
  wake_awake found = woken.awake (λ place kept.
      found_along old start place (list_at old place) (list_at start place) (midway.carded.rows ∙ covered.carded.rows) (midway.carded.letters ∙ covered.carded.letters) (midway.carded.masks ∙ covered.carded.masks)
      (ap (λ (l : SlotList). l.letter) (lists_still place)) (ap (λ (l : SlotList). l.binding) (lists_still place)) (found place (sym (ap (λ (l : SlotList). l.is_kept) (lists_still place)) ∙ kept)))

  abbrev comer : Occupant
  comer = record { instance = t; has_dead = mourns }

  wakable_still : (q : Option ℕ) (o : Occupants) → IsWakable q o old slot t resting → IsWakable q (with_slot o slot (Some comer)) start slot t resting
  wakable_still q o wakable = record {
    here = λ x at. sym (ap (λ (y : Occupant). y.instance) (same_Some comer x (sym (with_here o slot (Some comer)) ∙ at)));
    clear = λ place here kept. elim (wakable.clear place here (sym (ap (λ (l : SlotList). l.is_kept) (lists_still place)) ∙ kept)) [
      | inl rests ↦ inl (ap (λ (l : SlotList). bit_at resting l.letter) (lists_still place) ∙ rests)
      | inr on ↦ inr (subst (λ (l : SlotList). IsOn (card_at start slot) l.letter) (sym (lists_still place)) (letters_still slot (list_at old place).letter on))
    ];
  }

  pub wake_sound : (q : Option ℕ) (o : Occupants) → IsWakable q o old slot t resting → AreSoundBut q o old → AreSoundBut q (with_slot o slot (Some comer)) new
  wake_sound q o wakable sound =
      woken.sound q (with_slot o slot (Some comer)) comer (with_here o slot (Some comer)) refl midway.mourned (wakable_still q o wakable)
      (came_sound q o mid start slot comer midway.carded midway.others midway.aged midway.mourned (λ x at. wakable.here x at) (covered_sound q o old mid covered sound))
