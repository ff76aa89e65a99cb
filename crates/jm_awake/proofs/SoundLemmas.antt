-- Lists that stay sound.
use Rattle.std.proofs.Common.{◌≡◌, ◌≢◌, ℕ, ◌<◌, ◌≤◌, ◌+◌, ◌*◌, ◌/◌, inl, inr, true, List, [], Option, Some, None, length, refl, sym, ap, ◌∙◌, subst, arith}
use Rattle.std.specs.Prelude.{AllPairs, Contains, slice_index, slice_index_or, ◌==◌, nat_lt}
use Rattle.std.specs.Int.{bit_at}
use Rattle.std.proofs.lemmas.Bool.{cases_eq, cases_lt, eq-eqb, lt-ltb, and_from, false≢true}
use Rattle.std.proofs.lemmas.List.{get_or_past}
use Rattle.std.proofs.lemmas.Nat.Bits.{bit_at-zero}
use Rattle.jm_model.specs.Bindings.{is_below, mask_of}
use Rattle.jm_model.specs.declared.binding.Binding.{Binding}
use Rattle.jm_awake.specs.declared.card.Listed.{Listed}
use Rattle.jm_awake.specs.declared.card.Card.{Card}
use Rattle.jm_awake.specs.Awake.{SlotList, Lists, no_list, fresh, list_at, card_at, path_in, path_of, number_at, IsOn, IsThere, entry_of, is_there, IsKept, HasNone, Occupant, Occupants, IsFound, AreFound, IsOccupied, IsEntry, AreSoundBut, AreStill, IsAwake, AreRested}
use Rattle.jm_awake.specs.Steps.{IsCarded, IsCovered, Takes}
use Rattle.jm_awake.proofs.PathLemmas.{path_below}

-- ---- cards
pub half_of : (n : ℕ) → n / 2 * 2 / 2 ≡ n / 2
half_of n = omega arith

pub entry_same : (k : ℕ) (c d : Card) → d.age / 2 ≡ c.age / 2 → entry_of k d ≡ entry_of k c
entry_same k c d same = ap (λ (n : ℕ). (let x : Listed = record { slot = k; age = n * 2 } in x)) same

pub on_cards : (cards : List Card) (k : ℕ) → k < length cards → is_there cards (entry_of k (slice_index_or cards k fresh)) ≡ true
on_cards cards k low =
    let age = (slice_index_or cards k fresh).age in
    and_from (nat_lt k (length cards)) (age / 2 == age / 2 * 2 / 2) (lt-ltb k (length cards) low) (eq-eqb (age / 2) (age / 2 * 2 / 2) (sym (half_of age)))

-- ---- lists by place
pub kept_within : (a : Lists) (place : ℕ) → IsKept a place → place < length a.lists
kept_within a place kept = elim (cases_lt place (length a.lists)) [
  | inl low ↦ low
  | inr high ↦ absurd (false≢true (sym (ap (λ (l : SlotList). l.is_kept) (get_or_past a.lists place no_list high)) ∙ kept))
]

-- the place of a list that takes an instance
pub taking_number : (a : Lists) (place e : ℕ) (t : Binding) → AreFound a → IsKept a place → Takes a e t place → number_at a.rows e (path_in t (slice_index a.masks e)) ≡ place + 1
taking_number a place e t found kept takes =
    let here = found place kept in
    let l = list_at a place in
    let mask : slice_index a.masks e ≡ mask_of l.binding = sym (ap (slice_index a.masks) takes.letter) ∙ here.mask in
    let path : path_in t (slice_index a.masks e) ≡ path_of l.binding = ap (path_in t) mask ∙ path_below l.binding t takes.below in
    ap (number_at a.rows e) path ∙ sym (ap (λ (n : ℕ). number_at a.rows n (path_of l.binding)) takes.letter) ∙ here.number

-- one list of a letter takes an instance
pub same_place : (a : Lists) (p q e : ℕ) (t : Binding) → AreFound a → IsKept a p → IsKept a q → Takes a e t p → Takes a e t q → p ≡ q
same_place a p q e t found here there one two =
    let first = taking_number a p e t found here one in
    let second = taking_number a q e t found there two in
    omega (arith, first, second)

-- ---- what is found, where lists keep their letter and binding
pub found_along : (old new : Lists) (place : ℕ) (l m : SlotList) → new.rows ≡ old.rows → new.letters ≡ old.letters → new.masks ≡ old.masks → m.letter ≡ l.letter → m.binding ≡ l.binding → IsFound old place l → IsFound new place m
found_along old new place l m rows letters masks letter binding here = record {
  low = subst (λ (n : ℕ). n < 32) (sym letter) here.low;
  number = ap (λ (r : List (List ℕ)). number_at r m.letter (path_of m.binding)) rows ∙ ap (λ (n : ℕ). number_at old.rows n (path_of m.binding)) letter ∙ ap (λ (b : Binding). number_at old.rows l.letter (path_of b)) binding ∙ here.number;
  mask = ap (λ (r : List ℕ). slice_index r m.letter) masks ∙ ap (slice_index old.masks) letter ∙ here.mask ∙ sym (ap mask_of binding);
  has_letter = ap (λ (n : ℕ). bit_at n m.letter) letters ∙ ap (bit_at old.letters) letter ∙ here.has_letter;
}

-- ---- an entry, where its card keeps its age and its letters
pub entry_along : (loose : Type 0) (o : Occupants) (cards more : List Card) (l m : SlotList) (x : Listed) → length cards ≤ length more → (slice_index_or more x.slot fresh).age ≡ (slice_index_or cards x.slot fresh).age
    → (IsOn (slice_index_or cards x.slot fresh) l.letter → IsOn (slice_index_or more x.slot fresh) l.letter) → m.letter ≡ l.letter → m.binding ≡ l.binding → IsEntry loose o cards l x → IsEntry loose o more m x
entry_along loose o cards more l m x size age on letter binding entry = record {
  within = omega (arith, size, entry.within);
  even = entry.even;
  aged = omega (arith, age, entry.aged);
  there = λ there.
      let is = entry.there (there ∙ ap (λ (n : ℕ). n / 2) age) in
      record {
        occupant = is.occupant;
        here = is.here;
        below = ap (λ (b : Binding). is_below b is.occupant.instance) binding ∙ is.below;
        whole = λ whole. is.whole (whole ∙ age);
        on = λ tight. subst (IsOn (slice_index_or more x.slot fresh)) (sym letter) (on (is.on tight));
      };
}

-- ---- no lists
none_at : (a : Lists) (place : ℕ) → HasNone a → IsKept a place → ⊥
none_at a place none kept = false≢true (sym (ap (λ (ls : List SlotList). (slice_index_or ls place no_list).is_kept) none.lists ∙ ap (λ (l : SlotList). l.is_kept) (get_or_past {X = SlotList} [] place no_list (omega arith))) ∙ kept)

no_card : (a : Lists) (k e : ℕ) → HasNone a → IsOn (card_at a k) e → ⊥
no_card a k e none on =
    let card : card_at a k ≡ fresh = ap (λ (cs : List Card). slice_index_or cs k fresh) none.cards ∙ get_or_past {X = Card} [] k fresh (omega arith) in
    let off = bit_at-zero e in
    let zero : bit_at (card_at a k).letters e ≡ 0 = ap (λ (c : Card). bit_at c.letters e) card ∙ off in
    omega (arith, zero, on)

pub none_sound : (q : Option ℕ) (o : Occupants) (a : Lists) → HasNone a → AreSoundBut q o a
none_sound q o a none = record {
  found = λ place kept. absurd (none_at a place none kept);
  listed = λ place k x kept. absurd (none_at a place none kept);
  each = λ place x kept. absurd (none_at a place none kept);
  apart = λ place kept. absurd (none_at a place none kept);
  blank = λ k e free on. no_card a k e none on;
}

pub none_still : (but : Option ℕ) (old a : Lists) → HasNone a → AreStill but old a
none_still but old a none place kept = absurd (none_at a place none kept)

pub none_awake : (a : Lists) (slot : ℕ) (t : Binding) (resting : ℕ) → HasNone a → IsAwake a slot t resting
none_awake a slot t resting none place kept = absurd (none_at a place none kept)

pub none_rested : (Rests : ℕ → ℕ → Type 0) (o : Occupants) (a : Lists) → HasNone a → AreRested Rests o a
none_rested Rests o a none place k x kept = absurd (none_at a place none kept)

-- ---- one card changes
pub kept_back : (old new : Lists) (place : ℕ) → new.lists ≡ old.lists → IsKept new place → IsKept old place
kept_back old new place same kept = sym (ap (λ (ls : List SlotList). (slice_index_or ls place no_list).is_kept) same) ∙ kept

list_same : (old new : Lists) (place : ℕ) → new.lists ≡ old.lists → list_at new place ≡ list_at old place
list_same old new place same = ap (λ (ls : List SlotList). slice_index_or ls place no_list) same

-- what becomes of the slot and its monitor
pub record IsStepped (q : Option ℕ) (after : Occupants) (old : Lists) (slot : ℕ) (cards : List Card) : Type 0 where
  pub aged : (card_at old slot).age ≤ (slice_index_or cards slot fresh).age
  pub listed : (place : ℕ) (x : Occupant) → IsKept old place → after slot ≡ Some x → is_below (list_at old place).binding x.instance ≡ true → IsOn (slice_index_or cards slot fresh) (list_at old place).letter
      → Contains (list_at old place).entries (entry_of slot (slice_index_or cards slot fresh))
  pub there : (place : ℕ) (x : Listed) → IsKept old place → Contains (list_at old place).entries x → x.slot ≡ slot → IsThere (slice_index_or cards x.slot fresh) x → IsOccupied (q ≡ Some place) after cards (list_at old place) x
  pub blank : (e : ℕ) → after slot ≡ None → IsOn (slice_index_or cards slot fresh) e → ⊥

pub stepped_sound : (q : Option ℕ) (o after : Occupants) (old new : Lists) (slot : ℕ) → IsCarded old new → ((k : ℕ) → (k ≡ slot → ⊥) → (card_at new k ≡ card_at old k) × (after k ≡ o k)) → IsStepped q after old slot new.cards
    → AreSoundBut q o old → AreSoundBut q after new
stepped_sound q o after old new slot carded others step sound = record {
  found = λ place kept.
      found_along old new place (list_at old place) (list_at new place) carded.rows carded.letters carded.masks
      (ap (λ (l : SlotList). l.letter) (same place)) (ap (λ (l : SlotList). l.binding) (same place)) (sound.found place (back place kept));
  listed = λ place k x kept at below on.
      let own : is_below (list_at old place).binding x.instance ≡ true = subst (λ (l : SlotList). is_below l.binding x.instance ≡ true) (same place) below in
      let lit : IsOn (card_at new k) (list_at old place).letter = subst (λ (l : SlotList). IsOn (card_at new k) l.letter) (same place) on in
      subst (λ (l : SlotList). Contains l.entries (entry_of k (card_at new k))) (sym (same place)) (in_list place k x (back place kept) at own lit);
  each = λ place x kept has.
      subst (λ (l : SlotList). IsEntry (q ≡ Some place) after new.cards l x) (sym (same place))
      (of_list place x (back place kept) (subst (λ (l : SlotList). Contains l.entries x) (same place) has));
  apart = λ place kept. subst (λ (l : SlotList). AllPairs (λ x y. x ≢ y) l.entries) (sym (same place)) (sound.apart place (back place kept));
  blank = λ k e free on. elim (cases_eq k slot) [
    | inl is ↦ step.blank e (sym (ap after is) ∙ free) (subst (λ (n : ℕ). IsOn (card_at new n) e) is on)
    | inr other ↦ sound.blank k e (sym (others k other).1 ∙ free) (subst (λ (c : Card). IsOn c e) (others k other).0 on)
  ];
}
  where
    same : (place : ℕ) → list_at new place ≡ list_at old place
    same place = list_same old new place carded.lists

    back : (place : ℕ) → IsKept new place → IsKept old place
    back place kept = kept_back old new place carded.lists kept

    in_list : (place k : ℕ) (x : Occupant) → IsKept old place → after k ≡ Some x → is_below (list_at old place).binding x.instance ≡ true → IsOn (card_at new k) (list_at old place).letter
        → Contains (list_at old place).entries (entry_of k (card_at new k))
    in_list place k x kept at below on = elim (cases_eq k slot) [
      | inl is ↦
          subst (λ (n : ℕ). Contains (list_at old place).entries (entry_of n (card_at new n))) (sym is)
          (step.listed place x kept (sym (ap after is) ∙ at) below (subst (λ (n : ℕ). IsOn (card_at new n) (list_at old place).letter) is on))
      | inr other ↦
          subst (λ (c : Card). Contains (list_at old place).entries (entry_of k c)) (sym (others k other).0)
          (sound.listed place k x kept (sym (others k other).1 ∙ at) below (subst (λ (c : Card). IsOn c (list_at old place).letter) (others k other).0 on))
    ]

    moved : (place : ℕ) (x : Listed) → (x.slot ≡ slot → ⊥) → IsOccupied (q ≡ Some place) o old.cards (list_at old place) x → IsOccupied (q ≡ Some place) after new.cards (list_at old place) x
    moved place x other is = record {
      occupant = is.occupant;
      here = (others x.slot other).1 ∙ is.here;
      below = is.below;
      whole = λ whole. is.whole (whole ∙ ap (λ (c : Card). c.age) (others x.slot other).0);
      on = λ tight. subst (λ (c : Card). IsOn c (list_at old place).letter) (sym (others x.slot other).0) (is.on tight);
    }

    age_up : (k : ℕ) → (card_at old k).age ≤ (card_at new k).age
    age_up k = elim (cases_eq k slot) [
      | inl is ↦ subst (λ (n : ℕ). (card_at old n).age ≤ (card_at new n).age) (sym is) step.aged
      | inr other ↦ let age = ap (λ (c : Card). c.age) (others k other).0 in omega (arith, age)
    ]

    of_list : (place : ℕ) (x : Listed) → IsKept old place → Contains (list_at old place).entries x → IsEntry (q ≡ Some place) after new.cards (list_at old place) x
    of_list place x kept has =
        let entry = sound.each place x kept has in
        let size = carded.size in
        let within = entry.within in
        let old_age = entry.aged in
        let up = age_up x.slot in
        record {
          within = omega (arith, within, size);
          even = entry.even;
          aged = omega (arith, old_age, up);
          there = λ there. elim (cases_eq x.slot slot) [
            | inl is ↦ step.there place x kept has is there
            | inr other ↦ moved place x other (entry.there (there ∙ ap (λ (c : Card). c.age / 2) (others x.slot other).0))
          ];
        }

-- more cards, of slots that are in no list
pub covered_sound : (q : Option ℕ) (o : Occupants) (old new : Lists) → IsCovered old new → AreSoundBut q o old → AreSoundBut q o new
covered_sound q o old new covered sound =
    stepped_sound q o o old new (length new.cards) covered.carded (λ k other. (covered.same k, refl))
    (record {
      aged = let age = ap (λ (c : Card). c.age) (covered.same (length new.cards)) in omega (arith, age);
      listed = λ place x kept at below on.
          subst (λ (c : Card). Contains (list_at old place).entries (entry_of (length new.cards) c)) (sym (covered.same (length new.cards)))
          (sound.listed place (length new.cards) x kept at below (subst (λ (c : Card). IsOn c (list_at old place).letter) (covered.same (length new.cards)) on));
      there = λ place x kept has is there.
          let size = covered.carded.size in
          let within = (sound.each place x kept has).within in
          absurd (omega (arith, size, within, is));
      blank = λ e free on. sound.blank (length new.cards) e free (subst (λ (c : Card). IsOn c e) (covered.same (length new.cards)) on);
    })
    sound
