-- Monitors that rest, or are in the lists, and lists that are sound for monitors that look the same.
use Rattle.std.proofs.Common.{◌≡◌, ℕ, ◌⊎◌, inl, inr, true, List, Option, Some, sym, ap, ◌∙◌, subst}
use Rattle.std.specs.Prelude.{Contains, AllPairs, ◌≢◌, slice_index_or}
use Rattle.std.specs.Int.{bit_at}
use Rattle.std.proofs.lemmas.Option.{none-some}
use Rattle.std.proofs.lemmas.Bool.{cases_eq}
use Rattle.jm_model.specs.Bindings.{is_below}
use Rattle.jm_model.specs.declared.binding.Binding.{Binding}
use Rattle.jm_awake.specs.declared.card.Card.{Card}
use Rattle.jm_awake.specs.Awake.{SlotList, Lists, fresh, list_at, card_at, entry_of, IsOn, IsKept, IsListOf, Occupant, Occupants, IsEntry, AreSoundBut, AreSound, AreStill, IsAwake, AreRested}
use Rattle.jm_awake.specs.Steps.{IsFewer}
use Rattle.jm_awake.proofs.SoundLemmas.{found_along}

-- monitors that look the same to the lists
pub sound_along : (q : Option ℕ) (o after : Occupants) (a : Lists) → ((k : ℕ) → after k ≡ o k) → AreSoundBut q o a → AreSoundBut q after a
sound_along q o after a same sound = record {
  found = sound.found;
  listed = λ place k x kept at below on. sound.listed place k x kept (sym (same k) ∙ at) below on;
  each = λ place x kept has.
      let entry = sound.each place x kept has in
      record {
        within = entry.within;
        even = entry.even;
        aged = entry.aged;
        there = λ there.
            let is = entry.there there in
            record { occupant = is.occupant; here = same x.slot ∙ is.here; below = is.below; whole = is.whole; on = is.on };
      };
  apart = sound.apart;
  blank = λ k e free on. sound.blank k e (sym (same k) ∙ free) on;
}

-- What is known of a slot's monitor after a step: it was there before, of this instance, and rests where it did; or it is
-- in the lists of each letter at which it doesn't rest.
pub record IsAsBefore (Rests After : ℕ → ℕ → Type 0) (but : Option ℕ) (o : Occupants) (k : ℕ) (x : Occupant) : Type 0 where
  pub not_left : but ≡ Some k → ⊥
  pub before : Occupant
  pub at : o k ≡ Some before
  pub instance : before.instance ≡ x.instance
  pub rests : (e : ℕ) → Rests k e → After k e

abbrev pub IsTold : (ℕ → ℕ → Type 0) → Lists → ℕ → Binding → Type 0
IsTold After a k t = (place : ℕ) → IsKept a place → is_below (list_at a place).binding t ≡ true → IsOn (card_at a k) (list_at a place).letter ⊎ After k (list_at a place).letter

pub rested_still : (Rests After : ℕ → ℕ → Type 0) (but : Option ℕ) (o after : Occupants) (old new : Lists) → AreStill but old new → AreRested Rests o old
    → ((k : ℕ) (x : Occupant) → after k ≡ Some x → IsAsBefore Rests After but o k x ⊎ IsTold After new k x.instance) → AreRested After after new
rested_still Rests After but o after old new still rested each place k x kept at below =
    elim (each k x at) [
      | inl same ↦
          let was = still place kept in
          let own : is_below (list_at old place).binding same.before.instance ≡ true = ap (λ (b : Binding). is_below b same.before.instance) (sym was.binding) ∙ ap (is_below (list_at new place).binding) same.instance ∙ below in
          elim (rested place k same.before was.kept same.at own) [
            | inl on ↦ inl (subst (IsOn (card_at new k)) (sym was.letter) (was.on k same.not_left on))
            | inr rests ↦ inr (subst (After k) (sym was.letter) (same.rests (list_at old place).letter rests))
          ]
      | inr told ↦ told place kept below
    ]

-- by what `wake` says of a slot
pub told_awake : (After : ℕ → ℕ → Type 0) (a : Lists) (k : ℕ) (t : Binding) (resting : ℕ) → IsAwake a k t resting → ((e : ℕ) → bit_at resting e ≡ 1 → After k e) → IsTold After a k t
told_awake After a k t resting awake rests place kept below = elim (cases_eq (bit_at resting (list_at a place).letter) 1) [
  | inl bit ↦ inr (rests (list_at a place).letter bit)
  | inr off ↦ inl (awake place kept below off)
]

-- a list may be loose
pub loosen : (q : Option ℕ) (o : Occupants) (a : Lists) → AreSound o a → AreSoundBut q o a
loosen q o a sound = record {
  found = sound.found;
  listed = sound.listed;
  each = λ place x kept has.
      let entry = sound.each place x kept has in
      record {
        within = entry.within;
        even = entry.even;
        aged = entry.aged;
        there = λ there.
            let is = entry.there there in
            record { occupant = is.occupant; here = is.here; below = is.below; whole = is.whole; on = λ tight. is.on (λ none. none-some place none) };
      };
  apart = sound.apart;
  blank = sound.blank;
}

-- fewer lists
pub fewer_still : (but : Option ℕ) (old new : Lists) → IsFewer old new → AreStill but old new
fewer_still but old new fewer = λ place kept.
    let same = fewer.each place kept in
    record {
      kept = sym (ap (λ (l : SlotList). l.is_kept) same) ∙ kept;
      letter = ap (λ (l : SlotList). l.letter) same;
      binding = ap (λ (l : SlotList). l.binding) same;
      on = λ k other on. subst (λ (cs : List Card). IsOn (slice_index_or cs k fresh) (list_at old place).letter) (sym fewer.cards) on;
    }

-- a list more, of all monitors above its binding
pub made_rested : (Rests : ℕ → ℕ → Type 0) (o : Occupants) (old new : Lists) (e : ℕ) (b : Binding) (slots : List ℕ) → AreRested Rests o old
    → ((place : ℕ) → IsKept new place → (list_at new place ≡ list_at old place) ⊎ IsListOf (list_at new place) e b) → ((k letter place : ℕ) → IsKept new place → IsOn (card_at old k) letter → IsOn (card_at new k) letter)
    → ((k place : ℕ) → IsKept new place → Contains slots k → IsOn (card_at new k) e) → ((k : ℕ) (x : Occupant) → o k ≡ Some x → is_below b x.instance ≡ true → Contains slots k) → AreRested Rests o new
made_rested Rests o old new e b slots rested lists on here all place k x kept at below = elim (lists place kept) [
  | inl same ↦
      let own : is_below (list_at old place).binding x.instance ≡ true = subst (λ (l : SlotList). is_below l.binding x.instance ≡ true) same below in
      elim (rested place k x (sym (ap (λ (l : SlotList). l.is_kept) same) ∙ kept) at own) [
        | inl was ↦ inl (subst (λ (l : SlotList). IsOn (card_at new k) l.letter) (sym same) (on k (list_at old place).letter place kept was))
        | inr rests ↦ inr (subst (λ (l : SlotList). Rests k l.letter) (sym same) rests)
      ]
  | inr of ↦ inl (subst (IsOn (card_at new k)) (sym of.letter) (here k place kept (all k x at (subst (λ (t : Binding). is_below t x.instance ≡ true) of.binding below))))
]

-- fewer lists are sound
pub fewer_sound : (q : Option ℕ) (o : Occupants) (old new : Lists) → IsFewer old new → AreSoundBut q o old → AreSoundBut q o new
fewer_sound q o old new fewer sound = record {
  found = λ place kept.
      let same = fewer.each place kept in
      found_along old new place (list_at old place) (list_at new place) fewer.rows fewer.letters fewer.masks (ap (λ (l : SlotList). l.letter) same) (ap (λ (l : SlotList). l.binding) same) (sound.found place (was place kept));
  listed = λ place k x kept at below on.
      let same = fewer.each place kept in
      let card : card_at new k ≡ card_at old k = ap (λ (cs : List Card). slice_index_or cs k fresh) fewer.cards in
      let old_below : is_below (list_at old place).binding x.instance ≡ true = subst (λ (l : SlotList). is_below l.binding x.instance ≡ true) same below in
      let old_on : IsOn (card_at old k) (list_at old place).letter = subst (λ (l : SlotList). IsOn (card_at old k) l.letter) same (subst (λ (d : Card). IsOn d (list_at new place).letter) card on) in
      subst (λ (l : SlotList). Contains l.entries (entry_of k (card_at new k))) (sym same)
      (subst (λ (d : Card). Contains (list_at old place).entries (entry_of k d)) (sym card) (sound.listed place k x (was place kept) at old_below old_on));
  each = λ place x kept has.
      let same = fewer.each place kept in
      let old_has : Contains (list_at old place).entries x = subst (λ (l : SlotList). Contains l.entries x) same has in
      subst (λ (l : SlotList). IsEntry (q ≡ Some place) o new.cards l x) (sym same)
      (subst (λ (cs : List Card). IsEntry (q ≡ Some place) o cs (list_at old place) x) (sym fewer.cards) (sound.each place x (was place kept) old_has));
  apart = λ place kept. subst (λ (l : SlotList). AllPairs (λ x y. x ≢ y) l.entries) (sym (fewer.each place kept)) (sound.apart place (was place kept));
  blank = λ k e free on. sound.blank k e free (subst (λ (cs : List Card). IsOn (slice_index_or cs k fresh) e) fewer.cards on);
}
  where
    was : (place : ℕ) → IsKept new place → IsKept old place
    was place kept = sym (ap (λ (l : SlotList). l.is_kept) (fewer.each place kept)) ∙ kept
