-- What who reads a list of sound lists knows.
use Rattle.std.proofs.Common.{◌≡◌, ◌≢◌, ℕ, ◌<◌, ◌/◌, true, List, Option, Some, length, sym, ap, ◌∙◌, arith}
use Rattle.std.specs.Prelude.{AllPairs, Contains, filter, slice_index_or, ◌==◌, nat_lt}
use Rattle.std.proofs.lemmas.Bool.{ltb-true, eqb-true, and_parts}
use Rattle.std.proofs.lemmas.List.{get_or-map, length-map}
use Rattle.std.proofs.lemmas.List.Elements.{Contains-get_or}
use Rattle.std.proofs.lemmas.List.Kept.{AllPairs-filter}
use Rattle.jm_model.specs.Bindings.{is_below}
use Rattle.jm_awake.specs.declared.card.Listed.{Listed}
use Rattle.jm_awake.specs.declared.card.Card.{Card}
use Rattle.jm_awake.specs.Awake.{Lists, fresh, list_at, card_at, IsOn, entry_of, is_there, slots_there, IsKept, Occupant, Occupants, IsOccupied, AreSoundBut}
use Rattle.jm_awake.proofs.ListLemmas.{filtered_from, filtered_in, filtered_passes}
use Rattle.jm_awake.proofs.SoundLemmas.{on_cards}

pub there_card : (cards : List Card) (x : Listed) → is_there cards x ≡ true → (x.slot < length cards) × ((slice_index_or cards x.slot fresh).age / 2 ≡ x.age / 2)
there_card cards x is =
    let parts = and_parts (nat_lt x.slot (length cards)) ((slice_index_or cards x.slot fresh).age / 2 == x.age / 2) is in
    (ltb-true x.slot (length cards) parts.0, eqb-true ((slice_index_or cards x.slot fresh).age / 2) (x.age / 2) parts.1)

pub listed_same : (x y : Listed) → x.slot ≡ y.slot → x.age ≡ y.age → x ≡ y
listed_same x y slot age =
    ap (λ (n : ℕ). (let z : Listed = record { slot = n; age = x.age } in z)) slot ∙ ap (λ (n : ℕ). (let z : Listed = record { slot = y.slot; age = n } in z)) age

module _ (q : Option ℕ) (o : Occupants) (a : Lists) (place : ℕ) (sound : AreSoundBut q o a) (kept : IsKept a place) where
  -- an entry that counts is of a monitor above the list's binding
  pub read_each : (x : Listed) → Contains (list_at a place).entries x → is_there a.cards x ≡ true → IsOccupied (q ≡ Some place) o a.cards (list_at a place) x
  read_each x has is = (sound.each place x kept has).there (sym (there_card a.cards x is).1)

  -- it has a card
  pub read_within : (x : Listed) → Contains (list_at a place).entries x → x.slot < length a.cards
  read_within x has = (sound.each place x kept has).within

  -- two of one slot are one
  one_each : (x y : Listed) → Contains (list_at a place).entries x → Contains (list_at a place).entries y → is_there a.cards x ≡ true → is_there a.cards y ≡ true → x.slot ≡ y.slot → x ≡ y
  one_each x y first second here there slot =
      let (low, one) = there_card a.cards x here in
      let (high, two) = there_card a.cards y there in
      let even = (sound.each place x kept first).even in
      let also = (sound.each place y kept second).even in
      let card = ap (λ (n : ℕ). (slice_index_or a.cards n fresh).age / 2) slot in
      listed_same x y slot (omega (arith, one, two, even, also, card))

  -- no slot is read twice
  pub read_apart : AllPairs (λ j k. j ≢ k) (slots_there a.cards (list_at a place).entries)
  read_apart i j d less low same =
      let xs = filter (is_there a.cards) (list_at a place).entries in
      let size = length-map xs (λ (x : Listed). x.slot) in
      let high : j < length xs = omega (arith, low, size) in
      let before : i < length xs = omega (arith, less, high) in
      let none : Listed = record { slot = 0; age = 0 } in
      let x = slice_index_or xs i none in
      let y = slice_index_or xs j none in
      let first = Contains-get_or xs i none before in
      let second = Contains-get_or xs j none high in
      let slots : x.slot ≡ y.slot = sym (get_or-map (λ (x : Listed). x.slot) xs i none d before) ∙ same ∙ get_or-map (λ (x : Listed). x.slot) xs j none d high in
      AllPairs-filter (λ u v. u ≢ v) (is_there a.cards) (list_at a place).entries (sound.apart place kept) i j none less high
      (one_each x y (filtered_from (is_there a.cards) (list_at a place).entries x first) (filtered_from (is_there a.cards) (list_at a place).entries y second)
      (filtered_passes (is_there a.cards) (list_at a place).entries x first) (filtered_passes (is_there a.cards) (list_at a place).entries y second) slots)

  -- a monitor above the binding is read, if its slot is in the lists of the letter
  pub read_all : (k : ℕ) (x : Occupant) → o k ≡ Some x → is_below (list_at a place).binding x.instance ≡ true → IsOn (card_at a k) (list_at a place).letter → Contains (slots_there a.cards (list_at a place).entries) k
  read_all k x at below on =
      let has = sound.listed place k x kept at below on in
      let low = (sound.each place (entry_of k (card_at a k)) kept has).within in
      let (i, within, is) = filtered_in (is_there a.cards) (list_at a place).entries (entry_of k (card_at a k)) has (on_cards a.cards k low) in
      let xs = filter (is_there a.cards) (list_at a place).entries in
      let size = length-map xs (λ (y : Listed). y.slot) in
      (i, omega (arith, within, size), get_or-map (λ (y : Listed). y.slot) xs i (entry_of k (card_at a k)) k within ∙ ap (λ (y : Listed). y.slot) is)
