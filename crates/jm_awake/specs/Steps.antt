-- What the parts of a call do to the lists and the cards.
use Rattle.std.specs.Prelude.{ℕ, ◌≡◌, ◌+◌, ◌/◌, ◌<◌, ◌≤◌, ◌⊎◌, true, List, [], Contains, length, map, slice_index_or, Option, Some, None}
use Rattle.std.specs.Int.{bit_at}
use Rattle.jm_model.specs.Bindings.{is_below}
use Rattle.jm_model.specs.declared.binding.Binding.{Binding}
use Rattle.jm_awake.specs.declared.card.Listed.{Listed}
use Rattle.jm_awake.specs.declared.card.Card.{Card}
use Rattle.jm_awake.specs.Awake.{Lists, list_at, card_at, number_at, entry_of, IsOn, IsKept, IsListOf, AreFound, IsMourned, Occupant, Occupants, AreSoundBut, AreStill, IsWakable, IsAwake}
use Rattle.jm_awake.specs.Added.{IsAddedTo}

-- all but the cards is the same
pub record IsCarded (old new : Lists) : Type 0 where
  pub lists : new.lists ≡ old.lists
  pub rows : new.rows ≡ old.rows
  pub letters : new.letters ≡ old.letters
  pub masks : new.masks ≡ old.masks
  pub size : length old.cards ≤ length new.cards

-- there is room for a number under a letter and a path
abbrev pub HasRoom : List (List ℕ) → ℕ → ℕ → Type 0
HasRoom rows letter path = path < length (slice_index_or rows letter [])

-- the card keeps its letters, and its age but for the last bit, which may have been set
pub record IsAged (old new : Card) : Type 0 where
  pub letters : new.letters ≡ old.letters
  pub half : new.age / 2 ≡ old.age / 2
  pub more : old.age ≤ new.age

-- the slot is in the lists of a letter no more, and in those of the others as it was
pub record IsUnlisted (e : ℕ) (old new : Card) : Type 0 where
  pub age : new.age ≡ old.age
  pub off : bit_at new.letters e ≡ 0
  pub back : (other : ℕ) → IsOn new other → IsOn old other
  pub kept : (other : ℕ) → (other ≡ e → ⊥) → IsOn old other → IsOn new other
  pub bits : (other : ℕ) → other < 32 → (other ≡ e → ⊥) → bit_at new.letters other ≡ bit_at old.letters other

-- there are more cards, of slots that are in no list
pub record IsCovered (old new : Lists) : Type 0 where
  pub carded : IsCarded old new
  pub same : (k : ℕ) → card_at new k ≡ card_at old k

-- fewer lists are kept, and nothing else changed
pub record IsFewer (old new : Lists) : Type 0 where
  pub rows : new.rows ≡ old.rows
  pub cards : new.cards ≡ old.cards
  pub letters : new.letters ≡ old.letters
  pub masks : new.masks ≡ old.masks
  pub each : (place : ℕ) → IsKept new place → list_at new place ≡ list_at old place

-- the list at a place is of the letter, and its binding lies below the instance
pub record Takes (a : Lists) (e : ℕ) (instance : Binding) (place : ℕ) : Type 0 where
  pub letter : (list_at a place).letter ≡ e
  pub below : is_below (list_at a place).binding instance ≡ true

-- The slot, of a monitor of this instance, was put into the lists of a letter: the one that takes it, if it is kept,
-- has the slot. Another list that is kept is as it was.
pub record IsWokenAt (e slot : ℕ) (instance : Binding) (old new : Lists) : Type 0 where
  pub rows : new.rows ≡ old.rows
  pub letters : new.letters ≡ old.letters
  pub masks : new.masks ≡ old.masks
  pub size : length new.cards ≡ length old.cards
  pub age : (card_at new slot).age ≡ (card_at old slot).age
  pub on : IsOn (card_at new slot) e
  pub bits : (other : ℕ) → (other ≡ e → ⊥)
      → bit_at (card_at new slot).letters other ≡ bit_at (card_at old slot).letters other
  pub others : (k : ℕ) → (k ≡ slot → ⊥) → card_at new k ≡ card_at old k
  pub lists : (place : ℕ) → IsKept new place
      → ((list_at new place ≡ list_at old place) × (AreFound old → Takes old e instance place → ⊥))
      ⊎ (Takes old e instance place
      × IsAddedTo new.cards (entry_of slot (card_at old slot)) (list_at old place) (list_at new place))

-- The slot, of a monitor of this instance, was put into the lists of all letters at which the monitor doesn't rest.
pub record IsWoken (slot : ℕ) (instance : Binding) (resting : ℕ) (old new : Lists) : Type 0 where
  pub still : AreStill None old new
  pub sound : (q : Option ℕ) (o : Occupants) (x : Occupant) → o slot ≡ Some x → x.instance ≡ instance
      → (x.has_dead ≡ true → IsMourned (card_at old slot)) → IsWakable q o old slot instance resting
      → AreSoundBut q o old → AreSoundBut q o new
  pub awake : AreFound old → IsAwake new slot instance resting

-- the slot was put into the lists of a letter, and this is what a list has of it
pub record IsListedAt (e slot : ℕ) (entry : Listed) (old new : Lists) : Type 0 where
  pub carded : IsCarded old new
  pub has : entry ≡ entry_of slot (card_at old slot)
  pub within : slot < length new.cards
  pub ages : (k : ℕ) → (card_at new k).age ≡ (card_at old k).age
  pub here : IsOn (card_at new slot) e
  pub bits : (k other : ℕ) → IsOn (card_at old k) other → IsOn (card_at new k) other
  pub back : (k other : ℕ) → IsOn (card_at new k) other → IsOn (card_at old k) other ⊎ ((other ≡ e) × (k ≡ slot))

-- slots were put into the lists of a letter, and these are what a list has of them
pub record AreListedIn (e : ℕ) (slots : List ℕ) (entries : List Listed) (old new : Lists) : Type 0 where
  pub carded : IsCarded old new
  pub has : entries ≡ map (λ k. entry_of k (card_at old k)) slots
  pub within : (k : ℕ) → Contains slots k → k < length new.cards
  pub ages : (k : ℕ) → (card_at new k).age ≡ (card_at old k).age
  pub here : (k : ℕ) → Contains slots k → IsOn (card_at new k) e
  pub bits : (k other : ℕ) → IsOn (card_at old k) other → IsOn (card_at new k) other
  pub back : (k other : ℕ) → IsOn (card_at new k) other
      → IsOn (card_at old k) other ⊎ ((other ≡ e) × Contains slots k)

-- there is a place for a letter and a path; what led to a list does so still
pub record IsPlaceMade (e path : ℕ) (old new : Lists) (place : ℕ) : Type 0 where
  pub within : place < length new.lists
  pub number : number_at new.rows e path ≡ place + 1
  pub cards : new.cards ≡ old.cards
  pub letters : new.letters ≡ old.letters
  pub masks : new.masks ≡ old.masks
  pub lists : (p : ℕ) → IsKept new p → list_at new p ≡ list_at old p
  pub rows : (other q p : ℕ) → p < length old.lists → number_at old.rows other q ≡ p + 1
      → number_at new.rows other q ≡ p + 1

-- a list of the letter and the binding was made, of these slots; each other one that is kept is as it was
pub record IsMade (e : ℕ) (b : Binding) (slots : List ℕ) (old new : Lists) : Type 0 where
  pub place : ℕ
  pub entries : List Listed
  pub mid : Lists
  pub listed : AreListedIn e slots entries old mid
  pub cards : new.cards ≡ mid.cards
  pub of : IsListOf (list_at new place) e b
  pub has : (list_at new place).entries ≡ entries
  pub others : (p : ℕ) → (p ≡ place → ⊥) → IsKept new p → list_at new p ≡ list_at old p
  pub found : AreFound old → AreFound new
