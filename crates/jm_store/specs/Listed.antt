-- What the lists of monitors tell of a store: whom an event may change, and who rests.
use Rattle.std.specs.Prelude.{ℕ, ◌≡◌, ◌⊎◌, Bool, true, false, List, Option, Some, None, Contains, ◌<◌, length}
use Rattle.jm_model.specs.Words.{Word}
use Rattle.jm_model.specs.Bindings.{is_below}
use Rattle.jm_model.specs.Meanings.{Meaning}
use Rattle.jm_model.specs.declared.binding.Binding.{Binding}
use Rattle.jm_awake.specs.declared.card.Listed.{Listed}
use Rattle.jm_awake.specs.Awake.{Lists, list_at, card_at, slots_there, is_there, IsOn, IsKept, IsListOf, Occupant, Occupants, with_slot, AreSoundBut, AreSound, AreRested}
use Rattle.jm_marks.specs.Marks.{dead_mask_of}
use Rattle.jm_monitors.specs.declared.stored.Stored.{Stored}
use Rattle.jm_monitors.specs.Steps.{IsResting, IsAliveState}
use Rattle.jm_store.specs.declared.moves.Move.{Move}
use Rattle.jm_store.specs.Slots.{monitor_at}
use Rattle.jm_store.specs.Moves.{IsAtRest}

-- a monitor of an instance, as the lists see it
abbrev pub occupant_for : Binding → Occupant
occupant_for t = record { instance = t; has_dead = false }

-- the monitors by slot, as the lists see them
abbrev pub occupant_of : {S : Type 0} → Option (Stored S) → Option Occupant
occupant_of None = None
occupant_of (Some s) = Some (occupant_for s.instance)

abbrev pub occupants_of : {S : Type 0} → List (Option (Stored S)) → Occupants
occupants_of monitors = λ k. occupant_of (monitor_at monitors k)

-- the slots of a list's entries that still count
abbrev pub slots_listed : Lists → ℕ → List ℕ
slots_listed lists place = slots_there lists.cards (list_at lists place).entries

module _ (m : Meaning) {S : Type 0} (Stands : S → Word → Type 0) (dead : List Bool) where
  -- the letter leaves the monitor as it is, if there is one, and no dead object cuts it
  abbrev pub RestsAt : ℕ → Option (Stored S) → Type 0
  RestsAt e None = ⊥
  RestsAt e (Some s) = IsResting m Stands e s.state × IsAliveState m Stands s.state (dead_mask_of dead s.instance)

  abbrev pub RestsIn : List (Option (Stored S)) → ℕ → ℕ → Type 0
  RestsIn monitors = λ k e. RestsAt e (monitor_at monitors k)

  -- The lists are sound for the monitors. Each monitor above the binding of a list is in the lists of its letter, or
  -- rests at it.
  pub record AreListedBut (loose : Option ℕ) (monitors : List (Option (Stored S))) (lists : Lists) : Type 0 where
    pub sound : AreSoundBut loose (occupants_of monitors) lists
    pub rested : AreRested (RestsIn monitors) (occupants_of monitors) lists

  abbrev pub AreListed : List (Option (Stored S)) → Lists → Type 0
  AreListed monitors lists = AreListedBut None monitors lists

  -- The binding is a mark, and the list at this place is that of its events with this letter; the lists tell of the
  -- monitors.
  pub record HasList (e : ℕ) (b : Binding) (marks : List Binding) (monitors : List (Option (Stored S)))
      (lists : Lists) (place : ℕ) : Type 0 where
    pub known : Contains marks b
    pub within : place < length lists.lists
    pub of_event : IsListOf (list_at lists place) e b
    pub listed : AreListed monitors lists

  -- lists that told of some monitors became lists that tell of others
  abbrev pub KeepListed : List (Option (Stored S)) → List (Option (Stored S)) → Lists → Lists → Type 0
  KeepListed before after old new = AreListed before old → AreListed after new

  -- the letter leaves each monitor above b as it is, but those of these slots, and no dead object cuts it
  abbrev pub AreOthersAtRest : ℕ → Binding → List ℕ → List (Option (Stored S)) → Type 0
  AreOthersAtRest e b slots monitors =
      (k : ℕ) (s : Stored S) → monitor_at monitors k ≡ Some s → is_below b s.instance ≡ true
      → Contains slots k ⊎ IsAtRest m Stands e b dead s

-- each of the slots has a monitor above b that the letter leaves as it is, and no dead object cuts it
abbrev pub AreAtRest : (m : Meaning) {S : Type 0} (Stands : S → Word → Type 0) → ℕ → Binding → List Bool → List ℕ
    → List (Option (Stored S)) → Type 0
AreAtRest m {S} Stands e b dead slots monitors =
    (k : ℕ) → Contains slots k → (s : Stored S) × (monitor_at monitors k ≡ Some s) × IsAtRest m Stands e b dead s

-- Lists that were sound for some monitors, without one in this slot or with this one, are so with this one.
abbrev pub Comes : Occupants → Lists → Lists → ℕ → Binding → Type 0
Comes o old new slot t =
    (o slot ≡ None) ⊎ (o slot ≡ Some (occupant_for t)) → AreSound o old
    → AreSound (with_slot o slot (Some (occupant_for t))) new

-- the slot, of a monitor of this instance, is in all lists whose bindings lie below it
abbrev pub IsInAll : Lists → ℕ → Binding → Type 0
IsInAll lists slot t =
    (place : ℕ) → IsKept lists place → is_below (list_at lists place).binding t ≡ true
    → IsOn (card_at lists slot) (list_at lists place).letter

-- the slot of a move is there, and has its monitor, or none
abbrev pub IsFor : {S : Type 0} → List (Option (Stored S)) → Move S → Type 0
IsFor {S} monitors move =
    (k : ℕ) → move.slot ≡ Some k
    → (k < length monitors) × ((s : Stored S) → monitor_at monitors k ≡ Some s → s.instance ≡ move.monitor.instance)

-- the lists stay, and the entries that counted are those that count
pub record KeepEntries (old new : Lists) : Type 0 where
  pub lists : new.lists ≡ old.lists
  pub there : (x : Listed) → is_there new.cards x ≡ is_there old.cards x

-- some of the monitors are left, each in its slot, and there are as many slots
pub record AreLeftOf {S : Type 0} (before after : List (Option (Stored S))) : Type 0 where
  pub size : length after ≡ length before
  pub each : (k : ℕ) (s : Stored S) → monitor_at after k ≡ Some s → monitor_at before k ≡ Some s
