-- How the monitors of a list are read, where their numbers tell what the event makes of them, and how those that it
-- changes get other numbers.
use Rattle.std.specs.Prelude.{ℕ, ◌≡◌, ◌≢◌, ◌<◌, ◌↔◌, IsTrue, Bool, true, false, List, Option, Some, None, Contains, length, slice_get, slice_index_or, slice_set}
use Rattle.std.specs.Int.{bit_at}
use Rattle.jm_model.specs.Words.{Mask, Word}
use Rattle.jm_model.specs.Bindings.{is_below, mask_of, object_at}
use Rattle.jm_model.specs.Meanings.{Meaning}
use Rattle.jm_model.specs.Numbers.{no_number, at_rest, IsPlainMove, IsAtRest as RestsBy, AreEnds}
use Rattle.jm_model.specs.declared.binding.Binding.{Binding}
use Rattle.jm_awake.specs.declared.card.Card.{Card}
use Rattle.jm_awake.specs.declared.card.Listed.{Listed}
use Rattle.jm_awake.specs.Awake.{Lists, card_at, is_there, IsOn}
use Rattle.jm_marks.specs.Marks.{dead_mask_of, is_dead_object}
use Rattle.jm_monitors.specs.declared.stored.Stored.{Stored}
use Rattle.jm_monitors.specs.Steps.{IsOverAfter}
use Rattle.jm_store.specs.declared.walk.Shift.{Shift}
use Rattle.jm_store.specs.declared.walk.Turn.{Turn}
use Rattle.jm_store.specs.declared.walk.Asked.{Asked}
use Rattle.jm_store.specs.declared.walk.Told.{Told}
use Rattle.jm_store.specs.declared.walk.Told.TheVariants.{Shifts, Rests, Nothing}
use Rattle.jm_store.specs.declared.monitors.Slot.{Slot}
use Rattle.jm_store.specs.declared.monitors.Slot.TheVariants.{Free, Planned, Taken}
use Rattle.jm_store.specs.Slots.{slot_at, monitor_at}
use Rattle.jm_store.specs.Moves.{IsAtRest, ends_all}

-- an instance above b binds dead objects to parameters of this set alone
abbrev pub AreAliveBut : List Bool → Binding → Mask → Type 0
AreAliveBut dead b params =
    (t : Binding) (p o : ℕ) → p < 8 → is_below b t ≡ true → object_at t p ≡ Some o → (bit_at params p ≡ 1 → ⊥)
    → is_dead_object dead o ≡ false

-- What is asked of a monitor above b that gets a shift: that its slot is in the lists of all letters that have some but
-- the event's, and that its objects are alive at all parameters at which one may be dead.
pub record AsksAll (dead : List Bool) (b : Binding) (letter : ℕ) (letters : Mask) (asked : Asked) : Type 0 where
  pub free : AreAliveBut dead b asked.params
  pub others : (e : ℕ) → bit_at letters e ≡ 1 → (e ≡ letter → ⊥) → bit_at asked.letters e ≡ 1

-- each of the letters is among those that a row has at a number
abbrev pub EndsAll : Mask → List Mask → ℕ → Type 0
EndsAll letters row number =
    (e : ℕ) → bit_at letters e ≡ 1 → (mask : Mask) × (slice_get row number ≡ Some mask) × (bit_at mask e ≡ 1)

-- letters that end all monitors of a set of parameters are among these
abbrev pub AreAmong : List Mask → Mask → Mask → Type 0
AreAmong ending domain letters = (e : ℕ) → ends_all ending e domain ≡ true → bit_at letters e ≡ 1

-- each of them is among those that a row has at a number
abbrev pub EndsLike : List Mask → Mask → List Mask → ℕ → Type 0
EndsLike ending domain row number =
    (e : ℕ) → ends_all ending e domain ≡ true → (mask : Mask) × (slice_get row number ≡ Some mask) × (bit_at mask e ≡ 1)

-- how many numbers of states there are at most: a number takes two bytes
abbrev pub most_numbers : ℕ
most_numbers = 65536

-- no move was noted
abbrev pub no_turn : Turn
no_turn = record { from = 4294967295; to = no_number }

-- The letter leads from the one number to the other by a row, and each of the letters that end others ends the states
-- with that one, unless no move was noted.
abbrev pub IsTurn : List ℕ → Mask → List Mask → Turn → Type 0
IsTurn plain ends endings turn =
    turn.from < most_numbers → (slice_get plain turn.from ≡ Some turn.to) × (turn.to < at_rest) × EndsAll ends endings turn.to

-- and so it is with all of these
abbrev pub AreTurns : List ℕ → Mask → List Mask → List Turn → Type 0
AreTurns plain ends endings turns = (k : ℕ) → IsTurn plain ends endings (slice_index_or turns k no_turn)

module _ (m : Meaning) {S : Type 0} (Stands : S → Word → Type 0) (HasNumber : S → ℕ → Type 0) (letter : ℕ) where
  -- The rows tell by the number of a state what the letter makes of it, and which letters end an instance of it.
  pub record AreRows (plain : List ℕ) (endings : List Mask) : Type 0 where
    pub moves : (k n : ℕ) → slice_get plain k ≡ Some n → n ≢ no_number → n ≢ at_rest → (before after : S)
        → HasNumber before k → HasNumber after n → IsPlainMove S m Stands letter before after
    pub rests : (k : ℕ) → slice_get plain k ≡ Some at_rest → (state : S) → HasNumber state k
        → RestsBy S m Stands letter state
    pub ends : (k mask : ℕ) → slice_get endings k ≡ Some mask → (state : S) → HasNumber state k
        → AreEnds S m Stands mask state

  -- What a walk looks up is right: the rows are those of the letter, which is one of the specification's, and it is
  -- known whether the event's binding is a mark.
  pub record CanWalk (plain : List ℕ) (endings : List Mask) (known : Bool) (marks : List Binding)
      (b : Binding) : Type 0 where
    pub rows : AreRows plain endings
    pub low : letter < m.letters
    pub marked : IsTrue known ↔ Contains marks b

  module _ (dead : List Bool) where
    -- The letter moves the monitor, whose state has a number and of which nothing is dead, to each state with the other
    -- number.
    pub record IsPlainFor (base : Stored S) (number : ℕ) : Type 0 where
      pub before : ℕ
      pub has : HasNumber base.state before
      pub low : number < most_numbers
      pub whole : dead_mask_of dead base.instance ≡ 0
      pub moves : (after : S) → HasNumber after number → IsPlainMove S m Stands letter base.state after

  module _ (dead : List Bool) (b : Binding) (ending : List Mask) where
    -- The event moves the monitor of a slot with this card, above b, whose state has a number, to each state with the
    -- other number, and that is all: nothing of the monitor is dead, its slot is in the lists of all letters that have
    -- some, and the letters that end all monitors with its parameters end each such state.
    pub record IsShifting (letters : Mask) (card : Card) (base : Stored S) (number : ℕ) : Type 0 where
      pub before : ℕ
      pub has : HasNumber base.state before
      pub low : number < most_numbers
      pub below : is_below b base.instance ≡ true
      pub whole : dead_mask_of dead base.instance ≡ 0
      pub moves : (after : S) → HasNumber after number → IsPlainMove S m Stands letter base.state after
      pub on : (e : ℕ) → bit_at letters e ≡ 1 → IsOn card e
      pub over : (after : S) → HasNumber after number → (e : ℕ) → ends_all ending e (mask_of base.instance) ≡ true
          → IsOverAfter m Stands e after 0

    -- what the number of a monitor's state tells, by the card of its slot
    abbrev pub IsToldByNumber : Mask → Card → Stored S → Told → Type 0
    IsToldByNumber letters card base (Shifts number) = IsShifting letters card base number
    IsToldByNumber letters card base Rests = IsAtRest m Stands letter b dead base
    IsToldByNumber letters card base Nothing = Unit {0}

    -- what the event makes of the monitor of a slot: another number, or nothing, since the monitor rests
    abbrev pub IsShiftIn : Lists → ℕ → Option (Stored S) → Option Shift → Type 0
    IsShiftIn lists k monitor None = (s : Stored S) × (monitor ≡ Some s) × IsAtRest m Stands letter b dead s
    IsShiftIn lists k monitor (Some shift) =
        (s : Stored S) × (monitor ≡ Some s) × (shift.slot ≡ k)
        × IsShifting lists.letters (card_at lists k) s shift.number

    abbrev pub IsShiftAt : Lists → List (Option (Stored S)) → ℕ → Option Shift → Type 0
    IsShiftAt lists monitors k shift = IsShiftIn lists k (monitor_at monitors k) shift

-- Each of the entries has a card. One that still counts is in the lists of the letter, and of a monitor above b, and
-- letters that end all monitors with its parameters are among some.
abbrev pub AreReadable : {S : Type 0} → Binding → ℕ → List Mask → Mask → Lists → List (Option (Stored S)) → List Listed
    → Type 0
AreReadable {S} b letter ending ends lists monitors entries =
    (x : Listed) → Contains entries x → (x.slot < length lists.cards) × (is_there lists.cards x ≡ true
    → IsOn (card_at lists x.slot) letter × ((s : Stored S) × (monitor_at monitors x.slot ≡ Some s)
    × (is_below b s.instance ≡ true) × AreAmong ending (mask_of s.instance) ends))

-- each of the shifts is of a slot that has a monitor, and to the number of a state
abbrev pub HaveMonitors : {S : Type 0} → List Shift → List (Option (Stored S)) → Type 0
HaveMonitors {S} shifts monitors =
    (shift : Shift) → Contains shifts shift
    → ((s : Stored S) × (monitor_at monitors shift.slot ≡ Some s)) × (shift.number < most_numbers)

-- a monitor whose state had a number got one that has this number
abbrev pub IsShifted : {S : Type 0} → (S → ℕ → Type 0) → Option (Stored S) → Option (Stored S) → ℕ → Type 0
IsShifted {S} HasNumber before after number =
    (s : Stored S) (k : ℕ) → before ≡ Some s → HasNumber s.state k
    → (t : Stored S) × (after ≡ Some t) × (t.instance ≡ s.instance) × HasNumber t.state number

-- each of the shifts was carried out, and no other monitor changed
pub record AreShifted {S : Type 0} (HasNumber : S → ℕ → Type 0) (shifts : List Shift)
    (before after : List (Option (Stored S))) : Type 0 where
  pub each : (shift : Shift) → Contains shifts shift
      → IsShifted HasNumber (monitor_at before shift.slot) (monitor_at after shift.slot) shift.number
  pub others : (k : ℕ) → ((shift : Shift) → Contains shifts shift → shift.slot ≡ k → ⊥)
      → monitor_at after k ≡ monitor_at before k
  pub size : length after ≡ length before

-- the letter leaves the monitor as it is, and nothing of it is dead
abbrev pub IsRestingAlone : (m : Meaning) {S : Type 0} (Stands : S → Word → Type 0) → ℕ → List Bool → Stored S → Type 0
IsRestingAlone m {S} Stands letter dead base = RestsBy S m Stands letter base.state × (dead_mask_of dead base.instance ≡ 0)

-- what the number of a monitor's state tells of an event that moves the monitor
abbrev pub IsToldAlone : (m : Meaning) {S : Type 0} (Stands : S → Word → Type 0) (HasNumber : S → ℕ → Type 0)
    → ℕ → List Bool → Stored S → Told → Type 0
IsToldAlone m {S} Stands HasNumber letter dead base (Shifts number) = IsPlainFor m Stands HasNumber letter dead base number
IsToldAlone m {S} Stands HasNumber letter dead base Rests = IsRestingAlone m Stands letter dead base
IsToldAlone m {S} Stands HasNumber letter dead base Nothing = Unit {0}

-- the monitor s of a slot whose state had a number got a state with this number, and no other slot changed
abbrev pub IsRenumbered : {S : Type 0} → (S → ℕ → Type 0) → ℕ → ℕ → Stored S → List (Slot S) → List (Slot S) → Type 0
IsRenumbered {S} HasNumber number slot s old new =
    (state : S) × (new ≡ slice_set old slot (Taken (record { instance = s.instance; state = state })))
    × ((k : ℕ) → HasNumber s.state k → HasNumber state number)

-- a slot has as much as it had: a monitor of the same instance, or none
abbrev pub IsAlike : {S : Type 0} → Slot S → Slot S → Type 0
IsAlike {S} (Taken s) new = (t : Stored S) × (new ≡ Taken t) × (t.instance ≡ s.instance)
IsAlike {S} Planned new = new ≡ Planned
IsAlike {S} (Free next) new = new ≡ Free next

-- and so have all
pub record AreAlike {S : Type 0} (old new : List (Slot S)) : Type 0 where
  pub size : length new ≡ length old
  pub each : (k : ℕ) → IsAlike (slot_at old k) (slot_at new k)
