-- Lists of the slots whose monitors a letter may change, and what is kept of each slot.
use Rattle.std.specs.Prelude.{ℕ, ◌≡◌, ◌≢◌, ◌+◌, ◌*◌, ◌/◌, ◌%◌, ◌<◌, ◌≤◌, ◌⊎◌, ◌==◌, ◌&&◌, nat_lt, Bool, true, false, cond, List, [], ◌∷◌, Option, Some, None, Contains, AllPairs, slice_index, slice_index_or, length, map, filter}
use Rattle.std.specs.Int.{bit_at}
use Rattle.jm_model.specs.Bindings.{empty, is_below, mask_of}
use Rattle.jm_model.specs.Words.{Mask}
use Rattle.jm_model.specs.declared.binding.Binding.{Binding}
use Rattle.jm_awake.specs.declared.card.Listed.{Listed}
use Rattle.jm_awake.specs.declared.card.Card.{Card}

-- a list of a letter and a binding: whether it is kept, and what it has
pub record SlotList : Type 0 where
  pub letter : ℕ
  pub binding : Binding
  pub is_kept : Bool
  pub entries : List Listed

-- The lists by place; by letter and path numbers, each one more than a place; the cards by slot; the letters that have
-- lists; by letter the parameters that the bindings of its lists bind.
pub record Lists : Type 0 where
  pub lists : List SlotList
  pub rows : List (List ℕ)
  pub cards : List Card
  pub letters : ℕ
  pub masks : List Mask

-- a list that claims nothing
abbrev pub no_list : SlotList
no_list = record { letter = 0; binding = empty; is_kept = false; entries = [] }

-- the card of a slot that is in no list
abbrev pub fresh : Card
fresh = record { age = 0; letters = 0 }

-- the list at a place, and the card of a slot
abbrev pub list_at : Lists → ℕ → SlotList
list_at a place = slice_index_or a.lists place no_list

abbrev pub card_at : Lists → ℕ → Card
card_at a slot = slice_index_or a.cards slot fresh

-- one more than the first object that a binding gives to parameters of a set; 0 where there is none
abbrev pub path_in : Binding → Mask → ℕ
path_in [] mask = 0
path_in (None ∷ b) mask = path_in b (mask / 2)
path_in (Some o ∷ b) mask = cond (mask % 2 == 1) (o + 1) (path_in b (mask / 2))

-- the path of a binding
abbrev pub path_of : Binding → ℕ
path_of b = path_in b (mask_of b)

-- the number under a letter and a path
abbrev pub number_at : List (List ℕ) → ℕ → ℕ → ℕ
number_at rows letter path = slice_index (slice_index_or rows letter []) path

-- the slot is in the lists of the letter, wherever there are some
abbrev pub IsOn : Card → ℕ → Type 0
IsOn card letter = bit_at card.letters letter ≡ 1

-- the slot still has the monitor that was listed
abbrev pub IsThere : Card → Listed → Type 0
IsThere card x = x.age / 2 ≡ card.age / 2

-- the slot still has it, and no object of it is dead
abbrev pub IsThereAlive : Card → Listed → Type 0
IsThereAlive card x = x.age ≡ card.age

-- an object of the slot's monitor is dead
abbrev pub IsMourned : Card → Type 0
IsMourned card = card.age % 2 ≡ 1

-- what a list has of a slot with this card
abbrev pub entry_of : ℕ → Card → Listed
entry_of slot card = record { slot = slot; age = card.age / 2 * 2 }

-- whether an entry still counts, by the cards; and whether it does in a list of the letter
abbrev pub is_there : List Card → Listed → Bool
is_there cards x =
    nat_lt x.slot (length cards) && ((slice_index_or cards x.slot fresh).age / 2 == x.age / 2)

abbrev pub is_listed : List Card → ℕ → Listed → Bool
is_listed cards letter x =
    is_there cards x && (nat_lt letter 32 && (bit_at (slice_index_or cards x.slot fresh).letters letter == 1))

-- the slots of the entries that still count
abbrev pub slots_there : List Card → List Listed → List ℕ
slots_there cards entries = map (λ x. x.slot) (filter (is_there cards) entries)

-- the list at a place is kept
abbrev pub IsKept : Lists → ℕ → Type 0
IsKept a place = (list_at a place).is_kept ≡ true

-- it is kept, and that of a letter and a binding
pub record IsListOf (l : SlotList) (e : ℕ) (b : Binding) : Type 0 where
  pub kept : l.is_kept ≡ true
  pub letter : l.letter ≡ e
  pub binding : l.binding ≡ b

-- there are no lists, and no cards
pub record HasNone (a : Lists) : Type 0 where
  pub lists : a.lists ≡ []
  pub cards : a.cards ≡ []
  pub letters : a.letters ≡ 0

-- the monitor of a slot: its instance, and whether an object of it is dead
pub record Occupant : Type 0 where
  pub instance : Binding
  pub has_dead : Bool

-- the monitors by slot
abbrev pub Occupants : Type 0
Occupants = ℕ → Option Occupant

-- with another monitor in a slot, or none
abbrev pub with_slot : Occupants → ℕ → Option Occupant → Occupants
with_slot o slot x = λ k. cond (k == slot) x (o k)

-- A list is found under its letter and the path of its binding, which binds the parameters that are kept for the
-- letter.
pub record IsFound (a : Lists) (place : ℕ) (l : SlotList) : Type 0 where
  pub low : l.letter < 32
  pub number : number_at a.rows l.letter (path_of l.binding) ≡ place + 1
  pub mask : slice_index a.masks l.letter ≡ mask_of l.binding
  pub has_letter : bit_at a.letters l.letter ≡ 1

abbrev pub AreFound : Lists → Type 0
AreFound a = (place : ℕ) → IsKept a place → IsFound a place (list_at a place)

-- The entry's monitor lies above the list's binding. It has no dead object if the entry has the age of its card. Its
-- slot is in the lists of the letter, unless the list is loose.
pub record IsOccupied (loose : Type 0) (o : Occupants) (cards : List Card) (l : SlotList) (x : Listed) : Type 0 where
  pub occupant : Occupant
  pub here : o x.slot ≡ Some occupant
  pub below : is_below l.binding occupant.instance ≡ true
  pub whole : IsThereAlive (slice_index_or cards x.slot fresh) x → occupant.has_dead ≡ false
  pub on : (loose → ⊥) → IsOn (slice_index_or cards x.slot fresh) l.letter

-- an entry of a list has a card that isn't younger; if it still counts, it is as above
pub record IsEntry (loose : Type 0) (o : Occupants) (cards : List Card) (l : SlotList) (x : Listed) : Type 0 where
  pub within : x.slot < length cards
  pub even : x.age % 2 ≡ 0
  pub aged : x.age ≤ (slice_index_or cards x.slot fresh).age
  pub there : IsThere (slice_index_or cards x.slot fresh) x → IsOccupied loose o cards l x

-- The lists are sound for these monitors. A monitor above the binding of a list is in it, if its slot is in the lists
-- of the letter. An entry is of such a monitor, if it still counts, and no list has an entry twice. A slot without a
-- monitor is in no list. The list at one place may be loose: slots may be in it that aren't in the lists of its letter.
pub record AreSoundBut (loose : Option ℕ) (o : Occupants) (a : Lists) : Type 0 where
  pub found : AreFound a
  pub listed : (place k : ℕ) (x : Occupant) → IsKept a place → o k ≡ Some x
      → is_below (list_at a place).binding x.instance ≡ true → IsOn (card_at a k) (list_at a place).letter
      → Contains (list_at a place).entries (entry_of k (card_at a k))
  pub each : (place : ℕ) (x : Listed) → IsKept a place → Contains (list_at a place).entries x
      → IsEntry (loose ≡ Some place) o a.cards (list_at a place) x
  pub apart : (place : ℕ) → IsKept a place → AllPairs (λ x y. x ≢ y) (list_at a place).entries
  pub blank : (k letter : ℕ) → o k ≡ None → IsOn (card_at a k) letter → ⊥

abbrev pub AreSound : Occupants → Lists → Type 0
AreSound o a = AreSoundBut None o a

-- The list at a place was kept, of the same letter and binding, and each slot but one that was in the lists of the
-- letter is so still.
pub record IsStill (but : Option ℕ) (old new : Lists) (place : ℕ) : Type 0 where
  pub kept : IsKept old place
  pub letter : (list_at new place).letter ≡ (list_at old place).letter
  pub binding : (list_at new place).binding ≡ (list_at old place).binding
  pub on : (k : ℕ) → (but ≡ Some k → ⊥) → IsOn (card_at old k) (list_at old place).letter
      → IsOn (card_at new k) (list_at old place).letter

-- each list that is kept was kept
abbrev pub AreStill : Option ℕ → Lists → Lists → Type 0
AreStill but old new = (place : ℕ) → IsKept new place → IsStill but old new place

-- the slot is in the lists of each letter at which its monitor, of this instance, doesn't rest, by the set `resting`
abbrev pub IsAwake : Lists → ℕ → Binding → ℕ → Type 0
IsAwake a slot instance resting =
    (place : ℕ) → IsKept a place → is_below (list_at a place).binding instance ≡ true
    → (bit_at resting (list_at a place).letter ≡ 1 → ⊥) → IsOn (card_at a slot) (list_at a place).letter

-- the monitors above each list's binding are in the list, or rest at its letter; `Rests` tells which slots rest where
abbrev pub AreRested : (ℕ → ℕ → Type 0) → Occupants → Lists → Type 0
AreRested Rests o a =
    (place k : ℕ) (x : Occupant) → IsKept a place → o k ≡ Some x
    → is_below (list_at a place).binding x.instance ≡ true
    → IsOn (card_at a k) (list_at a place).letter ⊎ Rests k (list_at a place).letter

-- a slot can be woken: it has no monitor yet, or one of this instance; where the loose list would take it, it is in it
-- or rests there
pub record IsWakable (loose : Option ℕ) (o : Occupants) (a : Lists) (slot : ℕ) (instance : Binding)
    (resting : ℕ) : Type 0 where
  pub here : (x : Occupant) → o slot ≡ Some x → x.instance ≡ instance
  pub clear : (place : ℕ) → loose ≡ Some place → IsKept a place
      → (bit_at resting (list_at a place).letter ≡ 1) ⊎ IsOn (card_at a slot) (list_at a place).letter

-- the slots are those of all monitors above the binding, each once; a monitor with a dead object is mourned
pub record AreAllAbove (o : Occupants) (a : Lists) (b : Binding) (slots : List ℕ) : Type 0 where
  pub apart : AllPairs (λ j k. j ≢ k) slots
  pub each : (k : ℕ) → Contains slots k → (x : Occupant) × (o k ≡ Some x) × (is_below b x.instance ≡ true)
      × (x.has_dead ≡ true → IsMourned (card_at a k))
  pub all : (k : ℕ) (x : Occupant) → o k ≡ Some x → is_below b x.instance ≡ true → Contains slots k
