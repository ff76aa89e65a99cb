-- What an event makes of one stored monitor, and what plans do to the slots.
use Rattle.std.specs.Prelude.{ℕ, ◌≡◌, Bool, true, false, cond, List, [], ◌∷◌, ◌++◌, Option, Some, None, map, Contains, slice_set, ◌⊎◌, ◌==◌, ◌≢◌, bit_and, AllPairs, IsTrue, not, ◌&&◌, ◌||◌, slice_index_or}
use Rattle.std.specs.Int.{bit_at}
use Rattle.std.specs.Option.{option_to_list}
use Rattle.std.specs.List.{cons_option}
use Rattle.std.specs.List.Sorted.{IsPermutation}
use Rattle.jm_model.specs.Words.{Mask, Word}
use Rattle.jm_model.specs.Bindings.{is_below, is_compatible, join, mask_of}
use Rattle.jm_model.specs.Meanings.{Meaning}
use Rattle.jm_model.specs.declared.binding.Binding.{Binding}
use Rattle.jm_marks.specs.Marks.{dead_mask_of}
use Rattle.jm_monitors.specs.declared.stored.Stored.{Stored}
use Rattle.jm_monitors.specs.Steps.{Follows, IsBase, IsOverAfter, IsCutState, IsAliveState, IsResting}
use Rattle.jm_index.specs.Index.{Pair, AreBelow, asked_slots, without}
use Rattle.jm_store.specs.declared.event.MarkStatus.{MarkStatus}
use Rattle.jm_store.specs.declared.event.MarkStatus.TheVariants.{Marked, Unmarked}
use Rattle.jm_store.specs.declared.moves.Move.{Move}
use Rattle.jm_store.specs.Slots.{monitor_at}

module _ (m : Meaning) {S : Type 0} (Stands : S → Word → Type 0) (letter : ℕ) where
  -- the state of instance t follows a base by the letter, and the flag tells whether it isn't cut
  pub record IsNext (dead : List Bool) (t : Binding) (base state : S) (stays : Bool) : Type 0 where
    pub next : Follows Stands letter base state
    pub alive : stays ≡ true → IsAliveState m Stands state (dead_mask_of dead t)
    pub cut : stays ≡ false → IsCutState m Stands state (dead_mask_of dead t)

  -- the monitor of instance t whose state follows a base by the letter, and whether it isn't cut
  pub record IsAdvanced (dead : List Bool) (k : Option ℕ) (t : Binding) (base : S) (move : Move S) : Type 0 where
    pub slot : move.slot ≡ k
    pub instance : move.monitor.instance ≡ t
    pub next : Follows Stands letter base move.monitor.state
    pub alive : move.stays ≡ true → IsAliveState m Stands move.monitor.state (dead_mask_of dead t)
    pub cut : move.stays ≡ false → IsCutState m Stands move.monitor.state (dead_mask_of dead t)

  -- The event with binding b leaves the monitor s, above b, as it is, and no dead object cuts it.
  abbrev pub IsAtRest : Binding → List Bool → Stored S → Type 0
  IsAtRest b dead s =
      (is_below b s.instance ≡ true) × IsResting m Stands letter s.state
      × IsAliveState m Stands s.state (dead_mask_of dead s.instance)

module _ (m : Meaning) {S : Type 0} (Stands : S → Word → Type 0) (letter : ℕ) (b : Binding) (dead : List Bool)
    (marks : List Binding) where
  -- The monitor s of slot k moves: the event's binding lies below its instance; or it makes a new instance, which has
  -- no slot.
  pub record IsMoved (k : ℕ) (s : Stored S) (move : Move S) : Type 0 where
    pub is_base : IsBase b marks s
    pub advanced : IsAdvanced m Stands letter dead (cond (is_below b s.instance) (Some k) None)
        (join s.instance b) s.state move

  -- The event makes nothing of the monitor s: it doesn't reach it, or the new instance would be lost at once.
  abbrev pub IsLeft : Stored S → Type 0
  IsLeft s =
      (IsBase b marks s → ⊥)
      ⊎ ((is_below b s.instance ≡ false)
      × IsOverAfter m Stands letter s.state (dead_mask_of dead (join s.instance b)))

  -- what the event makes of the monitor s of slot k
  abbrev pub IsOutcome : ℕ → Stored S → Option (Move S) → Type 0
  IsOutcome k s None = IsLeft s
  IsOutcome k s (Some move) = IsMoved k s move

  -- and of slot k, whatever is in it
  abbrev pub IsOutcomeIn : ℕ → Option (Stored S) → Option (Move S) → Type 0
  IsOutcomeIn k None move = move ≡ None
  IsOutcomeIn k (Some s) move = IsOutcome k s move

  abbrev pub IsOutcomeAt : List (Option (Stored S)) → ℕ → Option (Move S) → Type 0
  IsOutcomeAt monitors k move = IsOutcomeIn k (monitor_at monitors k) move

  -- and where it passes over monitors that are at rest
  abbrev pub IsRead : ℕ → Stored S → Option (Move S) → Type 0
  IsRead k s None = IsLeft s ⊎ IsAtRest m Stands letter b dead s
  IsRead k s (Some move) = IsMoved k s move

  abbrev pub IsReadIn : ℕ → Option (Stored S) → Option (Move S) → Type 0
  IsReadIn k None move = move ≡ None
  IsReadIn k (Some s) move = IsRead k s move

  abbrev pub IsReadAt : List (Option (Stored S)) → ℕ → Option (Move S) → Type 0
  IsReadAt monitors k move = IsReadIn k (monitor_at monitors k) move

-- ys has what R gives for each of xs, in order, where it gives something
abbrev pub AreGiven : {X Y : Type 0} → (X → Option Y → Type 0) → List X → List Y → Type 0
AreGiven {X} {Y} R [] ys = ys ≡ []
AreGiven {X} {Y} R (x ∷ xs) ys = (o : Option Y) × R x o
    × ((rest : List Y) × AreGiven R xs rest × (ys ≡ cons_option o rest))

-- ys and zs have what R and Q give for xs: R for some of them, and Q for the others
pub record AreParted {X Y Z : Type 0} (R : X → Option Y → Type 0) (Q : X → Option Z → Type 0) (xs : List X)
    (ys : List Y) (zs : List Z) : Type 0 where
  pub told : List X
  pub others : List X
  pub all : IsPermutation xs (others ++ told)
  pub given : AreGiven R told ys
  pub read : AreGiven Q others zs

-- Beside these, R gives nothing for each of `rests`, which are some of xs too.
pub record AreSifted {X Y Z : Type 0} (R : X → Option Y → Type 0) (Q : X → Option Z → Type 0) (xs : List X)
    (ys : List Y) (zs : List Z) (rests : List X) : Type 0 where
  pub told : List X
  pub others : List X
  pub all : IsPermutation xs (rests ++ (others ++ told))
  pub given : AreGiven R told ys
  pub read : AreGiven Q others zs
  pub none : (x : X) → Contains rests x → R x None

-- whether the binding of an event is a mark already
abbrev pub is_marked : MarkStatus → Bool
is_marked Marked = true
is_marked Unmarked = false

-- Whether an event reads the monitors with this set of parameters: those that it can lie below; and others where its
-- binding is no mark, unless it ends all of them.
abbrev pub is_asked : Bool → Bool → Binding → Mask → Bool
is_asked known ends b domain = (bit_and (mask_of b) domain == mask_of b) || (not known && not ends)

-- whether a set of parameters has all those of a binding
abbrev pub has_all : Binding → Mask → Bool
has_all b domain = bit_and (mask_of b) domain == mask_of b

-- whether a letter is among those kept for a set of parameters
abbrev pub ends_all : List ℕ → ℕ → Mask → Bool
ends_all ending letter domain = bit_at (slice_index_or ending domain 0) letter == 1

abbrev pub asks_by : Bool → List ℕ → ℕ → Binding → Mask → Bool
asks_by known ending letter b domain = is_asked known (ends_all ending letter domain) b domain

-- the slots that an event reads, by the sets of parameters
abbrev pub visited : (Mask → Bool) → Binding → List Pair → List Mask → List ℕ
visited asks b pairs [] = []
visited asks b pairs (d ∷ domains) = cond (asks d) (asked_slots d b pairs) [] ++ visited asks b pairs domains

module _ (m : Meaning) {S : Type 0} (Stands : S → Word → Type 0) where
  -- the letters kept for a monitor's set of parameters end it
  abbrev pub IsEnding : List ℕ → Stored S → Type 0
  IsEnding ending s = (e : ℕ) → ends_all ending e (mask_of s.instance) ≡ true → IsOverAfter m Stands e s.state 0

  -- they end each of the monitors
  abbrev pub AreEnding : List ℕ → List (Stored S) → Type 0
  AreEnding ending stored = (s : Stored S) → Contains stored s → IsEnding ending s

-- no letters are kept that weren't
abbrev pub EndsFewer : List ℕ → List ℕ → Type 0
EndsFewer old new = (e d : ℕ) → ends_all new e d ≡ true → ends_all old e d ≡ true

-- The slots that an event reads are distinct, and each has a monitor that is compatible with its binding. Those whose
-- sets of parameters are asked are among them.
pub record AreVisited {S : Type 0} (asks : Mask → Bool) (b : Binding) (monitors : List (Option (Stored S)))
    (slots : List ℕ) : Type 0 where
  pub apart : AllPairs (λ j k. j ≢ k) slots
  pub each : (k : ℕ) → Contains slots k → (s : Stored S) × (monitor_at monitors k ≡ Some s)
      × (is_compatible s.instance b ≡ true)
  pub all : (k : ℕ) (s : Stored S) → monitor_at monitors k ≡ Some s → is_compatible s.instance b ≡ true
      → asks (mask_of s.instance) ≡ true → Contains slots k

-- the moves that an event makes, for all slots that it reads
pub record AreMovesOf (m : Meaning) {S : Type 0} (Stands : S → Word → Type 0) (letter : ℕ) (b : Binding)
    (dead : List Bool) (marks : List Binding) (asks : Mask → Bool) (monitors : List (Option (Stored S)))
    (moves : List (Move S)) : Type 0 where
  pub slots : List ℕ
  pub visit : AreVisited asks b monitors slots
  pub given : AreGiven (IsOutcomeAt m Stands letter b dead marks monitors) slots moves

-- the moves that an event makes, for all slots that it reads, but of monitors that are at rest
pub record AreMovesRead (m : Meaning) {S : Type 0} (Stands : S → Word → Type 0) (letter : ℕ) (b : Binding)
    (dead : List Bool) (marks : List Binding) (asks : Mask → Bool) (monitors : List (Option (Stored S)))
    (moves : List (Move S)) : Type 0 where
  pub slots : List ℕ
  pub visit : AreVisited asks b monitors slots
  pub given : AreGiven (IsReadAt m Stands letter b dead marks monitors) slots moves

-- the monitors by slot after a move
abbrev pub moved_at : {S : Type 0} → Option ℕ → Option (Stored S) → List (Option (Stored S)) → List (Option (Stored S))
moved_at None next monitors = monitors
moved_at (Some k) next monitors = slice_set monitors k next

abbrev pub after_move : {S : Type 0} → Move S → List (Option (Stored S)) → List (Option (Stored S))
after_move move monitors = moved_at move.slot (cond move.stays (Some move.monitor) None) monitors

-- and after all moves, the last one first
abbrev pub after_moves : {S : Type 0} → List (Move S) → List (Option (Stored S)) → List (Option (Stored S))
after_moves [] monitors = monitors
after_moves (move ∷ moves) monitors = after_move move (after_moves moves monitors)

-- the monitors that a plan reaches
abbrev pub reached_by : {S : Type 0} → List (Move S) → List (Stored S)
reached_by moves = map (λ move. move.monitor) moves

-- no two moves have one slot
abbrev pub AreApart : {S : Type 0} → List (Move S) → Type 0
AreApart {S} moves = AllPairs (λ a b. (k : ℕ) → a.slot ≡ Some k → b.slot ≡ Some k → ⊥) moves

-- neither moves nor slots of monitors that rest were noted yet
abbrev pub AreNone : {X Y : Type 0} → List X → List Y → Type 0
AreNone moves rests = (moves ≡ []) × (rests ≡ [])

-- y is what R gives for x, put at the end of ys where it gives something
abbrev pub IsPushed : {X Y : Type 0} → (X → Option Y → Type 0) → X → List Y → List Y → Type 0
IsPushed {X} {Y} R x old new = (o : Option Y) × R x o × (new ≡ old ++ option_to_list o)

-- a monitor, where there is one, is compatible with b
abbrev pub IsCompatibleAt : {S : Type 0} → Binding → Option (Stored S) → Type 0
IsCompatibleAt b None = Unit {0}
IsCompatibleAt b (Some s) = IsTrue (is_compatible s.instance b)

-- the objects of the moves' instances are below n
abbrev pub LieWithin : {S : Type 0} → ℕ → List (Move S) → Type 0
LieWithin {S} n moves = (move : Move S) → Contains moves move → AreBelow n move.monitor.instance

abbrev pub pairs_at : Option ℕ → List Pair → List Pair → List Pair
pairs_at None next pairs = pairs
pairs_at (Some k) next pairs = next

-- the pairs of the index after a move
abbrev pub pairs_after : {S : Type 0} → Move S → List Pair → List Pair
pairs_after move pairs = pairs_at move.slot (cond move.stays pairs (without move.monitor.instance pairs)) pairs

-- a slot's monitor after a pass: gone, if it is cut
abbrev pub IsSwept : Meaning → {S : Type 0} → (S → Word → Type 0) → List Bool → Option (Stored S) → Option (Stored S)
    → Type 0
IsSwept m Stands dead None new = new ≡ None
IsSwept m Stands dead (Some s) None = IsCutState m Stands s.state (dead_mask_of dead s.instance)
IsSwept m Stands dead (Some s) (Some t) = (t ≡ s) × IsAliveState m Stands s.state (dead_mask_of dead s.instance)
