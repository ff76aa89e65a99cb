-- What contracts see of a store, and what a plan is for it.
use Rattle.std.specs.Prelude.{ℕ, ◌≡◌, ◌<◌, Bool, true, false, List, [], ◌∷◌, ◌++◌, Option, Some, None, Contains, IsTrue, length, ◌⊎◌, ◌≢◌, AllPairs, cond, slice_set}
use Rattle.jm_model.specs.Words.{Word}
use Rattle.jm_model.specs.Bindings.{is_below}
use Rattle.jm_model.specs.Meanings.{Meaning}
use Rattle.jm_model.specs.declared.binding.Binding.{Binding}
use Rattle.jm_model.specs.declared.firings.Firing.{Firing}
use Rattle.jm_semantics.specs.Traces.{ParametricEvent}
use Rattle.jm_semantics.specs.Answers.{IsAnswer}
use Rattle.jm_index.specs.Index.{Pair, PairList, IsFitting, AreBelow}
use Rattle.jm_monitors.specs.declared.stored.Stored.{Stored}
use Rattle.jm_monitors.specs.Stores.{IsStoreOf, HasInstance}
use Rattle.jm_monitors.specs.Steps.{AreMarksAfter, NoneCutAbove, IsThinned, AreSpared, AreLiveMarks, IsReport}
use Rattle.jm_store.specs.declared.moves.Move.{Move}
use Rattle.jm_store.specs.declared.moves.Plan.{Plan}
use Rattle.jm_store.specs.Slots.{monitor_at, stored_in}
use Rattle.jm_store.specs.Moves.{is_marked, after_move, after_moves, pairs_after, AreApart, IsEnding, AreEnding, EndsFewer, IsNext, IsSwept, AreVisited, has_all, IsAtRest}
use Rattle.jm_store.specs.Listed.{AreLeftOf}

-- The monitors by slot, the marks, whether a plan is open, and the index, which has a pair for each monitor. What the
-- store is to have where a plan is open isn't among the monitors. Last, for each set of parameters letters that end the
-- monitors with it.
pub record Contents (S : Type 0) : Type 0 where
  pub monitors : List (Option (Stored S))
  pub marks : List Binding
  pub is_open : Bool
  pub index : PairList
  pub ending : List ℕ

-- the stored monitors
abbrev pub stored_of : {S : Type 0} → Contents S → List (Stored S)
stored_of store = stored_in store.monitors

-- the store with other letters
abbrev pub with_ending : {S : Type 0} → Contents S → List ℕ → Contents S
with_ending store ending = record store { ending = ending }

-- the store with a plan open, or with none
abbrev pub with_open : {S : Type 0} → Contents S → Bool → Contents S
with_open store is_open = record store { is_open = is_open }

-- The store fits a table of objects, given by its flags of dead objects: the objects of its bindings and marks stand in
-- the table, and its index fits it.
pub record IsFit {S : Type 0} (store : Contents S) (dead : List Bool) : Type 0 where
  pub instances : (s : Stored S) → Contains (stored_of store) s → AreBelow (length dead) s.instance
  pub marks : (b : Binding) → Contains store.marks b → AreBelow (length dead) b
  pub index : IsFitting store.index dead

-- no monitor is cut by the objects that the index dropped
abbrev pub IsSpared : (m : Meaning) {S : Type 0} → (S → Word → Type 0) → Contents S → Type 0
IsSpared m Stands store = AreSpared m Stands store.index.dropped (stored_of store)

-- The store fits rules and a table of objects: it fits the table, and what the last pass left isn't cut by the objects
-- that died until then.
pub record IsFitFor (m : Meaning) {S : Type 0} (Stands : S → Word → Type 0) (store : Contents S)
    (dead : List Bool) : Type 0 where
  pub fits : IsFit store dead
  pub spared : IsSpared m Stands store

-- The contents are a store of this trace of events, with these dead objects. Stored are distinct instances whose states
-- stand for their slices, each other instance is cut, and the marks are seen bindings, among them each one with a live
-- object. What is kept beside them fits them: the letters end the monitors, and the objects that the index dropped cut
-- none.
pub record IsStoreAfter (m : Meaning) {S : Type 0} (Stands : S → Word → Type 0) (trace : List ParametricEvent)
    (dead : List Bool) (store : Contents S) : Type 0 where
  pub monitors : IsStoreOf m Stands trace dead (stored_of store) store.marks
  pub ended : AreEnding m Stands store.ending (stored_of store)
  pub spared : AreSpared m Stands store.index.dropped (stored_of store)

-- Some monitors of the store were dropped that the dead objects cut, and nothing else but their pairs.
pub record IsCutDown (m : Meaning) {S : Type 0} (Stands : S → Word → Type 0) (dead : List Bool)
    (old new : Contents S) : Type 0 where
  pub closed : new.is_open ≡ false
  pub each : (k : ℕ) → (monitor_at new.monitors k ≡ monitor_at old.monitors k)
      ⊎ IsSwept m Stands dead (monitor_at old.monitors k) (monitor_at new.monitors k)
  pub size : length new.monitors ≡ length old.monitors
  pub marks : new.marks ≡ old.marks
  pub ending : new.ending ≡ old.ending
  pub index : (flags : List Bool) → IsFitting old.index flags → IsFitting new.index flags

-- The store after a pass: the monitors that no dead object cuts are left, each in its slot, and the marks with a live
-- object. Of whatever trace the store was one, it still is.
pub record IsDisposed (m : Meaning) {S : Type 0} (Stands : S → Word → Type 0) (dead : List Bool)
    (old new : Contents S) : Type 0 where
  pub thinned : IsThinned m Stands dead (stored_of old) (stored_of new)
  pub alive : AreSpared m Stands dead (stored_of new)
  pub slots : AreLeftOf old.monitors new.monitors
  pub marks : AreLiveMarks dead old.marks new.marks
  pub ending : new.ending ≡ old.ending
  pub keeps : (trace : List ParametricEvent) → IsStoreAfter m Stands trace dead old
      → IsStoreAfter m Stands trace dead new

-- the pair's slot has a monitor, of its binding
abbrev pub IsFilled : {S : Type 0} → Contents S → Pair → Type 0
IsFilled {S} store pair = (s : Stored S) × (monitor_at store.monitors pair.slot ≡ Some s) × (s.instance ≡ pair.binding)

-- one of the moves is for the pair
abbrev pub IsPlannedBy : {S : Type 0} → List (Move S) → Pair → Type 0
IsPlannedBy {S} moves pair = (move : Move S) × Contains moves move × (move.slot ≡ Some pair.slot)
    × (move.monitor.instance ≡ pair.binding)

-- The plan fits the store: where one of its moves has a slot, the index leads to it, and a slot to which the index
-- leads has a monitor, or one of the moves is for it. Its binding is a mark where it says so. It has its answer twice.
pub record IsPlanFor {S : Type 0} (store : Contents S) (plan : Plan S) : Type 0 where
  pub twice : plan.copy ≡ plan.answer
  pub known : IsTrue (is_marked plan.status) → Contains store.marks plan.binding
  pub apart : AreApart plan.moves.items
  pub placed : (move : Move S) (k : ℕ) → Contains plan.moves.items move → move.slot ≡ Some k
      → Contains store.index.list (record { binding = move.monitor.instance; slot = k })
  pub filled : (pair : Pair) → Contains store.index.list pair
      → IsFilled store pair ⊎ IsPlannedBy plan.moves.items pair

-- the monitors by slot that the store is to have
abbrev pub monitors_after : {S : Type 0} → Contents S → Plan S → List (Option (Stored S))
monitors_after store plan = after_moves plan.moves.items store.monitors

-- the store after the plan was carried out in it
pub record IsCarriedOut {S : Type 0} (before after : Contents S) (plan : Plan S) : Type 0 where
  pub monitors : after.monitors ≡ monitors_after before plan
  pub marks : AreMarksAfter plan.binding before.marks after.marks
  pub ending : after.ending ≡ before.ending
  pub dropped : after.index.dropped ≡ before.index.dropped

-- the store after a move was carried out in it
pub record IsMoveDone {S : Type 0} (step : Move S) (before after : Contents S) : Type 0 where
  pub still : after.is_open ≡ before.is_open
  pub monitors : after.monitors ≡ after_move step before.monitors
  pub marks : after.marks ≡ before.marks
  pub index : after.index.list ≡ pairs_after step before.index.list
  pub dropped : after.index.dropped ≡ before.index.dropped
  pub ending : after.ending ≡ before.ending

-- The plan is that of the event with this letter after the trace: its answer is the event's, and once it is carried out
-- the contents are a store of the trace with the event, in which no monitor above the event's binding is cut. Each
-- monitor is then that of a move, or a stored one that the event's binding isn't below, or that is at rest.
pub record IsPlanOf (m : Meaning) {S : Type 0} (Stands : S → Word → Type 0) (trace : List ParametricEvent)
    (dead : List Bool) (letter : ℕ) (contents : Contents S) (plan : Plan S) : Type 0 where
  pub answer : IsAnswer m trace (record { letter = letter; binding = plan.binding }) plan.answer
  pub store : (after : Contents S) → IsCarriedOut contents after plan
      → IsStoreAfter m Stands (trace ++ record { letter = letter; binding = plan.binding } ∷ []) dead after
  pub none_cut : NoneCutAbove m Stands plan.binding dead (stored_in (monitors_after contents plan))
  pub each : (s : Stored S) → Contains (stored_in (monitors_after contents plan)) s
      → ((move : Move S) × Contains plan.moves.items move × (move.monitor ≡ s) × (move.stays ≡ true))
      ⊎ (Contains (stored_of contents) s × (is_below plan.binding s.instance ≡ false))
      ⊎ (Contains (stored_of contents) s × IsAtRest m Stands letter plan.binding dead s)

-- Instance t has the pair of a slot which no pair had and in which there was no monitor; or it had a pair before.
abbrev pub IsPlaced : {S : Type 0} → Contents S → Contents S → Binding → Option ℕ → Type 0
IsPlaced old new t None =
    (new.index.list ≡ old.index.list) × ((pair : Pair) × Contains old.index.list pair × (pair.binding ≡ t))
IsPlaced old new t (Some k) =
    (new.index.list ≡ old.index.list ++ record { binding = t; slot = k } ∷ [])
    × ((pair : Pair) → Contains old.index.list pair → pair.slot ≡ k → ⊥)
    × (monitor_at old.monitors k ≡ None)

-- where a move has a slot, the index leads to it
abbrev pub ArePlaced : {S : Type 0} → Contents S → List (Move S) → Type 0
ArePlaced {S} store moves =
    (move : Move S) (k : ℕ) → Contains moves move → move.slot ≡ Some k
    → Contains store.index.list (record { binding = move.monitor.instance; slot = k })

-- a move that had no slot gets that of its new pair, or none where its instance had a pair; one that had a slot keeps
-- it
abbrev pub IsSlotted : {S : Type 0} → Contents S → Contents S → Move S → Option ℕ → Type 0
IsSlotted old new move slot =
    ((new.index.list ≡ old.index.list) × ((k : ℕ) × (move.slot ≡ Some k) × (slot ≡ Some k)))
    ⊎ ((move.slot ≡ None) × IsPlaced old new move.monitor.instance slot)

-- the move was put at the end, with its slot
pub record IsPlacedNext {S : Type 0} (old new : Contents S) (move : Move S)
    (before after : List (Move S)) : Type 0 where
  pub slot : Option ℕ
  pub slotted : IsSlotted old new move slot
  pub grown : after ≡ before ++ record { slot = slot; monitor = move.monitor; stays = move.stays } ∷ []

-- the move is another with a slot: the one it had, or one in which there was no monitor
pub record IsPlacedFrom {S : Type 0} (old : Contents S) (first move : Move S) : Type 0 where
  pub monitor : move.monitor ≡ first.monitor
  pub stays : move.stays ≡ first.stays
  pub kept : (k : ℕ) → first.slot ≡ Some k → move.slot ≡ Some k
  pub got : (k : ℕ) → first.slot ≡ None → move.slot ≡ Some k → monitor_at old.monitors k ≡ None

-- The monitors, the marks and the letters that were kept stay as they are; the index may change, and a plan be opened
-- or given up.
pub record KeepsContents {S : Type 0} (old new : Contents S) : Type 0 where
  pub stored : stored_of new ≡ stored_of old
  pub monitors : (k : ℕ) → monitor_at new.monitors k ≡ monitor_at old.monitors k
  pub marks : new.marks ≡ old.marks
  pub ending : new.ending ≡ old.ending

-- the monitors, the index and the letters that were kept stay as they are
pub record KeepsAllButMarks {S : Type 0} (old new : Contents S) : Type 0 where
  pub monitors : new.monitors ≡ old.monitors
  pub index : new.index ≡ old.index
  pub ending : new.ending ≡ old.ending

-- the marks stay as they are, no plan is open, and the store fits the objects that it fitted
pub record StaysClosed {S : Type 0} (old new : Contents S) : Type 0 where
  pub marks : new.marks ≡ old.marks
  pub closed : new.is_open ≡ false
  pub fits : (dead : List Bool) → IsFit old dead → IsFit new dead

-- The store fits the objects that it fitted, where those of two bindings are among them; and its index does, where
-- those of the second one are.
pub record StaysFit {S : Type 0} (b t : Binding) (old new : Contents S) : Type 0 where
  pub fits : (dead : List Bool) → IsFit old dead → AreBelow (length dead) b → AreBelow (length dead) t
      → IsFit new dead
  pub index : (dead : List Bool) → IsFitting old.index dead → AreBelow (length dead) t → IsFitting new.index dead

-- no two of the moves have one slot, and where one has a slot, the index leads to it
pub record AreReady {S : Type 0} (store : Contents S) (moves : List (Move S)) : Type 0 where
  pub apart : AreApart moves
  pub leads : ArePlaced store moves

-- Where one of the moves has a slot, the index leads to it, and a slot to which the index leads has a monitor, or one
-- of the moves is for it.
pub record ArePending {S : Type 0} (store : Contents S) (moves : List (Move S)) : Type 0 where
  pub leads : ArePlaced store moves
  pub filled : (pair : Pair) → Contains store.index.list pair → IsFilled store pair ⊎ IsPlannedBy moves pair

-- the moves of distinct instances
abbrev pub AreDistinct : {S : Type 0} → List (Move S) → Type 0
AreDistinct moves = AllPairs (λ x y. x.monitor.instance ≢ y.monitor.instance) moves

-- The moves of a plan that is being opened: one for each of those that were done, each with a slot, unless its instance
-- was stored before or another move has its instance.
pub record ArePlacedOf {S : Type 0} (old new : Contents S) (moves done placed : List (Move S)) : Type 0 where
  pub apart : AreApart placed
  pub leads : ArePlaced new placed
  pub filled : (pair : Pair) → Contains new.index.list pair → IsFilled new pair ⊎ IsPlannedBy placed pair
  pub each : (move : Move S) → Contains placed move → (first : Move S) × Contains done first
      × IsPlacedFrom old first move
      × (AreDistinct moves → move.slot ≡ None → HasInstance (stored_of old) first.monitor.instance)
  pub all : (first : Move S) → Contains done first → (move : Move S) × Contains placed move
      × IsPlacedFrom old first move
      × (AreDistinct moves → move.slot ≡ None → HasInstance (stored_of old) first.monitor.instance)
  pub kept : (pair : Pair) → Contains old.index.list pair → Contains new.index.list pair

-- one move got its slot, if it can have one, and a plan is open if one was
pub record IsPlacedOne {S : Type 0} (old new : Contents S) (step slotted : Move S) : Type 0 where
  pub still : new.is_open ≡ old.is_open
  pub placed : ArePlacedOf old new (step ∷ []) (step ∷ []) (slotted ∷ [])

-- The index has the pair of each monitor's instance and slot, no two pairs of one binding, and none of a slot that
-- isn't there.
pub record ArePaired {S : Type 0} (store : Contents S) : Type 0 where
  pub paired : (k : ℕ) (s : Stored S) → monitor_at store.monitors k ≡ Some s
      → Contains store.index.list (record { binding = s.instance; slot = k })
  pub bindings : AllPairs (λ a b. a.binding ≢ b.binding) store.index.list
  pub within : (pair : Pair) → Contains store.index.list pair → pair.slot < length store.monitors

-- The event with this letter and binding was done: this is its answer, and the contents are a store of the trace with
-- the event, in which no monitor above its binding is cut.
pub record IsEventDone (m : Meaning) {S : Type 0} (Stands : S → Word → Type 0) (trace : List ParametricEvent)
    (dead : List Bool) (letter : ℕ) (b : Binding) (after : Contents S) (firings : List Firing) : Type 0 where
  pub answer : IsAnswer m trace (record { letter = letter; binding = b }) firings
  pub store : IsStoreAfter m Stands (trace ++ record { letter = letter; binding = b } ∷ []) dead after
  pub none_cut : NoneCutAbove m Stands b dead (stored_of after)

-- The move was taken at once: it was given its slot, where it had none, and carried out. The letters that were kept end
-- its monitor, of which the answer is the report.
pub record IsStepTaken (m : Meaning) {S : Type 0} (Stands : S → Word → Type 0) (step : Move S)
    (before after : Contents S) (firings : List Firing) : Type 0 where
  pub between : Contents S
  pub slotted : Move S
  pub placed : ArePlacedOf before between (step ∷ []) (step ∷ []) (slotted ∷ [])
  pub paired : ArePaired between
  pub stored : stored_of between ≡ stored_of before
  pub marks : between.marks ≡ before.marks
  pub same : (k : ℕ) → monitor_at between.monitors k ≡ monitor_at before.monitors k
  pub fits : (dead : List Bool) → IsFitting before.index dead → AreBelow (length dead) step.monitor.instance
      → IsFitting between.index dead
  pub monitors : after.monitors ≡ after_moves (slotted ∷ []) between.monitors
  pub dropped : after.index.dropped ≡ between.index.dropped
  pub fewer : EndsFewer before.ending after.ending
  pub ended : IsEnding m Stands after.ending slotted.monitor
  pub report : IsReport m Stands (step.monitor ∷ []) firings

-- The monitor of slot k was moved by the letter: it has the next state, or it is gone where that is cut. The answer is
-- its report, and nothing else changed but letters that were kept.
pub record IsSlotAdvanced (m : Meaning) {S : Type 0} (Stands : S → Word → Type 0) (letter : ℕ) (dead : List Bool)
    (k : ℕ) (base : Stored S) (before after : Contents S) (firings : List Firing) : Type 0 where
  pub state : S
  pub stays : Bool
  pub next : IsNext m Stands letter dead base.instance base.state state stays
  pub report : IsReport m Stands (record { instance = base.instance; state = state } ∷ []) firings
  pub monitors : after.monitors ≡ slice_set before.monitors k
      (cond stays (Some (record { instance = base.instance; state = state })) None)
  pub marks : after.marks ≡ before.marks
  pub fewer : EndsFewer before.ending after.ending
  pub ended : IsEnding m Stands after.ending (record { instance = base.instance; state = state })
  pub dropped : after.index.dropped ≡ before.index.dropped

-- Slot k has the only monitor above b, of all those to which the index leads; it leads to each monitor.
pub record IsOnlyAbove {S : Type 0} (b : Binding) (store : Contents S) (k : ℕ) : Type 0 where
  pub visit : AreVisited (has_all b) b store.monitors (k ∷ [])
  pub above : (s : Stored S) → monitor_at store.monitors k ≡ Some s → is_below b s.instance ≡ true
  pub paired : ArePaired store
  pub filled : (pair : Pair) → Contains store.index.list pair → IsFilled store pair

-- No monitor lies above b, of all those to which the index leads; it leads to each monitor.
pub record IsNoneAbove {S : Type 0} (b : Binding) (store : Contents S) : Type 0 where
  pub visit : AreVisited (has_all b) b store.monitors []
  pub paired : ArePaired store
  pub filled : (pair : Pair) → Contains store.index.list pair → IsFilled store pair

-- what lies above b: the monitor of a slot, or none
abbrev pub IsAbove : {S : Type 0} → Binding → Contents S → Option ℕ → Type 0
IsAbove b store None = IsNoneAbove b store
IsAbove b store (Some k) = IsOnlyAbove b store k
