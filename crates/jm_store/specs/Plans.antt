-- What working out an event needs of a store, what it leaves of it, and what it answers.
use Rattle.std.specs.Prelude.{ℕ, ◌≡◌, ◌≢◌, ◌≤◌, AllPairs, take, Bool, true, false, List, [], Option, Some, None, Result, Ok, Err, IfNone, IfSome, IfOk, OnOk, OnErr, length}
use Rattle.jm_model.specs.Words.{Word}
use Rattle.jm_model.specs.Meanings.{Meaning}
use Rattle.jm_model.specs.declared.binding.Binding.{Binding}
use Rattle.jm_model.specs.declared.step.NoMemory.{NoMemory}
use Rattle.jm_semantics.specs.Traces.{ParametricEvent}
use Rattle.jm_index.specs.Index.{AreBelow}
use Rattle.jm_awake.specs.Awake.{Lists}
use Rattle.jm_monitors.specs.Steps.{IsLiveEvent, IsReport, AreMarksAfter, AreResting}
use Rattle.jm_monitors.specs.declared.stored.Stored.{Stored}
use Rattle.jm_store.specs.declared.moves.Move.{Move}
use Rattle.jm_store.specs.declared.walk.Shift.{Shift}
use Rattle.jm_store.specs.declared.store.at_once.Reading.{Reading}
use Rattle.jm_store.specs.declared.moves.Plan.{Plan}
use Rattle.jm_store.specs.declared.store.advance.Done.{Done}
use Rattle.jm_store.specs.Slots.{monitor_at}
use Rattle.jm_store.specs.Moves.{EndsFewer, AreEnding, AreSifted, IsReadAt, after_moves, reached_by}
use Rattle.jm_store.specs.Walks.{IsShiftAt}
use Rattle.jm_store.specs.Contents.{Contents, stored_of, IsFit, IsSpared, IsStoreAfter, IsPlanFor, IsPlanOf, IsCarriedOut, IsEventDone, IsStepTaken, IsSlotAdvanced}

-- No plan is open in the store, it fits the objects, and the event is one of the specification's, of live objects that
-- stand in their table.
pub record CanPlan (m : Meaning) {S : Type 0} (dead : List Bool) (letter : ℕ) (b : Binding)
    (store : Contents S) : Type 0 where
  pub closed : store.is_open ≡ false
  pub fits : IsFit store dead
  pub event : IsLiveEvent m dead letter b
  pub there : AreBelow (length dead) b

module _ (m : Meaning) {S : Type 0} (Stands : S → Word → Type 0) (dead : List Bool) (letter : ℕ) (b : Binding)
    (old new : Contents S) where
  -- Monitors and marks are as before, and of whatever trace the store was one, it still is. Unless out of memory there
  -- is a plan, open in the store, that fits it, and is that of the event after each such trace. A store that fits rules
  -- and objects still does, and does once the plan was carried out.
  pub record Plans (result : Result (Plan S) NoMemory) : Type 0 where
    pub stored : stored_of new ≡ stored_of old
    pub monitors : (k : ℕ) → monitor_at new.monitors k ≡ monitor_at old.monitors k
    pub marks : new.marks ≡ old.marks
    pub fewer : EndsFewer old.ending new.ending
    pub fits : IsFit new dead
    pub closed : OnErr result (new.is_open ≡ false)
    pub opened : OnOk result (new.is_open ≡ true)
    pub binding : IfOk result (λ plan. plan.binding ≡ b)
    pub plan : IfOk result (λ plan. IsPlanFor new plan)
    pub keeps : (trace : List ParametricEvent) → IsStoreAfter m Stands trace dead old
        → IsStoreAfter m Stands trace dead new
    pub spares : IsSpared m Stands old → IsSpared m Stands new
    pub leaves : IfOk result (λ plan. IsSpared m Stands old → (after : Contents S) → IsCarriedOut new after plan
        → IsSpared m Stands after)
    pub works : IfOk result (λ plan. (trace : List ParametricEvent) → IsStoreAfter m Stands trace dead old
        → IsPlanOf m Stands trace dead letter new plan)

  -- There is a plan; or none is needed, since the event leaves each monitor above its binding as it is.
  abbrev pub PlansUnlessRests : Result (Option (Plan S)) NoMemory → Type 0
  PlansUnlessRests (Ok None) = (new ≡ old) × AreResting m Stands dead letter b (stored_of old) old.marks
  PlansUnlessRests (Ok (Some plan)) = Plans (Ok plan)
  PlansUnlessRests (Err e) = Plans (Err e)

  -- The event was done at once, and is answered twice; its binding is a mark. Or monitors and marks are as before, and
  -- of whatever trace the store was one, it still is. A store that fits rules and objects still does.
  pub record Advances (result : Option Done) : Type 0 where
    pub stored : IfNone result (stored_of new ≡ stored_of old)
    pub unmarked : IfNone result (new.marks ≡ old.marks)
    pub keeps : IfNone result ((trace : List ParametricEvent) → IsStoreAfter m Stands trace dead old
        → IsStoreAfter m Stands trace dead new)
    pub fits : IsFit new dead
    pub spares : IsSpared m Stands old → IsSpared m Stands new
    pub closed : new.is_open ≡ false
    pub marks : IfSome result (λ done. AreMarksAfter b old.marks new.marks)
    pub twice : IfSome result (λ done. done.copy ≡ done.answer)
    pub works : IfSome result (λ done. (trace : List ParametricEvent) → IsStoreAfter m Stands trace dead old
        → IsEventDone m Stands trace dead letter b new done.answer)

-- no handler runs
abbrev pub IsSilent : Done → Type 0
IsSilent done = (done.answer ≡ []) × (done.copy ≡ [])

-- the move of an event with binding b was taken at once, b is a mark, and the answer is there twice
pub record IsStepDone (m : Meaning) {S : Type 0} (Stands : S → Word → Type 0) (b : Binding) (step : Move S)
    (old new : Contents S) (done : Done) : Type 0 where
  pub marks : AreMarksAfter b old.marks new.marks
  pub twice : done.copy ≡ done.answer
  pub taken : IsStepTaken m Stands step old new done.answer

-- the monitor of slot k was moved by the letter, and the answer is there twice
pub record IsSlotDone (m : Meaning) {S : Type 0} (Stands : S → Word → Type 0) (letter : ℕ) (dead : List Bool) (k : ℕ)
    (old new : Contents S) (done : Done) : Type 0 where
  pub twice : done.copy ≡ done.answer
  pub moved : (base : Stored S) → monitor_at old.monitors k ≡ Some base
      → IsSlotAdvanced m Stands letter dead k base old new done.answer

-- What the event makes of the monitors of some slots, of those that get other numbers by so many of the shifts, and of
-- others by moves; of those of `rests` it makes nothing. And the answer, twice, which is the report of the moves where
-- they are of distinct instances.
pub record IsReading (m : Meaning) {S : Type 0} (Stands : S → Word → Type 0) (HasNumber : S → ℕ → Type 0) (letter : ℕ)
    (dead : List Bool) (b : Binding) (marks : List Binding) (store : Contents S) (lists : Lists) (slots : List ℕ)
    (shifts : List Shift) (moves : List (Move S)) (rests : List ℕ) (reading : Reading) : Type 0 where
  pub within : reading.count ≤ length shifts
  pub sifted : AreSifted (IsShiftAt m Stands HasNumber letter dead b store.ending lists store.monitors)
      (IsReadAt m Stands letter b dead marks store.monitors) slots (take reading.count shifts) moves
      rests
  pub report : AllPairs (λ r s. r.instance ≢ s.instance) (reached_by moves)
      → IsReport m Stands (reached_by moves) reading.answer
  pub twice : reading.copy ≡ reading.answer

-- The moves were carried out, and the letters that were kept end their monitors. A store that fits objects still does.
pub record IsApplied (m : Meaning) {S : Type 0} (Stands : S → Word → Type 0) (moves : List (Move S))
    (before after : Contents S) : Type 0 where
  pub closed : after.is_open ≡ false
  pub monitors : after.monitors ≡ after_moves moves before.monitors
  pub marks : after.marks ≡ before.marks
  pub dropped : after.index.dropped ≡ before.index.dropped
  pub fits : (dead : List Bool) → IsFit before dead → IsFit after dead
  pub fewer : EndsFewer before.ending after.ending
  pub ended : AreEnding m Stands after.ending (reached_by moves)
