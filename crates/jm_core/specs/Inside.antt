-- What holds of what is inside a core.
use Rattle.std.specs.Prelude.{◌≡◌, ℕ, Bool, false, List, [], ◌∷◌, ◌++◌, Option, Some, None, length, map, find}
use Rattle.jm_model.specs.Words.{Word}
use Rattle.jm_model.specs.Meanings.{Meaning}
use Rattle.jm_model.specs.Bindings.{objects_of}
use Rattle.jm_model.specs.declared.binding.Binding.{Binding}
use Rattle.jm_model.specs.declared.step.Outcome.{Outcome}
use Rattle.jm_model.specs.declared.step.Outcome.TheVariants.{Fired, Refused, NoMemory}
use Rattle.jm_model.specs.declared.step.Entry.{Entry}
use Rattle.jm_semantics.specs.Traces.{ParametricEvent}
use Rattle.jm_semantics.specs.Histories.{trace_of}
use Rattle.jm_semantics.specs.Answers.{IsAnswer}
use Rattle.jm_semantics.specs.Legality.{IsLegal}
use Rattle.jm_marks.specs.Marks.{is_dead_object}
use Rattle.jm_monitors.specs.declared.stored.Stored.{Stored}
use Rattle.jm_monitors.specs.Deaths.{AreFlagsOf}
use Rattle.jm_index.specs.Index.{AreBelow}
use Rattle.jm_monitors.specs.Steps.{NoneCutAbove, IsLiveEvent}
use Rattle.jm_store.specs.Contents.{Contents, stored_of, IsFit, IsStoreAfter}
use Rattle.jm_store.specs.Listed.{AreListed}
use Rattle.jm_awake.specs.Awake.{Lists}
use Rattle.jm_core.specs.Cores.{IsTidy}

-- the instances of monitors
abbrev pub instances_of : {S : Type 0} → List (Stored S) → List Binding
instances_of monitors = map (λ s. s.instance) monitors

-- the first dead object that b binds, by the flags
abbrev pub first_dead_by : List Bool → Binding → Option ℕ
first_dead_by dead b = find (is_dead_object dead) (objects_of b)

module _ (m : Meaning) {S : Type 0} (Stands : S → Word → Type 0) where
  -- The history is legal, and the flags of objects are those of its dead ones. The store fits the objects, has no open
  -- plan, and is one of the history's events and dead objects.
  pub record IsCore (h : List Entry) (dead : List Bool) (store : Contents S) : Type 0 where
    pub legal : IsLegal m h
    pub flags : AreFlagsOf h dead
    pub closed : store.is_open ≡ false
    pub fits : IsFit store dead
    pub holds : IsStoreAfter m Stands (trace_of h) dead store
    pub tidy : IsTidy m h (instances_of (stored_of store)) store.marks

  -- monitors and marks are as before, and the contents are still a store of the trace
  pub record IsUntouched (trace : List ParametricEvent) (dead : List Bool) (before after : Contents S) : Type 0 where
    pub stored : stored_of after ≡ stored_of before
    pub marks : after.marks ≡ before.marks
    pub holds : IsStoreAfter m Stands trace dead after

  -- the contents are a store of the trace with the event a, in which no monitor above its binding is cut
  pub record IsMoved (trace : List ParametricEvent) (dead : List Bool) (a : ParametricEvent)
      (after : Contents S) : Type 0 where
    pub holds : IsStoreAfter m Stands (trace ++ a ∷ []) dead after
    pub none_cut : NoneCutAbove m Stands a.binding dead (stored_of after)

  -- what an event comes to in a store
  abbrev pub IsOutcomeOf : List ParametricEvent → List Bool → ParametricEvent → Contents S → Contents S → Outcome
      → Type 0
  IsOutcomeOf trace dead a before after (Fired firings) =
      (first_dead_by dead a.binding ≡ None) × IsAnswer m trace a firings × IsMoved trace dead a after
  IsOutcomeOf trace dead a before after (Refused o) =
      (first_dead_by dead a.binding ≡ Some o) × IsUntouched trace dead before after
  IsOutcomeOf trace dead a before after NoMemory =
      (first_dead_by dead a.binding ≡ None) × IsUntouched trace dead before after
  IsOutcomeOf trace dead a before after _ = ⊥

  -- The event a can be done. The store has no open plan and fits the objects, and the lists tell of it; the event binds
  -- objects that are there, and it is one of the specification where none of them is dead.
  pub record CanPerform (dead : List Bool) (a : ParametricEvent) (store : Contents S) (lists : Lists) : Type 0 where
    pub closed : store.is_open ≡ false
    pub fits : IsFit store dead
    pub eight : length a.binding ≡ 8
    pub event : first_dead_by dead a.binding ≡ None → IsLiveEvent m dead a.letter a.binding
    pub within : AreBelow (length dead) a.binding
    pub listed : AreListed m Stands dead store.monitors lists

  -- The event a came to an outcome, which is told twice. The store has no open plan and fits the objects, and the lists
  -- tell of it; of whatever trace it was one, the outcome is the event's after it.
  pub record Performs (dead : List Bool) (a : ParametricEvent) (before after : Contents S) (old new : Lists)
      (outcomes : Outcome × Outcome) : Type 0 where
    pub twice : outcomes.1 ≡ outcomes.0
    pub closed : after.is_open ≡ false
    pub fits : IsFit after dead
    pub listed : AreListed m Stands dead after.monitors new
    pub works : (trace : List ParametricEvent) → IsStoreAfter m Stands trace dead before
        → IsOutcomeOf trace dead a before after outcomes.0
