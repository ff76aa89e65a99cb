-- Which monitors a store has, and which marks, after a trace and some deaths.
use Rattle.std.specs.Prelude.{◌≡◌, ◌≢◌, Bool, true, List, Contains}
use Rattle.std.specs.List.{AllPairs}
use Rattle.jm_model.specs.Words.{Word}
use Rattle.jm_model.specs.Meanings.{Meaning, IsCutWord}
use Rattle.jm_model.specs.declared.binding.Binding.{Binding}
use Rattle.jm_semantics.specs.Traces.{ParametricEvent, seen_of, slice_of}
use Rattle.jm_semantics.specs.Instances.{IsInstance}
use Rattle.jm_marks.specs.Marks.{dead_mask_of, has_live}
use Rattle.jm_monitors.specs.declared.stored.Stored.{Stored}

-- one of the monitors is of instance t
abbrev pub HasInstance : {S : Type 0} → List (Stored S) → Binding → Type 0
HasInstance {S} monitors t = (s : Stored S) × Contains monitors s × (s.instance ≡ t)

-- the monitor of an instance of the trace, whose state stands for the slice
abbrev pub IsMonitorOf : {S : Type 0} → (S → Word → Type 0) → List ParametricEvent → Stored S → Type 0
IsMonitorOf Stands trace s = IsInstance trace s.instance × Stands s.state (slice_of trace s.instance)

-- Stored are distinct instances, with states that stand for their slices, and each instance that isn't stored is cut.
-- Each mark was seen, and each seen binding with a live object is a mark. Objects are dead by the flags.
pub record IsStoreOf (m : Meaning) {S : Type 0} (Stands : S → Word → Type 0) (trace : List ParametricEvent)
    (dead : List Bool) (stored : List (Stored S)) (marks : List Binding) : Type 0 where
  pub distinct : AllPairs (λ r s. r.instance ≢ s.instance) stored
  pub each : (s : Stored S) → Contains stored s → IsMonitorOf Stands trace s
  pub cut : (t : Binding) → IsInstance trace t → (HasInstance stored t → ⊥)
      → IsCutWord m (slice_of trace t) (dead_mask_of dead t)
  pub seen : (b : Binding) → Contains marks b → Contains (seen_of trace) b
  pub marked : (b : Binding) → Contains (seen_of trace) b → has_live dead b ≡ true → Contains marks b
