use Rattle.std.specs.Prelude.{◌≡◌, ◌≢◌, ◌↔◌, ◌⊎◌, ℕ, List, [], ◌∷◌, ◌++◌, length, true, All}
use Rattle.jm_model.specs.Bindings.{is_below, is_compatible, join}
use Rattle.jm_model.specs.Meanings.{Meaning}
use Rattle.jm_model.specs.declared.binding.Binding.{Binding}
use Rattle.jm_model.specs.declared.firings.Firing.{Firing}
use Rattle.jm_model.specs.declared.step.Entry.{Entry}
use Rattle.jm_model.specs.declared.step.Step.{Step}
use Rattle.jm_model.specs.declared.step.Outcome.{Outcome}
use Rattle.jm_model.specs.declared.step.Outcome.TheVariants.{NoMemory}
use Rattle.jm_semantics.specs.Traces.{ParametricEvent, slice_of}
use Rattle.jm_semantics.specs.Instances.{IsInstance, join_below}
use Rattle.jm_semantics.specs.Answers.{IsAnswer}
use Rattle.jm_semantics.specs.Disposal.{IsCut, IsKeptCount}
use Rattle.jm_semantics.specs.Legality.{IsLegal, IsReply, Names}

-- instances are joins: a binding is an instance exactly where it is the join of the seen bindings below it
abbrev pub InstancesAreJoins : Type 0
InstancesAreJoins =
    (trace : List ParametricEvent) (t : Binding) → (IsInstance trace t ↔ ((length t ≡ 8) × (t ≡ join_below trace t)))

-- t is an instance of the trace, or the join of one with the binding of the event
abbrev pub IsGrownInstance : List ParametricEvent → ParametricEvent → Binding → Type 0
IsGrownInstance trace a t =
    IsInstance trace t ⊎ ((s : Binding) × IsInstance trace s × (is_compatible s a.binding ≡ true)
    × (t ≡ join s a.binding))

-- an event adds to the instances exactly their joins with its binding
abbrev pub InstancesGrowByJoins : Type 0
InstancesGrowByJoins = (trace : List ParametricEvent) (a : ParametricEvent) (t : Binding) → length a.binding ≡ 8 →
    (IsInstance (trace ++ a ∷ []) t ↔ IsGrownInstance trace a t)

-- Slice of a new instance: where t becomes an instance with an event, its slice before the event is that of s,
-- the join of the seen bindings below t, and t is the join of s and the event's binding.
abbrev pub SliceOfNewInstance : Type 0
SliceOfNewInstance = (trace : List ParametricEvent) (a : ParametricEvent) (t : Binding) →
    (IsInstance trace t → ⊥) → IsInstance (trace ++ a ∷ []) t →
    (let s = join_below trace t in
    IsInstance trace s × (slice_of trace t ≡ slice_of trace s) × (t ≡ join s a.binding) × (is_below a.binding t ≡ true))

-- any binding's slice is that of an instance, the join of the seen bindings below it
abbrev pub SliceOfAnyBinding : Type 0
SliceOfAnyBinding = (trace : List ParametricEvent) (t : Binding) → length t ≡ 8 →
    (IsInstance trace (join_below trace t) × (slice_of trace t ≡ slice_of trace (join_below trace t)))

-- an event has one answer
abbrev pub AnswerIsDetermined : Meaning → Type 0
AnswerIsDetermined m = (trace : List ParametricEvent) (a : ParametricEvent) (firings others : List Firing) →
    IsAnswer m trace a firings → IsAnswer m trace a others → firings ≡ others

-- a history has one number of kept instances
abbrev pub KeptCountIsDetermined : Meaning → Type 0
KeptCountIsDetermined m =
    (h : List Entry) (count other : ℕ) → IsKeptCount m h count → IsKeptCount m h other → count ≡ other

-- Cut is final: an instance that is cut stays so after each prefix of whatever follows, and no outcome names it.
abbrev pub CutIsFinal : Meaning → Type 0
CutIsFinal m = (h g : List Entry) (t : Binding) → IsLegal m (h ++ g) → IsCut m h t →
    (((pre post : List Entry) → g ≡ pre ++ post → IsCut m (h ++ pre) t) × All (λ x. Names x.outcome t → ⊥) g)

-- a step has one reply, out of memory aside
abbrev pub ReplyIsDetermined : Meaning → Type 0
ReplyIsDetermined m = (h : List Entry) (s : Step) (outcome other : Outcome) →
    IsReply m h s outcome → IsReply m h s other → outcome ≢ NoMemory → other ≢ NoMemory → outcome ≡ other

-- Legality pins each outcome: two legal histories that agree up to a step give it one outcome, out of memory
-- aside.
abbrev pub OutcomeIsPinned : Meaning → Type 0
OutcomeIsPinned m = (h : List Entry) (x y : Entry) (g k : List Entry) →
    IsLegal m (h ++ x ∷ g) → IsLegal m (h ++ y ∷ k) → x.step ≡ y.step →
    x.outcome ≢ NoMemory → y.outcome ≢ NoMemory → x.outcome ≡ y.outcome
