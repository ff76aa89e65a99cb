-- A store after an event that was planned and committed.
use Rattle.std.proofs.Common.{◌≡◌, ℕ, Bool, List, [], ◌∷◌, ◌++◌, sym, ◌∙◌, ap, subst}
use Rattle.jm_monitors.proofs.RestLemmas.{rest_keeps_store, rest_answer}
use Rattle.jm_model.specs.Meanings.{Meaning}
use Rattle.jm_model.specs.declared.binding.Binding.{Binding}
use Rattle.jm_model.specs.declared.firings.Firing.{Firing}
use Rattle.jm_model.specs.declared.step.Outcome.{Outcome}
use Rattle.jm_model.specs.declared.step.Outcome.TheVariants.{Fired, Refused, Done, Kept, NoMemory}
use Rattle.jm_semantics.specs.Traces.{ParametricEvent}
use Rattle.jm_semantics.specs.Answers.{IsAnswer}
use Rattle.jm_monitors.specs.declared.stored.Stored.{Stored}
use Rattle.jm_monitors.specs.Steps.{NoneCutAbove, IsLiveEvent, AreResting}
use Rattle.jm_store.specs.declared.moves.Plan.{Plan}
use Rattle.jm_store.specs.Contents.{Contents, stored_of, IsStoreAfter, IsPlanOf}
use Rattle.jm_core.specs.Cores.{Core, KeepsMemoryUnlessFired}
use Rattle.jm_core.specs.Inside.{IsMoved, IsOutcomeOf, instances_of}

module _ (m : Meaning) {S : Type 0} (Stands : S → List ℕ → Type 0) (trace : List ParametricEvent) (dead : List Bool) (letter : ℕ) where
  -- the answer, and what is stored afterwards
  abbrev IsCarriedOut : Binding → Contents S → List Firing → Type 0
  IsCarriedOut b after firings = IsAnswer m trace (record { letter = letter; binding = b }) firings × IsMoved m Stands trace dead (record { letter = letter; binding = b }) after

  pub carried_out : (b : Binding) (before after : Contents S) (plan : Plan S) (firings : List Firing) → IsPlanOf m Stands trace dead letter before plan → plan.binding ≡ b
      → IsStoreAfter m Stands (trace ++ record { letter = letter; binding = plan.binding } ∷ []) dead after × NoneCutAbove m Stands plan.binding dead (stored_of after) → firings ≡ plan.answer
      → IsAnswer m trace (record { letter = letter; binding = b }) firings × IsMoved m Stands trace dead (record { letter = letter; binding = b }) after
  carried_out b before after plan firings works is left answer =
      let a : ParametricEvent = record { letter = letter; binding = plan.binding } in
      let done : IsCarriedOut plan.binding after firings = (
        subst (λ (l : List Firing). IsAnswer m trace a l) (sym answer) works.answer,
        record { holds = left.0; none_cut = left.1 },
      ) in
      subst (λ (c : Binding). IsCarriedOut c after firings) is done

-- what a core keeps in memory after an event
pub keeps_memory : {D : Type 0} (m : Meaning) {S : Type 0} (Stands : S → List ℕ → Type 0) (trace : List ParametricEvent) (dead : List Bool) (a : ParametricEvent) (before after : Contents S) (o : Outcome) (core next : Core D)
    → IsOutcomeOf m Stands trace dead a before after o → core.stored ≡ instances_of (stored_of before) → core.marks ≡ before.marks
    → next.stored ≡ instances_of (stored_of after) → next.marks ≡ after.marks → KeepsMemoryUnlessFired o core next
keeps_memory m Stands trace dead a before after (Fired firings) core next parts s k t l = tt
keeps_memory m {S} Stands trace dead a before after (Refused o) core next parts s k t l = record {
  stored = t ∙ ap (λ (r : List (Stored S)). instances_of r) parts.1.stored ∙ sym s;
  marks = l ∙ parts.1.marks ∙ sym k;
}
keeps_memory m {S} Stands trace dead a before after NoMemory core next parts s k t l = record {
  stored = t ∙ ap (λ (r : List (Stored S)). instances_of r) parts.1.stored ∙ sym s;
  marks = l ∙ parts.1.marks ∙ sym k;
}
keeps_memory m Stands trace dead a before after Done core next parts s k t l = absurd parts
keeps_memory m Stands trace dead a before after (Kept n) core next parts s k t l = absurd parts

-- an event that leaves all as it is
pub at_rest : (m : Meaning) {S : Type 0} (Stands : S → List ℕ → Type 0) (trace : List ParametricEvent) (dead : List Bool) (letter : ℕ) (b : Binding) (store : Contents S) → IsStoreAfter m Stands trace dead store → IsLiveEvent m dead letter b
    → AreResting m Stands dead letter b (stored_of store) store.marks
    → IsAnswer m trace (record { letter = letter; binding = b }) [] × IsMoved m Stands trace dead (record { letter = letter; binding = b }) store
at_rest m Stands trace dead letter b store holds event resting =
    let kept = rest_keeps_store m Stands trace dead letter b (stored_of store) store.marks holds.monitors event resting in (
      rest_answer m Stands trace dead letter b (stored_of store) store.marks holds.monitors event resting,
      record { holds = record { monitors = kept.0; ended = holds.ended; spared = holds.spared }; none_cut = kept.1 },
    )

-- what an event comes to in a store of the same monitors and marks as another
pub outcome_before : (m : Meaning) {S : Type 0} (Stands : S → List ℕ → Type 0) (trace : List ParametricEvent) (dead : List Bool) (a : ParametricEvent) (old mid new : Contents S) (o : Outcome) → stored_of mid ≡ stored_of old
    → mid.marks ≡ old.marks → IsOutcomeOf m Stands trace dead a mid new o → IsOutcomeOf m Stands trace dead a old new o
outcome_before m Stands trace dead a old mid new (Fired firings) stored marks is = is
outcome_before m Stands trace dead a old mid new (Refused o) stored marks is = (is.0, record { stored = is.1.stored ∙ stored; marks = is.1.marks ∙ marks; holds = is.1.holds })
outcome_before m Stands trace dead a old mid new NoMemory stored marks is = (is.0, record { stored = is.1.stored ∙ stored; marks = is.1.marks ∙ marks; holds = is.1.holds })
outcome_before m Stands trace dead a old mid new Done stored marks is = absurd is
outcome_before m Stands trace dead a old mid new (Kept n) stored marks is = absurd is
