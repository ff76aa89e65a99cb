-- Contents that are a store of a trace.
use Rattle.std.proofs.Common.{◌≡◌, ℕ, ◌<◌, Bool, true, List, [], ◌∷◌, ◌++◌, length, sym, subst}
use Rattle.std.specs.Prelude.{Option, slice_set}
use Rattle.std.proofs.lemmas.List.{length-set}
use Rattle.jm_model.specs.Meanings.{Meaning}
use Rattle.jm_model.specs.declared.binding.Binding.{Binding}
use Rattle.jm_semantics.specs.Traces.{ParametricEvent}
use Rattle.jm_index.specs.Index.{flag_of}
use Rattle.jm_index.proofs.IndexLemmas.{IsFitting-death}
use Rattle.jm_monitors.specs.declared.stored.Stored.{Stored}
use Rattle.jm_monitors.specs.Stores.{IsStoreOf}
use Rattle.jm_monitors.specs.Steps.{IsAtStart, AreMarksAfter, NoneCutAbove, IsThinned, AreSpared, AreLiveMarks, after_death}
use Rattle.jm_monitors.proofs.StartLemmas.{start_is_store-lem}
use Rattle.jm_monitors.proofs.PassLemmas.{death_keeps_store-lem, pass_keeps_store-lem}
use Rattle.jm_store.specs.declared.moves.Plan.{Plan}
use Rattle.jm_store.specs.Slots.{stored_in}
use Rattle.jm_store.specs.Moves.{AreEnding, EndsFewer}
use Rattle.jm_store.specs.Contents.{Contents, stored_of, monitors_after, IsFit, IsSpared, IsFitFor, IsStoreAfter, IsPlanOf}
use Rattle.jm_store.proofs.EndingLemmas.{ending_fewer}
use Rattle.jm_store.proofs.SparedLemmas.{spared_fewer, alive_fewer}

module _ (m : Meaning) {S : Type 0} (Stands : S → List ℕ → Type 0) where
  -- before the first event
  pub store_at_start : (dead : List Bool) (store : Contents S) → IsAtStart m Stands (stored_of store) → store.marks ≡ [] → AreEnding m Stands store.ending (stored_of store)
      → AreSpared m Stands store.index.dropped (stored_of store) → IsStoreAfter m Stands [] dead store
  store_at_start dead store start none ended spared = record {
    monitors = subst (λ (marks : List Binding). IsStoreOf m Stands [] dead (stored_of store) marks) (sym none) (start_is_store-lem m Stands dead (stored_of store) start);
    ended = ended;
    spared = spared;
  }

  -- the same monitors, and no object dropped that wasn't
  pub spared_same : (old new : Contents S) → stored_of new ≡ stored_of old → ((o : ℕ) → flag_of new.index.dropped o ≡ true → flag_of old.index.dropped o ≡ true) → IsSpared m Stands old
      → IsSpared m Stands new
  spared_same old new stored dropped spared =
      subst (λ (l : List (Stored S)). AreSpared m Stands new.index.dropped l) (sym stored) (spared_fewer m Stands old.index.dropped new.index.dropped (stored_of old) dropped spared)

  -- the same monitors and marks, no letter that wasn't kept, and no object dropped that wasn't
  pub store_same : (trace : List ParametricEvent) (dead : List Bool) (old new : Contents S) → stored_of new ≡ stored_of old → new.marks ≡ old.marks → EndsFewer old.ending new.ending
      → ((o : ℕ) → flag_of new.index.dropped o ≡ true → flag_of old.index.dropped o ≡ true) → IsStoreAfter m Stands trace dead old → IsStoreAfter m Stands trace dead new
  store_same trace dead old new stored marks fewer dropped holds = record {
    monitors = subst (λ (l : List (Stored S)). IsStoreOf m Stands trace dead l new.marks) (sym stored)
        (subst (λ (l : List Binding). IsStoreOf m Stands trace dead (stored_of old) l) (sym marks) holds.monitors);
    ended = subst (λ (l : List (Stored S)). AreEnding m Stands new.ending l) (sym stored) (ending_fewer m Stands old.ending new.ending (stored_of old) fewer holds.ended);
    spared = spared_same old new stored dropped holds.spared;
  }

  -- after a plan was carried out
  pub store_after_plan : (trace : List ParametricEvent) (dead : List Bool) (letter : ℕ) (before after : Contents S) (plan : Plan S) → IsPlanOf m Stands trace dead letter before plan
      → after.monitors ≡ monitors_after before plan → AreMarksAfter plan.binding before.marks after.marks → after.ending ≡ before.ending → after.index.dropped ≡ before.index.dropped
      → IsStoreAfter m Stands (trace ++ record { letter = letter; binding = plan.binding } ∷ []) dead after × NoneCutAbove m Stands plan.binding dead (stored_of after)
  store_after_plan trace dead letter before after plan works monitors marks ending dropped = (
    works.store after (record { monitors = monitors; marks = marks; ending = ending; dropped = dropped }),
    subst (λ (l : List (Option (Stored S))). NoneCutAbove m Stands plan.binding dead (stored_in l)) (sym monitors) works.none_cut,
  )

  pub store_after_death : (trace : List ParametricEvent) (dead : List Bool) (store : Contents S) (o : ℕ) → IsStoreAfter m Stands trace dead store → IsStoreAfter m Stands trace (after_death dead o) store
  store_after_death trace dead store o holds = record {
    monitors = death_keeps_store-lem m Stands trace dead (stored_of store) store.marks o holds.monitors;
    ended = holds.ended;
    spared = holds.spared;
  }

  -- after a pass that dropped dead objects alone
  pub store_after_pass : (trace : List ParametricEvent) (dead : List Bool) (old new : Contents S) → IsThinned m Stands dead (stored_of old) (stored_of new)
      → (AreSpared m Stands old.index.dropped (stored_of old) → AreSpared m Stands dead (stored_of new)) → AreLiveMarks dead old.marks new.marks → new.ending ≡ old.ending
      → ((o : ℕ) → flag_of new.index.dropped o ≡ true → flag_of dead o ≡ true) → IsStoreAfter m Stands trace dead old → IsStoreAfter m Stands trace dead new
  store_after_pass trace dead old new thinned alive marks ending dropped holds =
      let left = alive holds.spared in
      record {
        monitors = (pass_keeps_store-lem m Stands trace dead (stored_of old) (stored_of new) old.marks new.marks holds.monitors (record { thinned = thinned; alive = left; left_marks = marks })).0;
        ended = subst (λ (l : List ℕ). AreEnding m Stands l (stored_of new)) (sym ending) (λ s there. holds.ended s (thinned.among s there));
        spared = λ s there. alive_fewer m Stands dead new.index.dropped s.state s.instance dropped (left s there);
      }

-- a store that fits a table of objects fits it after a death
pub fit_after_death : {S : Type 0} (store : Contents S) (dead : List Bool) (o : ℕ) → IsFit store dead → IsFit store (after_death dead o)
fit_after_death store dead o fit =
    let size : length (slice_set dead o true) ≡ length dead = length-set dead o true in
    record {
      instances = λ s h q at. subst (λ n. q < n) (sym size) (fit.instances s h q at);
      marks = λ b h q at. subst (λ n. q < n) (sym size) (fit.marks b h q at);
      index = IsFitting-death store.index dead o fit.index;
    }

-- and so one that fits rules too
pub fit_for_after_death : (m : Meaning) {S : Type 0} (Stands : S → List ℕ → Type 0) (store : Contents S) (dead : List Bool) (o : ℕ) → IsFitFor m Stands store dead
    → IsFitFor m Stands store (after_death dead o)
fit_for_after_death m Stands store dead o fit = record { fits = fit_after_death store dead o fit.fits; spared = fit.spared }
