-- A core after one step more.
use Rattle.std.proofs.Common.{◌≡◌, ℕ, ◌<◌, ◌%◌, ◌^◌, Bool, true, false, List, [], ◌∷◌, ◌++◌, length, replicate, refl, sym, ◌∙◌, ap, subst}
use Rattle.std.specs.Prelude.{None}
use Rattle.std.proofs.Math.Nat.{mod-eq_of_lt}
use Rattle.jm_model.specs.Meanings.{Meaning}
use Rattle.jm_model.specs.declared.binding.Binding.{Binding}
use Rattle.jm_model.specs.declared.step.Letter.{Letter}
use Rattle.jm_model.specs.declared.step.Step.{Step}
use Rattle.jm_model.specs.declared.step.Step.TheVariants.{Event, Death, Pass}
use Rattle.jm_model.specs.declared.step.Outcome.{Outcome}
use Rattle.jm_model.specs.declared.step.Outcome.TheVariants.{Fired, Refused, Done, Kept, NoMemory}
use Rattle.jm_model.specs.declared.step.Entry.{Entry}
use Rattle.jm_semantics.specs.Traces.{ParametricEvent}
use Rattle.jm_semantics.specs.Histories.{trace_of, accepted_event, accepted_death}
use Rattle.jm_semantics.specs.Legality.{IsLegal, IsStepOf}
use Rattle.jm_semantics.proofs.HistoryLemmas.{trace_of-accepted, trace_of-other}
use Rattle.jm_semantics.proofs.LegalityLemmas.{legal-push}
use Rattle.jm_history.specs.Nodes.{Unanswered, answered}
use Rattle.jm_marks.specs.Marks.{is_dead_object}
use Rattle.jm_monitors.specs.Deaths.{AreFlagsOf}
use Rattle.jm_monitors.specs.Stores.{IsStoreOf}
use Rattle.jm_monitors.specs.Steps.{IsAfterPass, after_death}
use Rattle.jm_monitors.proofs.DeathLemmas.{flags_at_start-lem, flags_after_death-lem, flags_after_other-lem}
use Rattle.jm_monitors.proofs.CountLemmas.{pass_counts_stored-lem}
use Rattle.jm_store.specs.Contents.{Contents, stored_of, IsFit, IsStoreAfter}
use Rattle.jm_store.proofs.StoreLemmas.{store_after_death, fit_after_death}
use Rattle.jm_core.specs.Cores.{IsTidyAfter}
use Rattle.jm_core.specs.Inside.{instances_of, IsCore, IsOutcomeOf}
use Rattle.jm_core.proofs.FlagLemmas.{first_dead-by_flags}
use Rattle.jm_core.proofs.FitLemmas.{tidy-push, none_cut, swept}

module _ (m : Meaning) {S : Type 0} (Stands : S → List ℕ → Type 0) where
  -- before the first step
  pub core_at_start : (n : ℕ) (store : Contents S) → store.is_open ≡ false → ((dead : List Bool) → IsFit store dead) → ((dead : List Bool) → IsStoreAfter m Stands [] dead store)
      → IsCore m Stands [] (replicate n false) store
  core_at_start n store closed fits holds = record {
    legal = tt;
    flags = flags_at_start-lem n;
    closed = closed;
    fits = fits (replicate n false);
    holds = holds (replicate n false);
    tidy = tt;
  }

  -- a step that leaves monitors, marks and dead objects as they are
  core_same : (h : List Entry) (dead : List Bool) (before after : Contents S) (x : Entry) → IsCore m Stands h dead before → IsLegal m (h ++ x ∷ []) → accepted_event x.step x.outcome ≡ None
      → accepted_death x.step x.outcome ≡ None → after.is_open ≡ false → IsFit after dead → IsStoreAfter m Stands (trace_of h) dead after
      → IsTidyAfter m (h ++ x ∷ []) (instances_of (stored_of after)) after.marks x.step x.outcome → IsCore m Stands (h ++ x ∷ []) dead after
  core_same h dead before after x core legal no_event no_death closed fits holds tidy =
      record {
        legal = legal;
        flags = flags_after_other-lem h dead x core.flags no_death;
        closed = closed;
        fits = fits;
        holds = subst (λ (tr : List ParametricEvent). IsStoreAfter m Stands tr dead after) (sym (trace_of-other h x no_event)) holds;
        tidy = tidy-push m h x (instances_of (stored_of after)) after.marks tidy;
      }

  -- ---- events
  -- an event, whatever it was answered
  named_event : (h : List Entry) (dead : List Bool) (before after : Contents S) (caller line : ℕ) (e : Letter) (b : Binding) (o : Outcome) → IsCore m Stands h dead before → IsStepOf m (Event e b)
      → after.is_open ≡ false → IsFit after dead → IsOutcomeOf m Stands (trace_of h) dead (record { letter = e.0; binding = b }) before after o
      → IsCore m Stands (h ++ record { caller = caller; line = line; step = Event e b; outcome = o } ∷ []) dead after
  named_event h dead before after caller line e b (Fired firings) core is closed fits parts =
      let a : ParametricEvent = record { letter = e.0; binding = b } in
      let x : Entry = record { caller = caller; line = line; step = Event e b; outcome = Fired firings } in
      let flags : AreFlagsOf (h ++ x ∷ []) dead = flags_after_other-lem h dead x core.flags refl in
      let holds : IsStoreAfter m Stands (trace_of (h ++ x ∷ [])) dead after =
      subst (λ (tr : List ParametricEvent). IsStoreAfter m Stands tr dead after) (sym (trace_of-accepted h x a refl)) parts.2.holds in
      record {
        legal = legal-push m h x core.legal is (first_dead-by_flags h dead b core.flags ∙ parts.0, parts.1);
        flags = flags;
        closed = closed;
        fits = fits;
        holds = holds;
        tidy = tidy-push m h x (instances_of (stored_of after)) after.marks
            (none_cut m Stands (h ++ x ∷ []) dead (stored_of after) after.marks b flags holds.monitors parts.2.none_cut);
      }
  named_event h dead before after caller line e b (Refused o) core is closed fits parts =
      let x : Entry = record { caller = caller; line = line; step = Event e b; outcome = Refused o } in
      core_same h dead before after x core (legal-push m h x core.legal is (first_dead-by_flags h dead b core.flags ∙ parts.0)) refl refl closed fits parts.1.holds tt
  named_event h dead before after caller line e b NoMemory core is closed fits parts =
      let x : Entry = record { caller = caller; line = line; step = Event e b; outcome = NoMemory } in
      core_same h dead before after x core (legal-push m h x core.legal is (first_dead-by_flags h dead b core.flags ∙ parts.0)) refl refl closed fits parts.1.holds tt
  named_event h dead before after caller line e b Done core is closed fits parts = absurd parts
  named_event h dead before after caller line e b (Kept n) core is closed fits parts = absurd parts

  pub core_after_event : (h : List Entry) (dead : List Bool) (before after : Contents S) (u : Unanswered) (e : Letter) (b : Binding) (o : Outcome) → IsCore m Stands h dead before → u.step ≡ Event e b
      → IsStepOf m (Event e b) → after.is_open ≡ false → IsFit after dead → IsOutcomeOf m Stands (trace_of h) dead (record { letter = e.0; binding = b }) before after o
      → IsCore m Stands (h ++ answered u o ∷ []) dead after
  core_after_event h dead before after u e b o core step is closed fits parts =
      subst (λ (s : Step). IsCore m Stands (h ++ record { caller = u.caller; line = u.line; step = s; outcome = o } ∷ []) dead after) (sym step)
      (named_event h dead before after u.caller u.line e b o core is closed fits parts)

  -- ---- deaths
  named_death : (h : List Entry) (dead : List Bool) (store : Contents S) (caller line o : ℕ) → IsCore m Stands h dead store → o < length dead → is_dead_object dead o ≡ false
      → IsCore m Stands (h ++ record { caller = caller; line = line; step = Death o; outcome = Done } ∷ []) (after_death dead o) store
  named_death h dead store caller line o core within alive =
      let x : Entry = record { caller = caller; line = line; step = Death o; outcome = Done } in
      record {
        legal = legal-push m h x core.legal tt (core.flags o ∙ alive);
        flags = flags_after_death-lem h dead x o core.flags refl within;
        closed = core.closed;
        fits = fit_after_death store dead o core.fits;
        holds = subst (λ (tr : List ParametricEvent). IsStoreAfter m Stands tr (after_death dead o) store) (sym (trace_of-other h x refl))
            (store_after_death m Stands (trace_of h) dead store o core.holds);
        tidy = tidy-push m h x (instances_of (stored_of store)) store.marks tt;
      }

  pub core_after_death : (h : List Entry) (dead : List Bool) (store : Contents S) (u : Unanswered) (o : ℕ) → IsCore m Stands h dead store → u.step ≡ Death o → o < length dead
      → is_dead_object dead o ≡ false → IsCore m Stands (h ++ answered u Done ∷ []) (after_death dead o) store
  core_after_death h dead store u o core step within alive =
      subst (λ (s : Step). IsCore m Stands (h ++ record { caller = u.caller; line = u.line; step = s; outcome = Done } ∷ []) (after_death dead o) store) (sym step)
      (named_death h dead store u.caller u.line o core within alive)

  named_refusal : (h : List Entry) (dead : List Bool) (store : Contents S) (caller line o : ℕ) → IsCore m Stands h dead store → is_dead_object dead o ≡ true
      → IsCore m Stands (h ++ record { caller = caller; line = line; step = Death o; outcome = Refused o } ∷ []) dead store
  named_refusal h dead store caller line o core is =
      let x : Entry = record { caller = caller; line = line; step = Death o; outcome = Refused o } in
      core_same h dead store store x core (legal-push m h x core.legal tt (core.flags o ∙ is, refl)) refl refl core.closed core.fits core.holds tt

  pub core_after_refusal : (h : List Entry) (dead : List Bool) (store : Contents S) (u : Unanswered) (o : ℕ) → IsCore m Stands h dead store → u.step ≡ Death o
      → is_dead_object dead o ≡ true → IsCore m Stands (h ++ answered u (Refused o) ∷ []) dead store
  core_after_refusal h dead store u o core step is =
      subst (λ (s : Step). IsCore m Stands (h ++ record { caller = u.caller; line = u.line; step = s; outcome = Refused o } ∷ []) dead store) (sym step)
      (named_refusal h dead store u.caller u.line o core is)

  -- ---- passes
  named_pass : (h : List Entry) (dead : List Bool) (before after : Contents S) (caller line kept : ℕ) → IsCore m Stands h dead before
      → IsAfterPass m Stands dead (stored_of before) (stored_of after) before.marks after.marks → kept < 2 ^ 64 → kept ≡ length (stored_of after) → after.is_open ≡ false → IsFit after dead
      → IsStoreAfter m Stands (trace_of h) dead after → IsCore m Stands (h ++ record { caller = caller; line = line; step = Pass; outcome = Kept kept } ∷ []) dead after
  named_pass h dead before after caller line kept core pass small is closed fits holds =
      let x : Entry = record { caller = caller; line = line; step = Pass; outcome = Kept kept } in
      let count : kept ≡ length (stored_of after) % 2 ^ 64 = sym (mod-eq_of_lt small) ∙ ap (λ n. n % 2 ^ 64) is in
      let flags : AreFlagsOf (h ++ x ∷ []) dead = flags_after_other-lem h dead x core.flags refl in
      let monitors : IsStoreOf m Stands (trace_of (h ++ x ∷ [])) dead (stored_of before) before.marks =
      subst (λ (tr : List ParametricEvent). IsStoreOf m Stands tr dead (stored_of before) before.marks) (sym (trace_of-other h x refl)) core.holds.monitors in
      record {
        legal = legal-push m h x core.legal tt
            (length (stored_of after), pass_counts_stored-lem m Stands h dead (stored_of before) (stored_of after) before.marks after.marks core.flags core.holds.monitors pass, count);
        flags = flags;
        closed = closed;
        fits = fits;
        holds = subst (λ (tr : List ParametricEvent). IsStoreAfter m Stands tr dead after) (sym (trace_of-other h x refl)) holds;
        tidy = tidy-push m h x (instances_of (stored_of after)) after.marks
            (swept m Stands (h ++ x ∷ []) dead (stored_of before) (stored_of after) before.marks after.marks flags monitors pass);
      }

  pub core_after_pass : (h : List Entry) (dead : List Bool) (before after : Contents S) (u : Unanswered) (kept : ℕ) → IsCore m Stands h dead before → u.step ≡ Pass
      → IsAfterPass m Stands dead (stored_of before) (stored_of after) before.marks after.marks → kept < 2 ^ 64 → kept ≡ length (stored_of after) → after.is_open ≡ false → IsFit after dead
      → IsStoreAfter m Stands (trace_of h) dead after → IsCore m Stands (h ++ answered u (Kept kept) ∷ []) dead after
  core_after_pass h dead before after u kept core step pass small is closed fits holds =
      subst (λ (s : Step). IsCore m Stands (h ++ record { caller = u.caller; line = u.line; step = s; outcome = Kept kept } ∷ []) dead after) (sym step)
      (named_pass h dead before after u.caller u.line kept core pass small is closed fits holds)
