-- The reply to a step, and the account after it.
use Rattle.std.proofs.Common.{◌≡◌, ℕ, zero, suc, ◌<◌, ◌^◌, Bool, true, false, List, [], ◌∷◌, ◌++◌, length, refl, sym, ap, ◌∙◌, subst, arith}
use Rattle.std.specs.Prelude.{Option, Some, None, find, ◌||◌, ◌==◌, replicate}
use Rattle.std.specs.List.{list_any}
use Rattle.std.proofs.lemmas.List.Folds.{list_any-append}
use Rattle.jm_model.specs.Bindings.{empty, objects_of}
use Rattle.jm_model.specs.Meanings.{Meaning}
use Rattle.jm_model.specs.declared.binding.Binding.{Binding}
use Rattle.jm_model.specs.declared.step.Letter.{Letter}
use Rattle.jm_model.specs.declared.firings.Firing.{Firing}
use Rattle.jm_model.specs.declared.step.Step.{Step}
use Rattle.jm_model.specs.declared.step.Step.TheVariants.{Event, Death, Pass}
use Rattle.jm_model.specs.declared.step.Outcome.{Outcome}
use Rattle.jm_model.specs.declared.step.Outcome.TheVariants.{Fired, Refused, Done, Kept, NoMemory}
use Rattle.jm_model.specs.declared.step.Entry.{Entry}
use Rattle.jm_semantics.specs.Traces.{ParametricEvent, seen_of}
use Rattle.jm_semantics.specs.Histories.{accepted_event, accepted_death, trace_of, dead_of, is_dead}
use Rattle.jm_semantics.specs.Legality.{IsStepOf}
use Rattle.jm_semantics.proofs.HistoryLemmas.{trace_of-accepted, trace_of-other, dead_of-accepted, dead_of-other, seen_of-push}
use Rattle.jm_audit.specs.Flags.{is_flagged}
use Rattle.jm_audit.specs.Slices.{AreInstancesOf, after_event}
use Rattle.jm_audit.specs.Accounts.{IsAccountOf, IsReplied, IsReport, AreKept, IsDeath}
use Rattle.jm_audit.specs.declared.account.Account.{Account}
use Rattle.jm_audit.proofs.FlagLemmas.{flagged-set}
use Rattle.jm_audit.proofs.SliceLemmas.{instances_after, instances_at_start}
use Rattle.jm_audit.proofs.HitLemmas.{answer_of, count_of}

module _ (m : Meaning) (h : List Entry) where
  -- flags, the trace and the dead objects that stay
  kept_account : (account : Account) → IsAccountOf m h account → (x : Entry) → accepted_event x.step x.outcome ≡ None → accepted_death x.step x.outcome ≡ None → IsAccountOf m (h ++ x ∷ []) account
  kept_account account is x event death =
      let trace : trace_of (h ++ x ∷ []) ≡ trace_of h = trace_of-other h x event in
      let dead : dead_of (h ++ x ∷ []) ≡ dead_of h = dead_of-other h x death in
      record {
        seen = is.seen ∙ ap seen_of (sym trace);
        dead = λ o. is.dead o ∙ ap (list_any (λ q. q == o)) (sym dead);
        instances = subst (λ t. AreInstancesOf m t account.instances.items) (sym trace) is.instances;
      }

  none_of : (s : Step) (o : Outcome) (t : Step) (p : Outcome) → s ≡ t → o ≡ p → accepted_event t p ≡ None → accepted_event s o ≡ None
  none_of s o t p same equal none = (λ i. accepted_event (same i) (equal i)) ∙ none

  no_death : (s : Step) (o : Outcome) (t : Step) (p : Outcome) → s ≡ t → o ≡ p → accepted_death t p ≡ None → accepted_death s o ≡ None
  no_death s o t p same equal none = (λ i. accepted_death (same i) (equal i)) ∙ none

  pub event_refused : (account : Account) (e : Letter) (b : Binding) (o : ℕ) → IsAccountOf m h account → find (is_flagged account.dead.items) (objects_of b) ≡ Some o → IsReplied m h (Event e b) (Refused o) account
  event_refused account e b o is found = record {
    reply = sym (λ i. find (λ q. is.dead q i) (objects_of b)) ∙ found;
    done = λ (z : Refused o ≡ NoMemory). absurd (cc (z));
    next = λ x step outcome. kept_account account is x (none_of x.step x.outcome (Event e b) (Refused o) step outcome refl) (no_death x.step x.outcome (Event e b) (Refused o) step outcome refl);
  }

  pub event_fired : (old new : Account) (e : Letter) (b : Binding) (firings : List Firing) → IsAccountOf m h old → IsStepOf m (Event e b) → find (is_flagged old.dead.items) (objects_of b) ≡ None
      → new.seen.items ≡ old.seen.items ++ b ∷ [] → new.dead.items ≡ old.dead.items → new.instances.items ≡ after_event e.0 b old.seen.items old.instances.items
      → IsReport m b new.instances.items firings → IsReplied m h (Event e b) (Fired firings) new
  event_fired old new e b firings is step live seen dead instances report =
      let a : ParametricEvent = record { letter = e.0; binding = b } in
      let after : AreInstancesOf m (trace_of h ++ a ∷ []) new.instances.items =
      subst (λ l. AreInstancesOf m (trace_of h ++ a ∷ []) l) (sym (instances ∙ ap (λ s. after_event e.0 b s old.instances.items) is.seen))
      (instances_after m (trace_of h) a old.instances.items step.1 is.instances step.0) in
      record {
        reply = (dead_first live, answer_of m (trace_of h) a new.instances.items firings after report);
        done = λ (z : Fired firings ≡ NoMemory). absurd (cc (z));
        next = λ x is_step is_outcome.
            let event : accepted_event x.step x.outcome ≡ Some a = λ i. accepted_event (is_step i) (is_outcome i) in
            let trace : trace_of (h ++ x ∷ []) ≡ trace_of h ++ a ∷ [] = trace_of-accepted h x a event in
            let none : accepted_death x.step x.outcome ≡ None = λ i. accepted_death (is_step i) (is_outcome i) in
            let deaths : dead_of (h ++ x ∷ []) ≡ dead_of h = dead_of-other h x none in
            record {
              seen = seen ∙ ap (λ s. s ++ b ∷ []) is.seen ∙ sym (seen_of-push (trace_of h) a) ∙ ap seen_of (sym trace);
              dead = λ o. ap (λ f. is_flagged f o) dead ∙ is.dead o ∙ ap (list_any (λ q. q == o)) (sym deaths);
              instances = subst (λ t. AreInstancesOf m t new.instances.items) (sym trace) after;
            };
      }
    where
      dead_first : find (is_flagged old.dead.items) (objects_of b) ≡ None → find (is_dead h) (objects_of b) ≡ None
      dead_first live' = sym (λ i. find (λ q. is.dead q i) (objects_of b)) ∙ live'

  -- ---- deaths
  pub death_replied : (old new : Account) (o : ℕ) (outcome : Outcome) → o < length old.dead.items → IsDeath o old outcome new → IsAccountOf m h old → IsReplied m h (Death o) outcome new
  death_replied old new o (Refused q) there died is = record {
    reply = (sym (is.dead o) ∙ died.0, died.1);
    done = λ (z : Refused q ≡ NoMemory). absurd (cc (z));
    next = λ x step outcome.
        subst (IsAccountOf m (h ++ x ∷ [])) (sym died.2)
        (kept_account old is x (none_of x.step x.outcome (Death o) (Refused q) step outcome refl) (no_death x.step x.outcome (Death o) (Refused q) step outcome refl));
  }
  death_replied old new o Done there died is = record {
    reply = sym (is.dead o) ∙ died.0;
    done = λ (z : Done ≡ NoMemory). absurd (cc (z));
    next = λ x is_step is_outcome.
        let event : accepted_event x.step x.outcome ≡ None = none_of x.step x.outcome (Death o) Done is_step is_outcome refl in
        let trace : trace_of (h ++ x ∷ []) ≡ trace_of h = trace_of-other h x event in
        let death : accepted_death x.step x.outcome ≡ Some o = λ i. accepted_death (is_step i) (is_outcome i) in
        let deaths : dead_of (h ++ x ∷ []) ≡ dead_of h ++ o ∷ [] = dead_of-accepted h x o death in
        record {
          seen = ap (λ (v : _). v.items) died.2 ∙ is.seen ∙ ap seen_of (sym trace);
          dead = λ q.
              ap (λ f. is_flagged f q) died.1 ∙ flagged-set old.dead.items o q there ∙ ap (λ v. v || (o == q)) (is.dead q)
              ∙ ap (λ v. is_dead h q || v) (sym (or-false (o == q))) ∙ sym (list_any-append (λ r. r == q) (dead_of h) (o ∷ [])) ∙ ap (list_any (λ r. r == q)) (sym deaths);
          instances = subst (λ t. AreInstancesOf m t new.instances.items) (sym trace) (subst (λ (v : _). AreInstancesOf m (trace_of h) v.items) (sym died.3) is.instances);
        };
  }
    where
      or-false : (v : Bool) → (v || false) ≡ v
      or-false true = refl
      or-false false = refl
  death_replied old new o (Fired firings) there died is = absurd died
  death_replied old new o (Kept n) there died is = absurd died
  death_replied old new o NoMemory there died is = absurd died

  -- ---- passes
  pub pass_replied : (account : Account) (kept : List Binding) (n : ℕ) → IsAccountOf m h account → AreKept m account.dead.items account.instances.items kept → n ≡ length kept → n < 2 ^ 64 → IsReplied m h Pass (Kept n) account
  pass_replied account kept n is are same fits = record {
    reply = (length kept, count_of m h account.dead.items account.instances.items kept is.dead is.instances are, omega (arith, same, fits));
    done = λ (z : Kept n ≡ NoMemory). absurd (cc (z));
    next = λ x step outcome. kept_account account is x (none_of x.step x.outcome Pass (Kept n) step outcome refl) (no_death x.step x.outcome Pass (Kept n) step outcome refl);
  }

-- before the first step
none_flagged : (n o : ℕ) → is_flagged (replicate n false) o ≡ false
none_flagged zero o = refl
none_flagged (suc n) zero = refl
none_flagged (suc n) (suc o) = none_flagged n o

pub account_at_start : (m : Meaning) (account : Account) (n : ℕ) → account.seen.items ≡ [] → account.dead.items ≡ replicate n false → account.instances.items ≡ record { binding = empty; word = [] } ∷ [] → IsAccountOf m [] account
account_at_start m account n seen dead instances = record {
  seen = seen;
  dead = λ o. ap (λ f. is_flagged f o) dead ∙ none_flagged n o;
  instances = subst (λ l. AreInstancesOf m [] l) (sym instances) (instances_at_start m);
}

-- an option that is no value is none
pub none_from : (x : Option ℕ) → ((o : ℕ) → x ≡ Some o → ⊥) → x ≡ None
none_from None h = refl
none_from (Some o) h = absurd (h o refl)
