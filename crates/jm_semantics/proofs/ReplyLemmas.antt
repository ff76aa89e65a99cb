use Rattle.std.proofs.Common.{◌≡◌, ◌≢◌, ℕ, cond, ◌⊎◌, inl, inr, List, [], ◌∷◌, ◌++◌, refl, sym, ◌∙◌, ap, subst}
use Rattle.std.specs.Prelude.{Some, None, ◌%◌, ◌^◌}
use Rattle.std.proofs.lemmas.Bool.{cond-true, cond-false}
use Rattle.std.proofs.lemmas.Option.{none-some, same_Some}
use Rattle.jm_model.specs.Meanings.{Meaning}
use Rattle.jm_model.specs.declared.binding.Binding.{Binding}
use Rattle.jm_model.specs.declared.firings.Firing.{Firing}
use Rattle.jm_model.specs.declared.step.Entry.{Entry}
use Rattle.jm_model.specs.declared.step.Letter.{Letter}
use Rattle.jm_model.specs.declared.step.Step.TheVariants.{Event, Death, Pass}
use Rattle.jm_model.specs.declared.step.Outcome.{Outcome}
use Rattle.jm_model.specs.declared.step.Outcome.TheVariants.{Fired, Refused, Done, Kept, NoMemory}
use Rattle.jm_semantics.specs.Histories.{trace_of, is_dead, first_dead}
use Rattle.jm_semantics.specs.Answers.{IsAnswer}
use Rattle.jm_semantics.specs.Disposal.{IsKeptCount}
use Rattle.jm_semantics.specs.Laws.{ReplyIsDetermined, OutcomeIsPinned}
use Rattle.jm_semantics.specs.Legality.{IsReply, IsLegal}
use Rattle.jm_semantics.proofs.LegalityLemmas.{after-append}
use Rattle.jm_semantics.proofs.OrderLemmas.{answer_is_determined-lem, kept_count_is_determined-lem}

module _ (m : Meaning) (h : List Entry) where
  -- the replies to an event: an answer, or the first dead object
  abbrev EventReply : Letter → Binding → Outcome → Type 0
  EventReply e b o =
      ((first_dead h b ≡ None) × ((firings : List Firing) × (o ≡ Fired firings) × IsAnswer m (trace_of h) (record { letter = e.0; binding = b }) firings))
      ⊎ ((q : ℕ) × (first_dead h b ≡ Some q) × (o ≡ Refused q))

  event-reply : (e : Letter) (b : Binding) (o : Outcome) → IsReply m h (Event e b) o → o ≢ NoMemory → EventReply e b o
  event-reply e b (Fired firings) r n = inl (r.0, (firings, refl, r.1))
  event-reply e b (Refused q) r n = inr (q, r, refl)
  event-reply e b Done r n = absurd r
  event-reply e b (Kept k) r n = absurd r
  event-reply e b NoMemory r n = absurd (n refl)

  event-same : (e : Letter) (b : Binding) (o p : Outcome) → EventReply e b o → EventReply e b p → o ≡ p
  event-same e b o p (inl r) (inl s) =
      r.1.1 ∙ ap Fired (answer_is_determined-lem m (trace_of h) (record { letter = e.0; binding = b }) r.1.0 s.1.0 r.1.2 s.1.2) ∙ sym s.1.1
  event-same e b o p (inl r) (inr s) = absurd (none-some s.0 (sym r.0 ∙ s.1))
  event-same e b o p (inr r) (inl s) = absurd (none-some r.0 (sym s.0 ∙ r.1))
  event-same e b o p (inr r) (inr s) = r.2 ∙ ap Refused (same_Some r.0 s.0 (sym r.1 ∙ s.1)) ∙ sym s.2

  death-is : (q : ℕ) (o : Outcome) → IsReply m h (Death q) o → o ≡ cond (is_dead h q) (Refused q) Done
  death-is q (Fired firings) r = absurd r
  death-is q (Refused o) r = ap Refused r.1 ∙ sym (cond-true (is_dead h q) (Refused q) Done r.0)
  death-is q Done r = sym (cond-false (is_dead h q) (Refused q) Done r)
  death-is q (Kept k) r = absurd r
  death-is q NoMemory r = absurd r

  pass-is : (o : Outcome) → IsReply m h Pass o → (n : ℕ) × IsKeptCount m h n × (o ≡ Kept (n % 2 ^ 64))
  pass-is (Fired firings) r = absurd r
  pass-is (Refused o) r = absurd r
  pass-is Done r = absurd r
  pass-is (Kept k) r = (r.0, r.1, ap Kept r.2)
  pass-is NoMemory r = absurd r

pub reply_is_determined-lem : (m : Meaning) → ReplyIsDetermined m
reply_is_determined-lem m h (Event e b) o p r s n k = event-same m h e b o p (event-reply m h e b o r n) (event-reply m h e b p s k)
reply_is_determined-lem m h (Death q) o p r s n k = death-is m h q o r ∙ sym (death-is m h q p s)
reply_is_determined-lem m h Pass o p r s n k =
    let a = pass-is m h o r in
    let b = pass-is m h p s in
    a.2 ∙ ap (λ n. Kept (n % 2 ^ 64)) (kept_count_is_determined-lem m h a.0 b.0 a.1 b.1) ∙ sym b.2

-- the outcome of an entry is the reply to its step in what stands before it
pub reply-at : (m : Meaning) (h : List Entry) (x : Entry) (g : List Entry) → IsLegal m (h ++ x ∷ g) → IsReply m h x.step x.outcome
reply-at m h x g l = (after-append m [] h (x ∷ g) l).1

pub outcome_is_pinned-lem : (m : Meaning) → OutcomeIsPinned m
outcome_is_pinned-lem m h x y g k l r same n o =
    reply_is_determined-lem m h y.step x.outcome y.outcome
    (subst (λ s. IsReply m h s x.outcome) same (reply-at m h x g l)) (reply-at m h y k r) n o
