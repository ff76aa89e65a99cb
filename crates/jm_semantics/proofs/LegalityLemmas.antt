use Rattle.std.proofs.Common.{◌≡◌, ◌<◌, List, [], ◌∷◌, ◌++◌, refl, sym, subst}
use Rattle.std.specs.Prelude.{Some, None}
use Rattle.std.proofs.lemmas.Option.{none-some, same_Some}
use Rattle.std.proofs.lemmas.List.{append-nil, append_assoc}
use Rattle.jm_model.specs.Bindings.{mask_of}
use Rattle.jm_model.specs.Meanings.{Meaning}
use Rattle.jm_model.specs.declared.firings.Firing.{Firing}
use Rattle.jm_model.specs.declared.step.Entry.{Entry}
use Rattle.jm_model.specs.declared.step.Step.{Step}
use Rattle.jm_model.specs.declared.step.Step.TheVariants.{Event}
use Rattle.jm_model.specs.declared.step.Outcome.{Outcome}
use Rattle.jm_model.specs.declared.step.Outcome.TheVariants.{Fired}
use Rattle.jm_semantics.specs.Traces.{ParametricEvent}
use Rattle.jm_semantics.specs.Histories.{accepted_event, trace_of, first_dead}
use Rattle.jm_semantics.specs.Answers.{IsAnswer}
use Rattle.jm_semantics.specs.Legality.{IsReply, IsStepOf, IsLegalAfter, IsLegal}

-- what a legal history says of an accepted event
pub record IsAccepted (m : Meaning) (h : List Entry) (o : Outcome) (a : ParametricEvent) : Type 0 where
  pub letter : a.letter < m.letters
  pub mask : mask_of a.binding ≡ m.params a.letter
  pub live : first_dead h a.binding ≡ None
  pub firings : List Firing
  pub outcome : o ≡ Fired firings
  pub answer : IsAnswer m (trace_of h) a firings

module _ (m : Meaning) where
  -- an accepted event was answered by its answer
  pub reply-accepted : (h : List Entry) (s : Step) (o : Outcome) (a : ParametricEvent) → IsStepOf m s → IsReply m h s o → accepted_event s o ≡ Some a → IsAccepted m h o a
  reply-accepted h (Event e b) (Fired firings) a is reply same =
      let event : ParametricEvent = record { letter = e.0; binding = b } in
      subst (IsAccepted m h (Fired firings)) (same_Some event a same)
      (record { letter = is.0; mask = is.2; live = reply.0; firings = firings; outcome = refl; answer = reply.1 })
  reply-accepted h _ _ a is reply none = absurd (none-some a none)

  -- ---- one entry more, and one less
  after-push : (past g : List Entry) (x : Entry) → IsLegalAfter m past g → IsStepOf m x.step → IsReply m (past ++ g) x.step x.outcome → IsLegalAfter m past (g ++ x ∷ [])
  after-push past [] x l step reply = (step, subst (λ h. IsReply m h x.step x.outcome) (append-nil past) reply, tt)
  after-push past (y ∷ g) x l step reply =
      (l.0, l.1, after-push (past ++ y ∷ []) g x l.2 step (subst (λ h. IsReply m h x.step x.outcome) (sym (append_assoc past (y ∷ []) g)) reply))

  -- a legal history with one entry more
  pub legal-push : (h : List Entry) (x : Entry) → IsLegal m h → IsStepOf m x.step → IsReply m h x.step x.outcome → IsLegal m (h ++ x ∷ [])
  legal-push h x l step reply = after-push [] h x l step reply

  after-prefix : (past g rest : List Entry) → IsLegalAfter m past (g ++ rest) → IsLegalAfter m past g
  after-prefix past [] rest l = tt
  after-prefix past (x ∷ g) rest l = (l.0, l.1, after-prefix (past ++ x ∷ []) g rest l.2)

  -- a prefix of a legal history is legal
  pub legal-prefix : (h g : List Entry) → IsLegal m (h ++ g) → IsLegal m h
  legal-prefix h g l = after-prefix [] h g l

  -- the rest of a legal history may follow its prefix
  pub after-append : (past h g : List Entry) → IsLegalAfter m past (h ++ g) → IsLegalAfter m (past ++ h) g
  after-append past [] g l = subst (λ p. IsLegalAfter m p g) (sym (append-nil past)) l
  after-append past (x ∷ h) g l = subst (λ p. IsLegalAfter m p g) (append_assoc past (x ∷ []) h) (after-append (past ++ x ∷ []) h g l.2)
