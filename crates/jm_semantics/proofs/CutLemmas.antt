use Rattle.std.proofs.Common.{◌≡◌, ℕ, ◌<◌, true, ◌⊎◌, inl, inr, List, [], ◌∷◌, ◌++◌, refl, sym, ◌∙◌, ap, subst}
use Rattle.std.specs.Prelude.{All, Option, Some, None, bit_and}
use Rattle.std.proofs.lemmas.Bool.{cases_Bool}
use Rattle.std.proofs.lemmas.List.{append-nil, append_assoc}
use Rattle.std.proofs.lemmas.List.Elements.{All-nil, All-cons}
use Rattle.jm_model.specs.Bindings.{is_below, mask_of}
use Rattle.jm_model.specs.Meanings.{Meaning, IsHit, IsAvailable, IsCutWord}
use Rattle.jm_model.specs.declared.binding.Binding.{Binding}
use Rattle.jm_model.specs.declared.firings.Firing.{Firing}
use Rattle.jm_model.specs.declared.step.Step.{Step}
use Rattle.jm_model.specs.declared.step.Step.TheVariants.{Event, Death, Pass}
use Rattle.jm_model.specs.declared.step.Outcome.{Outcome}
use Rattle.jm_model.specs.declared.step.Outcome.TheVariants.{Fired, Refused, Done, Kept, NoMemory}
use Rattle.jm_model.specs.declared.step.Entry.{Entry}
use Rattle.jm_semantics.specs.Traces.{ParametricEvent, slice_of}
use Rattle.jm_semantics.specs.Histories.{accepted_event, trace_of, is_dead, dead_mask, first_dead}
use Rattle.jm_semantics.specs.Answers.{Fires}
use Rattle.jm_semantics.specs.Disposal.{IsCut}
use Rattle.jm_semantics.specs.Legality.{IsReply, IsStepOf, IsLegalAfter, Names}
use Rattle.jm_semantics.specs.Laws.{CutIsFinal}
use Rattle.jm_semantics.proofs.BindingLemmas.{below-refl}
use Rattle.jm_semantics.proofs.MaskLemmas.{mask_where-mono, live-apart}
use Rattle.jm_semantics.proofs.MeaningLemmas.{cut-more_dead, cut-letter, cut-no_hit}
use Rattle.jm_semantics.proofs.HistoryLemmas.{trace_of-accepted, trace_of-other, dead-stays, live-object, slice_of-above, slice_of-apart}
use Rattle.jm_semantics.proofs.LegalityLemmas.{IsAccepted, reply-accepted, after-append}

-- ---- an accepted event's letter is available to each instance above it
pub event-available : (m : Meaning) (h : List Entry) (e : ℕ) (b t : Binding) → e < m.letters → mask_of b ≡ m.params e → first_dead h b ≡ None → is_below b t ≡ true → IsAvailable m (dead_mask h t) e
event-available m h e b t is same live above =
    (is, ap (λ n. bit_and n (dead_mask h t)) (sym same) ∙ live-apart (is_dead h) b t above (λ p o at. live-object h b p o live at))

-- ---- a binding above one that is cut
-- with the same slice it is cut too
pub cut-above : (m : Meaning) (h : List Entry) (s t : Binding) → is_below s t ≡ true → slice_of (trace_of h) t ≡ slice_of (trace_of h) s → IsCut m h s → IsCut m h t
cut-above m h s t below same cut =
    cut-more_dead m (slice_of (trace_of h) t) (dead_mask h s) (dead_mask h t) (mask_where-mono (is_dead h) (is_dead h) s t (λ o d. d) below)
    (subst (λ w. IsCutWord m w (dead_mask h s)) (sym same) cut)

-- ---- one step after a cut
module _ (m : Meaning) (h : List Entry) (t : Binding) (cut : IsCut m h t) where
  -- the slice of t after an accepted event is cut, with the objects that were dead before it
  event-cut : (o : Outcome) (a : ParametricEvent) → IsAccepted m h o a → IsCutWord m (slice_of (trace_of h ++ a ∷ []) t) (dead_mask h t)
  event-cut o a is =
      elim (cases_Bool (is_below a.binding t)) [
        | inl above ↦ subst (λ w. IsCutWord m w (dead_mask h t)) (sym (slice_of-above (trace_of h) a t above))
            (cut-letter m (slice_of (trace_of h) t) (dead_mask h t) a.letter (event-available m h a.letter a.binding t is.letter is.mask is.live above) cut)
        | inr apart ↦ subst (λ w. IsCutWord m w (dead_mask h t)) (sym (slice_of-apart (trace_of h) a t apart)) cut
      ]

  cases_accepted : (a : Option ParametricEvent) → (a ≡ None) ⊎ ((b : ParametricEvent) × (a ≡ Some b))
  cases_accepted None = inl refl
  cases_accepted (Some b) = inr (b, refl)

  -- and so is its slice after any step
  step-slice : (x : Entry) → IsStepOf m x.step → IsReply m h x.step x.outcome → IsCutWord m (slice_of (trace_of (h ++ x ∷ [])) t) (dead_mask h t)
  step-slice x is reply =
      elim (cases_accepted (accepted_event x.step x.outcome)) [
        | inl none ↦ subst (λ trace. IsCutWord m (slice_of trace t) (dead_mask h t)) (sym (trace_of-other h x none)) cut
        | inr some ↦ subst (λ trace. IsCutWord m (slice_of trace t) (dead_mask h t)) (sym (trace_of-accepted h x some.0 some.1))
            (event-cut x.outcome some.0 (reply-accepted m h x.step x.outcome some.0 is reply some.1))
      ]

  -- a cut instance is cut after one step more
  pub step-cut : (x : Entry) → IsStepOf m x.step → IsReply m h x.step x.outcome → IsCut m (h ++ x ∷ []) t
  step-cut x is reply =
      cut-more_dead m (slice_of (trace_of (h ++ x ∷ [])) t) (dead_mask h t) (dead_mask (h ++ x ∷ []) t)
      (mask_where-mono (is_dead h) (is_dead (h ++ x ∷ [])) t t (dead-stays h (x ∷ [])) (below-refl t)) (step-slice x is reply)

  -- no answer has it
  answer-names : (o : Outcome) (a : ParametricEvent) → IsAccepted m h o a → (f : Firing) → Fires m (trace_of h ++ a ∷ []) a f → f.instance ≡ t → ⊥
  answer-names o a is f fires same =
      let above : is_below a.binding t ≡ true = subst (λ u. is_below a.binding u ≡ true) same fires.above in
      let hit : IsHit m (slice_of (trace_of h ++ a ∷ []) t) f.handler = subst (λ u. IsHit m (slice_of (trace_of h ++ a ∷ []) u) f.handler) same fires.hit in
      cut-no_hit m (slice_of (trace_of h) t) (dead_mask h t) a.letter f.handler (event-available m h a.letter a.binding t is.letter is.mask is.live above) cut
      (subst (λ w. IsHit m w f.handler) (slice_of-above (trace_of h) a t above) hit)

  -- and so no outcome names it
  pub step-names : (s : Step) (o : Outcome) → IsStepOf m s → IsReply m h s o → Names o t → ⊥
  step-names (Event e b) (Fired firings) is reply names =
      let a : ParametricEvent = record { letter = e.0; binding = b } in
      answer-names (Fired firings) a (reply-accepted m h (Event e b) (Fired firings) a is reply refl) names.0 ((reply.1.exact names.0).0 names.1) names.2
  step-names (Death q) (Fired firings) is reply names = reply
  step-names Pass (Fired firings) is reply names = reply
  step-names _ (Refused o) is reply names = names
  step-names _ Done is reply names = names
  step-names _ (Kept n) is reply names = names
  step-names _ NoMemory is reply names = names

-- ---- cut is final
cut-after : (m : Meaning) (t : Binding) (h pre post : List Entry) → IsLegalAfter m h (pre ++ post) → IsCut m h t → IsCut m (h ++ pre) t
cut-after m t h [] post l cut = subst (λ g. IsCut m g t) (sym (append-nil h)) cut
cut-after m t h (x ∷ pre) post l cut =
    subst (λ g. IsCut m g t) (append_assoc h (x ∷ []) pre) (cut-after m t (h ++ x ∷ []) pre post l.2 (step-cut m h t cut x l.0 l.1))

never-named : (m : Meaning) (t : Binding) (h g : List Entry) → IsLegalAfter m h g → IsCut m h t → All (λ x. Names x.outcome t → ⊥) g
never-named m t h [] l cut = All-nil (λ (x : Entry). Names x.outcome t → ⊥)
never-named m t h (x ∷ g) l cut =
    All-cons (λ (x : Entry). Names x.outcome t → ⊥) x g (step-names m h t cut x.step x.outcome l.0 l.1)
    (never-named m t (h ++ x ∷ []) g l.2 (step-cut m h t cut x l.0 l.1))

pub cut_is_final-lem : (m : Meaning) → CutIsFinal m
cut_is_final-lem m h g t l cut =
    let after : IsLegalAfter m h g = after-append m [] h g l in
    ((λ pre post e. cut-after m t h pre post (subst (IsLegalAfter m h) e after) cut), never-named m t h g after cut)
