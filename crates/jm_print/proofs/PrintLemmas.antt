-- A legal history of named steps can be printed.
use Rattle.std.proofs.Common.{◌≡◌, ◌≢◌, ℕ, suc, ◌+◌, ◌<◌, ◌≤◌, Bool, true, false, cond, ◌⊎◌, inl, inr, List, [], ◌∷◌, ◌++◌, length, refl, sym, ◌∙◌, ap, subst, arith}
use Rattle.std.specs.Prelude.{All, Contains, Some, None, find, filter_map, slice_get}
use Rattle.std.specs.List.{AllByRecursion}
use Rattle.std.proofs.lemmas.Option.{none-some, same_Some}
use Rattle.std.proofs.lemmas.List.Elements.{All-from_recursion, recursion_from_All, All-weaker, All-push, All-contains, All-contains_itself, All-nil}
use Rattle.jm_model.specs.Bindings.{object_at}
use Rattle.jm_model.specs.Meanings.{Meaning}
use Rattle.jm_model.specs.declared.binding.Binding.{Binding}
use Rattle.jm_model.specs.declared.firings.Firing.{Firing}
use Rattle.jm_model.specs.declared.step.Step.{Step}
use Rattle.jm_model.specs.declared.step.Step.TheVariants.{Event, Death, Pass}
use Rattle.jm_model.specs.declared.step.Outcome.{Outcome}
use Rattle.jm_model.specs.declared.step.Outcome.TheVariants.{Fired, Refused, Done, Kept, NoMemory}
use Rattle.jm_model.specs.declared.step.Entry.{Entry}
use Rattle.jm_semantics.specs.Traces.{ParametricEvent, seen_of}
use Rattle.jm_semantics.specs.Histories.{accepted_event, trace_of, is_dead}
use Rattle.jm_semantics.specs.Answers.{Fires}
use Rattle.jm_semantics.specs.Legality.{IsLegalAfter, IsReply}
use Rattle.jm_semantics.proofs.HistoryLemmas.{trace_of-accepted, trace_of-other, seen_of-push}
use Rattle.jm_print.specs.Lexicons.{Lexicon}
use Rattle.jm_print.specs.Names.{IsNamed, IsNamedStep}
use Rattle.jm_print.specs.Texts.{HasNamesFrom, IsPrintableFiring, IsPrintableStep, IsPrintable, full_entry_text}

named_from : (l : Lexicon) (p : ℕ) (b : Binding) → ((k o : ℕ) → object_at b k ≡ Some o → (p + k < length l.parameters) × (o < length l.objects)) → HasNamesFrom l p b
named_from l p [] each = tt
named_from l p (None ∷ b) each = named_from l (p + 1) b (λ k o at. let n = each (suc k) o at in (omega (arith, n.0), n.1))
named_from l p (Some o ∷ b) each =
    let n = each 0 o refl in
    (omega (arith, n.0), n.1, named_from l (p + 1) b (λ k q at. let m = each (suc k) q at in (omega (arith, m.0), m.1)))

names_of : (l : Lexicon) (b : Binding) → IsNamed l b → HasNamesFrom l 0 b
names_of l b named = named_from l 0 b (λ p o at. let n = named p o at in (omega (arith, n.0), n.1))

-- an object of a binding that is found among those that it binds
found_named : (test : ℕ → Bool) (n : ℕ) (b : Binding) (q : ℕ) → ((p o : ℕ) → object_at b p ≡ Some o → o < n) → find test (filter_map (λ x. x) b) ≡ Some q → q < n
found_named test n [] q named found = absurd (none-some q found)
found_named test n (None ∷ b) q named found = found_named test n b q (λ p. named (suc p)) found
found_named test n (Some o ∷ b) q named found =
    elim (test o) as (λ v. cond v (Some o) (find test (filter_map (λ x. x) b)) ≡ Some q → q < n) [
      | true ↦ λ e. subst (λ x. x < n) (same_Some o q e) (named 0 o refl)
      | false ↦ λ e. found_named test n b q (λ p. named (suc p)) e
    ] found

module _ (l : Lexicon) (m : Meaning) (few : m.handlers ≤ length l.handlers) where
  -- what such a step may tell
  pub told : (s : Step) (o : Outcome) → IsNamedStep l s → (accepted_event s o ≡ None) ⊎ ((a : ParametricEvent) × (accepted_event s o ≡ Some a) × IsNamed l a.binding)
  told (Event e b) (Fired firings) named = inr (record { letter = e.0; binding = b }, refl, named.1)
  told (Event e b) (Refused q) named = inl refl
  told (Event e b) Done named = inl refl
  told (Event e b) (Kept n) named = inl refl
  told (Event e b) NoMemory named = inl refl
  told (Death q) o named = inl refl
  told Pass o named = inl refl

  pub seen_more : (h : List Entry) (x : Entry) → All (IsNamed l) (seen_of (trace_of h)) → (accepted_event x.step x.outcome ≡ None) ⊎ ((a : ParametricEvent) × (accepted_event x.step x.outcome ≡ Some a) × IsNamed l a.binding)
      → All (IsNamed l) (seen_of (trace_of (h ++ x ∷ [])))
  seen_more h x seen (inl none) = subst (λ t. All (IsNamed l) (seen_of t)) (sym (trace_of-other h x none)) seen
  seen_more h x seen (inr some) =
      subst (λ bs. All (IsNamed l) bs) (sym (ap (λ t. seen_of t) (trace_of-accepted h x some.0 some.1) ∙ seen_of-push (trace_of h) some.0))
      (All-push (IsNamed l) (seen_of (trace_of h)) some.0.binding seen some.2)

  -- a firing of an event after such a history
  printable_firing : (h : List Entry) (a : ParametricEvent) → All (IsNamed l) (seen_of (trace_of h)) → IsNamed l a.binding → (f : Firing) → Fires m (trace_of h ++ a ∷ []) a f → IsPrintableFiring l f
  printable_firing h a before named f fires =
      let seen : All (IsNamed l) (seen_of (trace_of h ++ a ∷ [])) =
      subst (λ bs. All (IsNamed l) bs) (sym (seen_of-push (trace_of h) a)) (All-push (IsNamed l) (seen_of (trace_of h)) a.binding before named) in (
        omega (arith, few, fires.hit.2),
        names_of l f.instance (λ p o at.
            let given = fires.instance.given p o at in
            All-contains (IsNamed l) (seen_of (trace_of h ++ a ∷ [])) given.0 seen given.1 p o given.3),
      )

  pub printable_step : (h : List Entry) (s : Step) (o : Outcome) → All (IsNamed l) (seen_of (trace_of h)) → IsNamedStep l s → o ≢ NoMemory → IsReply m h s o → IsPrintableStep l s o
  printable_step h (Event e b) (Fired firings) seen named done reply =
      let a : ParametricEvent = record { letter = e.0; binding = b } in (
        named.0,
        names_of l b named.1,
        All-weaker (Contains firings) (IsPrintableFiring l) (λ f among. printable_firing h a seen named.1 f ((reply.1.exact f).0 among)) firings (All-contains_itself firings),
      )
  printable_step h (Event e b) (Refused q) seen named done reply =
      (named.0, names_of l b named.1, found_named (is_dead h) (length l.objects) b q (λ p o at. (named.1 p o at).1) reply)
  printable_step h (Event e b) Done seen named done reply = absurd reply
  printable_step h (Event e b) (Kept n) seen named done reply = absurd reply
  printable_step h (Event e b) NoMemory seen named done reply = absurd (done refl)
  printable_step h (Death o) Done seen named done reply = named
  printable_step h (Death o) (Refused q) seen named done reply = (named, subst (λ x. x < length l.objects) (sym reply.1) named)
  printable_step h (Death o) (Fired firings) seen named done reply = absurd reply
  printable_step h (Death o) (Kept n) seen named done reply = absurd reply
  printable_step h (Death o) NoMemory seen named done reply = absurd reply
  printable_step h Pass (Kept n) seen named done reply = tt
  printable_step h Pass (Fired firings) seen named done reply = absurd reply
  printable_step h Pass (Refused q) seen named done reply = absurd reply
  printable_step h Pass Done seen named done reply = absurd reply
  printable_step h Pass NoMemory seen named done reply = absurd reply

  printable_after : (h g : List Entry) → All (IsNamed l) (seen_of (trace_of h)) → AllByRecursion (λ x. IsNamedStep l x.step) g → AllByRecursion (λ x. x.outcome ≢ NoMemory) g → IsLegalAfter m h g → AllByRecursion (IsPrintable l) g
  printable_after h [] seen named done legal = tt
  printable_after h (x ∷ g) seen named done legal = (
    printable_step h x.step x.outcome seen named.0 done.0 legal.1,
    printable_after (h ++ x ∷ []) g (seen_more h x seen (told x.step x.outcome named.0)) named.1 done.1 legal.2,
  )

  -- such a history can be printed, if it is legal and no entry of it is out of memory
  pub printable : (g : List Entry) → All (λ x. IsNamedStep l x.step) g → All (λ x. x.outcome ≢ NoMemory) g → IsLegalAfter m [] g → All (IsPrintable l) g
  printable g named done legal =
      All-from_recursion (IsPrintable l) g
      (printable_after [] g (All-nil (IsNamed l))
      (recursion_from_All (λ (x : Entry). IsNamedStep l x.step) g named) (recursion_from_All (λ (x : Entry). x.outcome ≢ NoMemory) g done) legal)

-- the entry that stands at a place is the one that was written
pub written_at : (l : Lexicon) (entries : List Entry) (i : ℕ) (own : Entry) (before after : List ℕ) → slice_get entries i ≡ Some own → after ≡ before ++ full_entry_text l own
    → (x : Entry) → slice_get entries i ≡ Some x → after ≡ before ++ full_entry_text l x
written_at l entries i own before after at written x other =
    written ∙ ap (λ (v : Entry). before ++ full_entry_text l v) (same_Some own x (sym at ∙ other))
