-- Kept numbers and legal histories by tests that compute.
use Rattle.std.proofs.Common.{◌≡◌, ℕ, Bool, true, false, cond, List, [], ◌∷◌, ◌++◌, length, refl, ap}
use Rattle.std.specs.Prelude.{◌&&◌, ◌||◌, not, ◌==◌, filter, Option, Some, None, is_none, ltb, ◌%◌, ◌^◌}
use Rattle.std.specs.List.{list_any, list_all}
use Rattle.std.specs.Ordering.{is_lt}
use Rattle.std.specs.List.Sorted.{IsStrictlySortedBy}
use Rattle.std.proofs.lemmas.Bool.{false≢true, and_parts, and_from, ltb-true, eqb-true, not-true, true_from_ne_false}
use Rattle.jm_model.specs.Bindings.{mask_of, binding_cmp}
use Rattle.jm_model.specs.Meanings.{Meaning, IsCutWord}
use Rattle.jm_model.specs.declared.binding.Binding.{Binding}
use Rattle.jm_model.specs.declared.firings.Firing.{Firing}
use Rattle.jm_model.specs.declared.step.Letter.{Letter}
use Rattle.jm_model.specs.declared.step.Step.{Step}
use Rattle.jm_model.specs.declared.step.Step.TheVariants.{Event, Death, Pass}
use Rattle.jm_model.specs.declared.step.Outcome.{Outcome}
use Rattle.jm_model.specs.declared.step.Outcome.TheVariants.{Fired, Refused, Done, Kept, NoMemory}
use Rattle.jm_model.specs.declared.step.Entry.{Entry}
use Rattle.jm_semantics.specs.Traces.{ParametricEvent, seen_of, slice_of}
use Rattle.jm_semantics.specs.Histories.{trace_of, dead_mask, is_dead, first_dead}
use Rattle.jm_semantics.specs.Answers.{firing_cmp}
use Rattle.jm_semantics.specs.Disposal.{IsKeptCount}
use Rattle.jm_semantics.specs.Legality.{IsReply, IsStepOf, IsLegalAfter, IsLegal}
use Rattle.jm_semantics.proofs.DecidingLists.{list_all-at, member-tested, implied, sorted_test, sorted-tested}
use Rattle.jm_semantics.proofs.DecidingAnswers.{Tests, joins_of, instance-among, instance_test, instance-tested, tested-instance, same_binding, binding-same, all_fire, all_listed, answer-tested}

-- ---- the number of a pass
-- a test that decides which instances aren't cut
pub record CutTests (m : Meaning) : Type 0 where
  pub alive : List ℕ → ℕ → Bool
  pub cut : (w : List ℕ) (dead : ℕ) → alive w dead ≡ false → IsCutWord m w dead
  pub uncut : (w : List ℕ) (dead : ℕ) → alive w dead ≡ true → IsCutWord m w dead → ⊥

-- whether t is an instance that isn't cut
abbrev pub kept_test : (m : Meaning) → CutTests m → List Entry → Binding → Bool
kept_test m d h t = instance_test (trace_of h) t && d.alive (slice_of (trace_of h) t) (dead_mask h t)

-- the number of the instances that aren't cut
pub kept-tested : (m : Meaning) (d : CutTests m) (h : List Entry) (kept : List Binding) → IsStrictlySortedBy binding_cmp kept
    → list_all (kept_test m d h) kept ≡ true
    → list_all (λ t. not (kept_test m d h t) || list_any (λ b. same_binding b t) kept) (joins_of (seen_of (trace_of h))) ≡ true
    → IsKeptCount m h (length kept)
kept-tested m d h kept sorted all listed = record {
  kept = kept;
  increasing = sorted;
  exact = λ t. (
    (λ c.
        let p = and_parts (instance_test (trace_of h) t) (d.alive (slice_of (trace_of h) t) (dead_mask h t)) (list_all-at (kept_test m d h) kept t all c) in
        (instance-tested (trace_of h) t p.0, d.uncut (slice_of (trace_of h) t) (dead_mask h t) p.1)),
    (λ p.
        let alive : d.alive (slice_of (trace_of h) t) (dead_mask h t) ≡ true =
        true_from_ne_false (d.alive (slice_of (trace_of h) t) (dead_mask h t)) (λ e. p.1 (d.cut (slice_of (trace_of h) t) (dead_mask h t) e)) in
        let passes = and_from (instance_test (trace_of h) t) (d.alive (slice_of (trace_of h) t) (dead_mask h t)) (tested-instance (trace_of h) t p.0) alive in
        member-tested same_binding binding-same kept t
        (implied (kept_test m d h t) (list_any (λ b. same_binding b t) kept)
        (list_all-at (λ t. not (kept_test m d h t) || list_any (λ b. same_binding b t) kept) (joins_of (seen_of (trace_of h))) t listed (instance-among (trace_of h) t p.0)) passes)),
  );
  count = refl;
}

-- ---- a whole history
-- puts a binding in its place, unless it is there
abbrev pub with_binding : Binding → List Binding → List Binding
with_binding t [] = t ∷ []
with_binding t (b ∷ bs) = cond (is_lt (binding_cmp t b)) (t ∷ b ∷ bs) (cond (same_binding t b) (b ∷ bs) (b ∷ with_binding t bs))

-- the bindings in order, each once
abbrev pub in_order : List Binding → List Binding
in_order [] = []
in_order (t ∷ ts) = with_binding t (in_order ts)

-- the instances that aren't cut, in order
abbrev pub kept_of : (m : Meaning) → CutTests m → List Entry → List Binding
kept_of m c h = in_order (filter (kept_test m c h) (joins_of (seen_of (trace_of h))))

module _ (m : Meaning) (d : Tests m) where
  -- whether the letter is one of the specification and the binding has its parameters
  abbrev pub event_fits : ℕ → Binding → Bool
  event_fits e b = ltb e m.letters && ((length b == 8) && (mask_of b == m.params e))

  -- whether the event is answered so
  abbrev pub answer_test : List Entry → ParametricEvent → List Firing → Bool
  answer_test h a firings =
      is_none (first_dead h a.binding)
      && (sorted_test firing_cmp firings && (all_fire m d (trace_of h) a firings && all_listed m d (trace_of h) a firings))

  -- whether the option has this number
  abbrev pub gives : Option ℕ → ℕ → Bool
  gives None o = false
  gives (Some q) o = q == o

  -- whether a pass counts so many
  abbrev pub pass_test : CutTests m → List Entry → ℕ → Bool
  pass_test c h n =
      (n == length (kept_of m c h) % 2 ^ 64) && (sorted_test binding_cmp (kept_of m c h)
      && (list_all (kept_test m c h) (kept_of m c h)
      && list_all (λ t. not (kept_test m c h t) || list_any (λ b. same_binding b t) (kept_of m c h)) (joins_of (seen_of (trace_of h)))))

  -- the same, where the test of the cut may be left out if there is no pass
  abbrev pub pass_if : Option (CutTests m) → List Entry → ℕ → Bool
  pass_if None h n = false
  pass_if (Some c) h n = pass_test c h n

  -- whether a step is one of the specification, and this its reply
  abbrev pub entry_test : Option (CutTests m) → List Entry → Step → Outcome → Bool
  entry_test c h (Event e b) (Fired firings) = event_fits e.0 b && answer_test h (record { letter = e.0; binding = b }) firings
  entry_test c h (Event e b) (Refused o) = event_fits e.0 b && gives (first_dead h b) o
  entry_test c h (Event e b) NoMemory = event_fits e.0 b && is_none (first_dead h b)
  entry_test c h (Death o) Done = not (is_dead h o)
  entry_test c h (Death o) (Refused q) = is_dead h o && (q == o)
  entry_test c h Pass (Kept n) = pass_if c h n
  entry_test _ h _ _ = false

  -- whether the entries may follow the history
  abbrev pub legal_test : Option (CutTests m) → List Entry → List Entry → Bool
  legal_test c h [] = true
  legal_test c h (x ∷ g) = entry_test c h x.step x.outcome && legal_test c (h ++ x ∷ []) g

  none-tested : (o : Option ℕ) → is_none o ≡ true → o ≡ None
  none-tested None h = refl
  none-tested (Some q) h = absurd (false≢true h)

  event-fits : (e : Letter) (b : Binding) → event_fits e.0 b ≡ true → IsStepOf m (Event e b)
  event-fits e b t =
      let one = and_parts (ltb e.0 m.letters) ((length b == 8) && (mask_of b == m.params e.0)) t in
      let two = and_parts (length b == 8) (mask_of b == m.params e.0) one.1 in
      (ltb-true e.0 m.letters one.0, eqb-true (length b) 8 two.0, eqb-true (mask_of b) (m.params e.0) two.1)

  event-answered : (h : List Entry) (e : Letter) (b : Binding) (firings : List Firing) → answer_test h (record { letter = e.0; binding = b }) firings ≡ true → IsReply m h (Event e b) (Fired firings)
  event-answered h e b firings t =
      let a : ParametricEvent = record { letter = e.0; binding = b } in
      let fire = all_fire m d (trace_of h) a firings in
      let listed = all_listed m d (trace_of h) a firings in
      let order = sorted_test firing_cmp firings in
      let one = and_parts (is_none (first_dead h b)) (order && (fire && listed)) t in
      let two = and_parts order (fire && listed) one.1 in
      let three = and_parts fire listed two.1 in
      (none-tested (first_dead h b) one.0, answer-tested m d (trace_of h) a firings (sorted-tested firing_cmp firings two.0) three.0 three.1)

  gives-tested : (x : Option ℕ) (o : ℕ) → gives x o ≡ true → x ≡ Some o
  gives-tested None o h = absurd (false≢true h)
  gives-tested (Some q) o h = ap Some (eqb-true q o h)

  pass-tested : (c : CutTests m) (h : List Entry) (n : ℕ) → pass_test c h n ≡ true → IsStepOf m Pass × IsReply m h Pass (Kept n)
  pass-tested c h n t =
      let kept = kept_of m c h in
      let count = n == length kept % 2 ^ 64 in
      let order = sorted_test binding_cmp kept in
      let all = list_all (kept_test m c h) kept in
      let listed = list_all (λ t. not (kept_test m c h t) || list_any (λ b. same_binding b t) kept) (joins_of (seen_of (trace_of h))) in
      let one = and_parts count (order && (all && listed)) t in
      let two = and_parts order (all && listed) one.1 in
      let three = and_parts all listed two.1 in
      (tt, (length kept, kept-tested m c h kept (sorted-tested binding_cmp kept two.0) three.0 three.1, eqb-true n (length kept % 2 ^ 64) one.0))

  entry-tested : (c : Option (CutTests m)) (h : List Entry) (s : Step) (o : Outcome) → entry_test c h s o ≡ true → IsStepOf m s × IsReply m h s o
  entry-tested c h (Event e b) (Fired firings) t =
      let ts = and_parts (event_fits e.0 b) (answer_test h (record { letter = e.0; binding = b }) firings) t in
      (event-fits e b ts.0, event-answered h e b firings ts.1)
  entry-tested c h (Death q) Done t = (tt, not-true (is_dead h q) t)
  entry-tested c h (Death q) (Refused o) t = let ts = and_parts (is_dead h q) (o == q) t in (tt, (ts.0, eqb-true o q ts.1))
  entry-tested (Some c) h Pass (Kept n) t = pass-tested c h n t
  entry-tested c h (Event e b) (Refused o) t =
      let ts = and_parts (event_fits e.0 b) (gives (first_dead h b) o) t in
      (event-fits e b ts.0, gives-tested (first_dead h b) o ts.1)
  entry-tested c h (Event e b) NoMemory t =
      let ts = and_parts (event_fits e.0 b) (is_none (first_dead h b)) t in
      (event-fits e b ts.0, none-tested (first_dead h b) ts.1)
  entry-tested None h Pass (Kept n) t = absurd (false≢true t)
  entry-tested _ h (Event e b) Done t = absurd (false≢true t)
  entry-tested _ h (Event e b) (Kept n) t = absurd (false≢true t)
  entry-tested _ h (Death q) (Fired firings) t = absurd (false≢true t)
  entry-tested _ h (Death q) (Kept n) t = absurd (false≢true t)
  entry-tested _ h (Death q) NoMemory t = absurd (false≢true t)
  entry-tested _ h Pass (Fired firings) t = absurd (false≢true t)
  entry-tested _ h Pass (Refused o) t = absurd (false≢true t)
  entry-tested _ h Pass Done t = absurd (false≢true t)
  entry-tested _ h Pass NoMemory t = absurd (false≢true t)

  after-tested : (c : Option (CutTests m)) (h g : List Entry) → legal_test c h g ≡ true → IsLegalAfter m h g
  after-tested c h [] t = tt
  after-tested c h (x ∷ g) t =
      let ts = and_parts (entry_test c h x.step x.outcome) (legal_test c (h ++ x ∷ []) g) t in
      let entry = entry-tested c h x.step x.outcome ts.0 in
      (entry.0, entry.1, after-tested c (h ++ x ∷ []) g ts.1)

  -- a history that passes the test is legal
  pub legal-tested : (c : Option (CutTests m)) (h : List Entry) → legal_test c [] h ≡ true → IsLegal m h
  legal-tested c h t = after-tested c [] h t
