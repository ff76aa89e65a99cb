-- An event reaches each instance above its binding that can still fire, in the states of the slices.
use Rattle.std.proofs.Common.{◌≡◌, ℕ, Bool, true, false, ◌⊎◌, inl, inr, List, [], ◌∷◌, ◌++◌, length, sym, ◌∙◌, ap, subst}
use Rattle.std.specs.Prelude.{Contains, bit_and}
use Rattle.std.proofs.lemmas.Bool.{false≢true, cases_Bool}
use Rattle.jm_model.specs.Bindings.{is_below, is_compatible, join, mask_of}
use Rattle.jm_model.specs.Meanings.{Meaning, IsHit, IsAvailable, IsCutWord}
use Rattle.jm_model.specs.declared.binding.Binding.{Binding}
use Rattle.jm_model.specs.declared.firings.Firing.{Firing}
use Rattle.jm_semantics.specs.Traces.{ParametricEvent, slice_of}
use Rattle.jm_semantics.specs.Instances.{IsInstance, join_below}
use Rattle.jm_semantics.specs.Answers.{Fires}
use Rattle.jm_semantics.proofs.ListLemmas.{Contains-nil, Contains-head, Contains-cons, Contains-cons_cases}
use Rattle.jm_semantics.proofs.BindingLemmas.{below-refl, below-antisym, below-compatible, below-join_right}
use Rattle.jm_semantics.proofs.InstanceLemmas.{instance-join, join-instance, join_below-below, below-join_below, join_below-instance, slice-join_below, instance-above, join_event-instance}
use Rattle.jm_semantics.proofs.HistoryLemmas.{slice_of-above}
use Rattle.jm_semantics.proofs.MaskLemmas.{mask_where-mono, live-apart}
use Rattle.jm_semantics.proofs.MeaningLemmas.{cut-more_dead, cut-letter, cut-no_hit}
use Rattle.jm_marks.specs.Marks.{is_dead_object, dead_mask_of, IsCovered}
use Rattle.jm_monitors.specs.declared.stored.Stored.{Stored}
use Rattle.jm_monitors.specs.Stores.{HasInstance, IsMonitorOf, IsStoreOf}
use Rattle.jm_monitors.specs.Steps.{Follows, IsBase, IsOverAfter, AreReached, IsReport, IsReported, IsLiveEvent}
use Rattle.jm_monitors.specs.Laws.{ReportIsAnswer}
use Rattle.jm_monitors.proofs.BaseLemmas.{event-live, join-absorbs, base-slice}

-- ---- what can be decided
same_or_other : (a b : Binding) → (a ≡ b) ⊎ (a ≡ b → ⊥)
same_or_other a b =
    elim (cases_Bool (is_below a b)) [
      | inl low ↦ elim (cases_Bool (is_below b a)) [
        | inl high ↦ inl (below-antisym a b low high)
        | inr apart ↦ inr (λ e. false≢true (sym apart ∙ subst (λ u. is_below u a ≡ true) e (below-refl a)))
      ]
      | inr apart ↦ inr (λ e. false≢true (sym apart ∙ subst (λ u. is_below a u ≡ true) e (below-refl a)))
    ]

-- a list of monitors has one of instance t or hasn't
pub has_or_not : {S : Type 0} (monitors : List (Stored S)) (t : Binding) → HasInstance monitors t ⊎ (HasInstance monitors t → ⊥)
has_or_not [] t = inr (λ h. Contains-nil h.0 h.1)
has_or_not {S} (s ∷ rest) t =
    elim (same_or_other s.instance t) [
      | inl same ↦ inl (s, Contains-head s rest, same)
      | inr other ↦ elim (has_or_not rest t) [
        | inl there ↦ inl (there.0, Contains-cons s rest there.0 there.1, there.2)
        | inr none ↦ inr (λ h. elim (Contains-cons_cases s rest h.0 h.1) [
          | inl here ↦ other (ap (λ (x : Stored S). x.instance) here ∙ h.2)
          | inr later ↦ none (h.0, later, h.2)
        ])
      ]
    ]

-- a binding is an instance or isn't
pub instance_or_not : (trace : List ParametricEvent) (t : Binding) → length t ≡ 8 → IsInstance trace t ⊎ (IsInstance trace t → ⊥)
instance_or_not trace t l =
    elim (same_or_other t (join_below trace t)) [
      | inl same ↦ inl (join-instance trace t l same)
      | inr other ↦ inr (λ i. other (instance-join trace t i))
    ]

-- the trace with one event more
abbrev pub with_event : List ParametricEvent → ℕ → Binding → List ParametricEvent
with_event trace letter b = trace ++ record { letter = letter; binding = b } ∷ []

-- the word hits nothing and is cut
abbrev pub IsOver : Meaning → List ℕ → ℕ → Type 0
IsOver m w dead = ((k : ℕ) → IsHit m w k → ⊥) × IsCutWord m w dead

module _ (m : Meaning) (trace : List ParametricEvent) (dead : List Bool) (letter : ℕ) (b : Binding) (event : IsLiveEvent m dead letter b) where
  -- a live event's letter is available to each instance above it
  pub available-above : (t : Binding) → is_below b t ≡ true → IsAvailable m (dead_mask_of dead t) letter
  available-above t above = (
    event.letter_there,
    ap (λ n. bit_and n (dead_mask_of dead t)) (sym event.params)
        ∙ live-apart (is_dead_object dead) b t above (event-live m dead letter b event),
  )

  -- so it hits nothing where the slice was cut, and leaves it cut
  pub over-after : (t : Binding) → is_below b t ≡ true → IsCutWord m (slice_of trace t) (dead_mask_of dead t) → IsOver m (slice_of (with_event trace letter b) t) (dead_mask_of dead t)
  over-after t above cut =
      let there = available-above t above in
      subst (λ w. IsOver m w (dead_mask_of dead t)) (sym (slice_of-above trace (record { letter = letter; binding = b }) t above))
      ((λ k. cut-no_hit m (slice_of trace t) (dead_mask_of dead t) letter k there cut), cut-letter m (slice_of trace t) (dead_mask_of dead t) letter there cut)

  -- the same where the largest instance below t was cut
  pub over-above : (t : Binding) → length t ≡ 8 → is_below b t ≡ true → IsCutWord m (slice_of trace (join_below trace t)) (dead_mask_of dead (join_below trace t))
      → IsOver m (slice_of (with_event trace letter b) t) (dead_mask_of dead t)
  over-above t l above cut =
      let s = join_below trace t in
      over-after t above (cut-more_dead m (slice_of trace t) (dead_mask_of dead s) (dead_mask_of dead t)
      (mask_where-mono (is_dead_object dead) (is_dead_object dead) s t (λ o d. d) (join_below-below trace t l))
      (subst (λ w. IsCutWord m w (dead_mask_of dead s)) (sym (slice-join_below trace t l)) cut))

module _ (m : Meaning) {S : Type 0} (Stands : S → List ℕ → Type 0) (trace : List ParametricEvent) (dead : List Bool) (stored : List (Stored S)) (marks : List Binding) (letter : ℕ) (b : Binding) (store : IsStoreOf m Stands trace dead stored marks) (event : IsLiveEvent m dead letter b) where
  -- ---- what is reached is right
  joined-monitor : (s : Stored S) (state : S) → Contains stored s → IsBase b marks s → Follows Stands letter s.state state
      → IsMonitorOf Stands (with_event trace letter b) (record { instance = join s.instance b; state = state })
  joined-monitor s state h base follows =
      let a : ParametricEvent = record { letter = letter; binding = b } in
      let t = join s.instance b in (
        join_event-instance trace a s.instance (store.each s h).0 base.0,
        subst (Stands state)
            (sym (slice_of-above trace a t (below-join_right s.instance b base.0) ∙ ap (λ w. w ++ letter ∷ []) (base-slice m Stands trace dead stored marks letter b store event s h base)))
            (follows (slice_of trace s.instance) (store.each s h).1),
      )

  pub reached-monitor : (reached : List (Stored S)) → AreReached m Stands letter b dead stored marks reached → (r : Stored S) → Contains reached r
      → IsMonitorOf Stands (with_event trace letter b) r × (is_below b r.instance ≡ true)
  reached-monitor reached are r h =
      let from = are.each r h in
      let new : List ParametricEvent = with_event trace letter b in
      subst (λ u. (IsInstance new u × Stands r.state (slice_of new u)) × (is_below b u ≡ true)) (sym from.joined)
      (joined-monitor from.base r.state from.stored_base from.is_base from.next, below-join_right from.base.instance b from.is_base.0)

  -- ---- everything is reached
  module _ (reached : List (Stored S)) (are : AreReached m Stands letter b dead stored marks reached) (t : Binding) (above : is_below b t ≡ true) where
    -- t is reached, or its new slice hits nothing and is cut
    abbrev IsReachedOrOver : Type 0
    IsReachedOrOver = HasInstance reached t ⊎ IsOver m (slice_of (with_event trace letter b) t) (dead_mask_of dead t)

    reached-old : IsInstance trace t → IsReachedOrOver
    reached-old i =
        elim (has_or_not stored t) [
          | inl found ↦
              let r = are.moved found.0 found.1 (subst (λ u. is_below b u ≡ true) (sym found.2) above) in
              inl (r.0, r.1, r.2 ∙ found.2)
          | inr none ↦ inr (over-after m trace dead letter b event t above (store.cut t i none))
        ]

    module _ (l : length t ≡ 8) (is : t ≡ join (join_below trace t) b) where
      joined-apart : (IsInstance trace t → ⊥) → is_below b (join_below trace t) ≡ false
      joined-apart new =
          let s = join_below trace t in
          elim (cases_Bool (is_below b s)) [
            | inl high ↦ absurd (new (subst (IsInstance trace)
                (sym (is ∙ join-absorbs s b (below-compatible s b t (join_below-below trace t l) above) high)) (join_below-instance trace t l)))
            | inr apart ↦ apart
          ]

      unmarked : is_below b (join_below trace t) ≡ false → Contains marks b → ⊥
      unmarked apart h = false≢true (sym apart ∙ below-join_below trace t b l (store.seen b h) above)

      marks-covered : IsCovered marks (join (join_below trace t) b) (join_below trace t)
      marks-covered c h below =
          below-join_below trace t c l (store.seen c h) (subst (λ u. is_below c u ≡ true) (sym is) below)

      largest-base : (s : Stored S) → s.instance ≡ join_below trace t → is_below b (join_below trace t) ≡ false → IsBase b marks s
      largest-base s same apart =
          subst (λ u. (is_compatible u b ≡ true) × ((is_below b u ≡ true) ⊎ ((Contains marks b → ⊥) × (is_below b u ≡ false) × IsCovered marks (join u b) u))) (sym same)
          (below-compatible (join_below trace t) b t (join_below-below trace t l) above, inr (unmarked apart, apart, marks-covered))

      lost-over : (s : Stored S) → Contains stored s → s.instance ≡ join_below trace t → IsOverAfter m Stands letter s.state (dead_mask_of dead (join s.instance b))
          → IsOver m (slice_of (with_event trace letter b) t) (dead_mask_of dead t)
      lost-over s h same over =
          let word : slice_of (with_event trace letter b) t ≡ slice_of trace s.instance ++ letter ∷ [] =
          slice_of-above trace (record { letter = letter; binding = b }) t above ∙ ap (λ w. w ++ letter ∷ []) (slice-join_below trace t l ∙ ap (slice_of trace) (sym same)) in
          let joined : join s.instance b ≡ t = ap (λ u. join u b) same ∙ sym is in
          subst (λ w. IsOver m w (dead_mask_of dead t)) (sym word)
          (subst (λ u. IsOver m (slice_of trace s.instance ++ letter ∷ []) (dead_mask_of dead u)) joined
          (over (slice_of trace s.instance) (store.each s h).1))

      reached-from : (s : Stored S) → Contains stored s → s.instance ≡ join_below trace t → is_below b (join_below trace t) ≡ false → IsReachedOrOver
      reached-from s h same apart =
          elim (are.made s h (subst (λ u. is_below b u ≡ false) (sym same) apart) (largest-base s same apart)) [
            | inl r ↦ inl (r.0, r.1, r.2 ∙ (ap (λ u. join u b) same ∙ sym is))
            | inr over ↦ inr (lost-over s h same over)
          ]

      reached-new : (IsInstance trace t → ⊥) → IsReachedOrOver
      reached-new new =
          elim (has_or_not stored (join_below trace t)) [
            | inl found ↦ reached-from found.0 found.1 found.2 (joined-apart new)
            | inr none ↦ inr (over-above m trace dead letter b event t l above (store.cut (join_below trace t) (join_below-instance trace t l) none))
          ]

    -- each instance above the event is reached, but that one whose slice hits nothing and is cut may not be
    pub reached-all : IsInstance (with_event trace letter b) t → IsReachedOrOver
    reached-all after =
        elim (instance_or_not trace t after.eight) [
          | inl old ↦ reached-old old
          | inr new ↦ reached-new after.eight (instance-above trace (record { letter = letter; binding = b }) t above after) new
        ]

  -- ---- the report
  module _ (reached : List (Stored S)) (are : AreReached m Stands letter b dead stored marks reached) (firings : List Firing) (report : IsReport m Stands reached firings) where
    reported-fires : (f : Firing) → Contains firings f → Fires m (with_event trace letter b) (record { letter = letter; binding = b }) f
    reported-fires f h =
        let new : List ParametricEvent = with_event trace letter b in
        let from : IsReported m Stands reached f = report.each f h in
        let right = reached-monitor reached are from.monitor from.among in
        record {
          instance = subst (IsInstance new) from.instance right.0.0;
          above = subst (λ u. is_below b u ≡ true) from.instance right.1;
          full = from.full;
          hit = subst (λ u. IsHit m (slice_of new u) f.handler) from.instance (from.hit (slice_of new from.monitor.instance) right.0.1);
        }

    found-reported : (f : Firing) → Fires m (with_event trace letter b) (record { letter = letter; binding = b }) f
        → HasInstance reached f.instance → Contains firings f
    found-reported f fires found =
        let new : List ParametricEvent = with_event trace letter b in
        let r = found.0 in
        let right = reached-monitor reached are r found.1 in
        subst (λ u. Contains firings (record { instance = u; handler = f.handler })) found.2
        (report.all r (slice_of new r.instance) f.handler found.1
        (subst (λ u. bit_and m.must_bind (mask_of u) ≡ m.must_bind) (sym found.2) fires.full) right.0.1
        (subst (λ u. IsHit m (slice_of new u) f.handler) (sym found.2) fires.hit))

    fires-reported : (f : Firing) → Fires m (with_event trace letter b) (record { letter = letter; binding = b }) f → Contains firings f
    fires-reported f fires =
        elim (reached-all reached are f.instance fires.above fires.instance) [
          | inl found ↦ found-reported f fires found
          | inr over ↦ absurd (over.0 f.handler fires.hit)
        ]

pub report_is_answer-lem : (m : Meaning) {S : Type 0} (Stands : S → List ℕ → Type 0) → ReportIsAnswer m Stands
report_is_answer-lem m Stands trace dead stored reached marks letter b firings store event are report = record {
  increasing = report.increasing;
  exact = λ f. (
    reported-fires m Stands trace dead stored marks letter b store event reached are firings report f,
    fires-reported m Stands trace dead stored marks letter b store event reached are firings report f,
  );
}
