-- An event keeps a store.
use Rattle.std.proofs.Common.{◌≡◌, ℕ, Bool, true, false, ◌⊎◌, inl, inr, List, [], ◌∷◌, ◌++◌, sym, ◌∙◌, subst}
use Rattle.std.specs.Prelude.{Contains}
use Rattle.std.proofs.lemmas.Bool.{false≢true, cases_Bool}
use Rattle.std.proofs.lemmas.List.Elements.{Contains-append_left, Contains-append_right, Contains-push_cases}
use Rattle.jm_model.specs.Bindings.{is_below}
use Rattle.jm_model.specs.Meanings.{Meaning, IsCutWord}
use Rattle.jm_model.specs.declared.binding.Binding.{Binding}
use Rattle.jm_semantics.specs.Traces.{ParametricEvent, seen_of, slice_of}
use Rattle.jm_semantics.specs.Instances.{IsInstance}
use Rattle.jm_semantics.proofs.ListLemmas.{Contains-head}
use Rattle.jm_semantics.proofs.InstanceLemmas.{instance-append, instance-apart}
use Rattle.jm_semantics.proofs.HistoryLemmas.{seen_of-push, slice_of-apart}
use Rattle.jm_marks.specs.Marks.{dead_mask_of, has_live}
use Rattle.jm_monitors.specs.declared.stored.Stored.{Stored}
use Rattle.jm_monitors.specs.Stores.{HasInstance, IsMonitorOf, IsStoreOf}
use Rattle.jm_monitors.specs.Steps.{AreReached, IsAfterEvent, AreMarksAfter, IsLiveEvent, NoneCutAbove}
use Rattle.jm_monitors.specs.Laws.{EventKeepsStore}
use Rattle.jm_monitors.proofs.ReachLemmas.{with_event, reached-monitor, reached-all}

-- ---- what has been seen
pub seen-before : (trace : List ParametricEvent) (a : ParametricEvent) (c : Binding) → Contains (seen_of trace) c → Contains (seen_of (trace ++ a ∷ [])) c
seen-before trace a c h =
    subst (λ bs. Contains bs c) (sym (seen_of-push trace a)) (Contains-append_left (seen_of trace) (a.binding ∷ []) c h)

pub seen-now : (trace : List ParametricEvent) (a : ParametricEvent) → Contains (seen_of (trace ++ a ∷ [])) a.binding
seen-now trace a =
    subst (λ bs. Contains bs a.binding) (sym (seen_of-push trace a))
    (Contains-append_right (seen_of trace) (a.binding ∷ []) a.binding (Contains-head a.binding []))

pub seen-cases : (trace : List ParametricEvent) (a : ParametricEvent) (c : Binding) → Contains (seen_of (trace ++ a ∷ [])) c → Contains (seen_of trace) c ⊎ (a.binding ≡ c)
seen-cases trace a c h = Contains-push_cases (seen_of trace) a.binding c (subst (λ bs. Contains bs c) (seen_of-push trace a) h)

module _ (m : Meaning) {S : Type 0} (Stands : S → List ℕ → Type 0) (trace : List ParametricEvent) (dead : List Bool) (stored reached after : List (Stored S)) (marks marked : List Binding) (letter : ℕ) (b : Binding)
    (store : IsStoreOf m Stands trace dead stored marks) (event : IsLiveEvent m dead letter b) (are : AreReached m Stands letter b dead stored marks reached)
    (is : IsAfterEvent m Stands b dead stored reached after) (marks_after : AreMarksAfter b marks marked) where
  -- a monitor that the event doesn't reach is of the longer trace
  stays : (s : Stored S) → Contains stored s → is_below b s.instance ≡ false → IsMonitorOf Stands (with_event trace letter b) s
  stays s h apart =
      let a : ParametricEvent = record { letter = letter; binding = b } in
      let before = store.each s h in
      (instance-append trace (a ∷ []) s.instance before.0, subst (Stands s.state) (sym (slice_of-apart trace a s.instance apart)) before.1)

  after-each : (s : Stored S) → Contains after s → IsMonitorOf Stands (with_event trace letter b) s
  after-each s h =
      elim (is.each s h) [
        | inl moved ↦ (reached-monitor m Stands trace dead stored marks letter b store event reached are s moved.0).0
        | inr other ↦ stays s other.0 other.1
      ]

  -- ---- what isn't stored is cut
  module _ (t : Binding) (i : IsInstance (with_event trace letter b) t) (none : HasInstance after t → ⊥) where
    abbrev IsCutAfter : Type 0
    IsCutAfter = IsCutWord m (slice_of (with_event trace letter b) t) (dead_mask_of dead t)

    cut-reached : (r : Stored S) → Contains reached r → r.instance ≡ t → IsCutAfter
    cut-reached r h same =
        let new : List ParametricEvent = with_event trace letter b in
        let right = reached-monitor m Stands trace dead stored marks letter b store event reached are r h in
        elim (is.reached_stay r h) [
          | inl there ↦ absurd (none (r, there, same))
          | inr cut ↦ subst (λ u. IsCutWord m (slice_of new u) (dead_mask_of dead u)) same (cut (slice_of new r.instance) right.0.1)
        ]

    cut-above : is_below b t ≡ true → IsCutAfter
    cut-above above =
        elim (reached-all m Stands trace dead stored marks letter b store event reached are t above i) [
          | inl r ↦ cut-reached r.0 r.1 r.2
          | inr over ↦ over.1
        ]

    cut-apart : is_below b t ≡ false → IsCutAfter
    cut-apart apart =
        let a : ParametricEvent = record { letter = letter; binding = b } in
        subst (λ w. IsCutWord m w (dead_mask_of dead t)) (sym (slice_of-apart trace a t apart))
        (store.cut t (instance-apart trace a t apart i)
        (λ h. none (h.0, is.others_stay h.0 h.1 (subst (λ u. is_below b u ≡ false) (sym h.2) apart), h.2)))

    after-cut : IsCutAfter
    after-cut = elim (cases_Bool (is_below b t)) [ inl above ↦ cut-above above | inr apart ↦ cut-apart apart ]

  -- ---- marks
  after-seen : (c : Binding) → Contains marked c → Contains (seen_of (with_event trace letter b)) c
  after-seen c h =
      let a : ParametricEvent = record { letter = letter; binding = b } in
      elim ((marks_after c).0 h) [
        | inl old ↦ seen-before trace a c (store.seen c old)
        | inr same ↦ subst (λ u. Contains (seen_of (trace ++ a ∷ [])) u) (sym same) (seen-now trace a)
      ]

  after-marked : (c : Binding) → Contains (seen_of (with_event trace letter b)) c → has_live dead c ≡ true → Contains marked c
  after-marked c h live =
      elim (seen-cases trace (record { letter = letter; binding = b }) c h) [
        | inl old ↦ (marks_after c).1 (inl (store.marked c old live))
        | inr same ↦ (marks_after c).1 (inr (sym same))
      ]

  event-store : IsStoreOf m Stands (with_event trace letter b) dead after marked
  event-store = record { distinct = is.distinct; each = after-each; cut = after-cut; seen = after-seen; marked = after-marked }

  -- those above the event's binding were reached, and aren't cut
  event-none_cut : NoneCutAbove m Stands b dead after
  event-none_cut s h above =
      elim (is.each s h) [
        | inl moved ↦ moved.1
        | inr other ↦ absurd (false≢true (sym other.1 ∙ above))
      ]

pub event_keeps_store-lem : (m : Meaning) {S : Type 0} (Stands : S → List ℕ → Type 0) → EventKeepsStore m Stands
event_keeps_store-lem m Stands trace dead stored reached after marks marked letter b store event are is marks_after = (
  event-store m Stands trace dead stored reached after marks marked letter b store event are is marks_after,
  event-none_cut m Stands trace dead stored reached after marks marked letter b store event are is marks_after,
)
