-- An event that leaves all monitors above its binding as they are.
use Rattle.std.proofs.Common.{◌≡◌, ℕ, Bool, true, inl, inr, List, [], ◌∷◌, ◌++◌, refl, sym, ◌∙◌, subst}
use Rattle.std.specs.Prelude.{Contains, filter}
use Rattle.std.proofs.lemmas.Bool.{false≢true, cases_Bool}
use Rattle.std.specs.List.Sorted.{IsStrictlySortedBy}
use Rattle.std.proofs.lemmas.List.Kept.{AllPairs-filter}
use Rattle.jm_model.specs.Bindings.{is_below, is_compatible}
use Rattle.jm_model.specs.Meanings.{Meaning}
use Rattle.jm_model.specs.declared.binding.Binding.{Binding}
use Rattle.jm_semantics.specs.Traces.{ParametricEvent}
use Rattle.jm_semantics.specs.Answers.{IsAnswer, firing_cmp}
use Rattle.jm_semantics.proofs.ListLemmas.{Contains-nil, Contains-filter, Contains-from_filter}
use Rattle.jm_semantics.proofs.BindingLemmas.{below-refl, below-compatible}
use Rattle.jm_monitors.specs.declared.stored.Stored.{Stored}
use Rattle.jm_monitors.specs.Stores.{IsStoreOf}
use Rattle.jm_monitors.specs.Steps.{AreReached, IsAfterEvent, AreMarksAfter, IsReport, IsLiveEvent, NoneCutAbove, AreResting}
use Rattle.jm_monitors.proofs.BaseLemmas.{join-absorbs}
use Rattle.jm_monitors.proofs.ReachLemmas.{report_is_answer-lem}
use Rattle.jm_monitors.proofs.EventLemmas.{event_keeps_store-lem}

sorted_none : IsStrictlySortedBy firing_cmp []
unfolding IsStrictlySortedBy
sorted_none = tt

module _ (m : Meaning) {S : Type 0} (Stands : S → List ℕ → Type 0) (trace : List ParametricEvent) (dead : List Bool) (letter : ℕ) (b : Binding) (stored : List (Stored S)) (marks : List Binding)
    (store : IsStoreOf m Stands trace dead stored marks) (event : IsLiveEvent m dead letter b) (rest : AreResting m Stands dead letter b stored marks) where
  compatible : (t : Binding) → is_below b t ≡ true → is_compatible t b ≡ true
  compatible t below = below-compatible t b t (below-refl t) below

  rest_reached : AreReached m Stands letter b dead stored marks (filter (λ (s : Stored S). is_below b s.instance) stored)
  rest_reached = record {
    distinct = AllPairs-filter (λ r s. r.instance ≡ s.instance → ⊥) (λ (s : Stored S). is_below b s.instance) stored store.distinct;
    each = λ r there.
        let (among, below) = Contains-from_filter (λ (s : Stored S). is_below b s.instance) stored r there in
        record {
          base = r;
          stored_base = among;
          is_base = (compatible r.instance below, inl below);
          joined = sym (join-absorbs r.instance b (compatible r.instance below) below);
          next = (rest.each r among below).0.stays;
        };
    moved = λ s there below. (s, Contains-filter (λ (x : Stored S). is_below b x.instance) stored s there below, refl);
    made = λ s there apart base. elim base.1 [
      | inl below ↦ absurd (false≢true (sym apart ∙ below))
      | inr fresh ↦ absurd (fresh.0 rest.marked)
    ];
  }

  rest_after : IsAfterEvent m Stands b dead stored (filter (λ (s : Stored S). is_below b s.instance) stored) stored
  rest_after = record {
    distinct = store.distinct;
    each = λ s there. elim (cases_Bool (is_below b s.instance)) [
      | inl below ↦ inl (Contains-filter (λ (x : Stored S). is_below b x.instance) stored s there below, (rest.each s there below).1)
      | inr apart ↦ inr (there, apart)
    ];
    reached_stay = λ r there. inl (Contains-from_filter (λ (x : Stored S). is_below b x.instance) stored r there).0;
    others_stay = λ s there apart. there;
  }

  rest_report : IsReport m Stands (filter (λ (s : Stored S). is_below b s.instance) stored) []
  rest_report = record {
    increasing = sorted_none;
    each = λ f there. absurd (Contains-nil f there);
    all = λ s w k there full stands hit.
        let (among, below) = Contains-from_filter (λ (x : Stored S). is_below b x.instance) stored s there in
        absurd ((rest.each s among below).0.quiet w stands k hit);
  }

  rest_marks : AreMarksAfter b marks marks
  rest_marks t = ((λ h. inl h), (λ h. elim h [ inl old ↦ old | inr same ↦ subst (λ u. Contains marks u) (sym same) rest.marked ]))

  -- the store stays, none above is cut, and the answer is empty
  pub rest_keeps_store : IsStoreOf m Stands (trace ++ record { letter = letter; binding = b } ∷ []) dead stored marks × NoneCutAbove m Stands b dead stored
  rest_keeps_store = event_keeps_store-lem m Stands trace dead stored (filter (λ (s : Stored S). is_below b s.instance) stored) stored marks marks letter b store event rest_reached rest_after rest_marks

  pub rest_answer : IsAnswer m trace (record { letter = letter; binding = b }) []
  rest_answer = report_is_answer-lem m Stands trace dead stored (filter (λ (s : Stored S). is_below b s.instance) stored) marks letter b [] store event rest_reached rest_report
