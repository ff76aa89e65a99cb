-- What is kept in memory fits the history.
use Rattle.std.proofs.Common.{◌≡◌, ◌≢◌, ℕ, ◌<◌, Bool, true, inl, inr, List, [], ◌∷◌, ◌++◌, map, length, refl, sym, ◌∙◌, subst, arith}
use Rattle.std.specs.Prelude.{Contains, Some, Option, MatchOption}
use Rattle.std.specs.List.{AllPairs}
use Rattle.std.proofs.lemmas.List.{length-map, get_or-map}
use Rattle.jm_model.specs.Bindings.{is_below}
use Rattle.jm_model.specs.Meanings.{Meaning}
use Rattle.jm_model.specs.declared.binding.Binding.{Binding}
use Rattle.jm_model.specs.declared.step.Entry.{Entry}
use Rattle.jm_semantics.specs.Traces.{slice_of}
use Rattle.jm_semantics.specs.Histories.{trace_of}
use Rattle.jm_semantics.specs.Instances.{IsInstance}
use Rattle.jm_semantics.specs.Disposal.{IsCut}
use Rattle.jm_semantics.proofs.ListLemmas.{Contains-nil, Contains-head, Contains-cons, Contains-cons_cases, Contains-map}
use Rattle.jm_monitors.specs.declared.stored.Stored.{Stored}
use Rattle.jm_monitors.specs.Deaths.{AreFlagsOf}
use Rattle.jm_monitors.specs.Stores.{HasInstance, IsStoreOf}
use Rattle.jm_monitors.specs.Steps.{NoneCutAbove, IsAfterPass}
use Rattle.jm_monitors.proofs.CountLemmas.{cut-from_flags, cut-by_flags}
use Rattle.jm_monitors.proofs.PassLemmas.{pass_keeps_store-lem}
use Rattle.jm_store.specs.Contents.{Contents, stored_of}
use Rattle.jm_core.specs.Cores.{last_of, NoneCut, IsMemorySwept, IsTidyAfter, IsTidy, FitsHistory}
use Rattle.jm_core.specs.Inside.{instances_of, IsCore}
use Rattle.jm_core.proofs.FlagLemmas.{live-by_flags}

-- ---- instances of monitors
module _ {S : Type 0} where
  pub has-from_instances : (stored : List (Stored S)) (t : Binding) → Contains (instances_of stored) t → HasInstance stored t
  has-from_instances [] t h = absurd (Contains-nil t h)
  has-from_instances (s ∷ stored) t h =
      elim (Contains-cons_cases s.instance (instances_of stored) t h) [
        | inl same ↦ (s, Contains-head s stored, same)
        | inr later ↦ let g = has-from_instances stored t later in (g.0, Contains-cons s stored g.0 g.1, g.2)
      ]

  pub instances-from_has : (stored : List (Stored S)) (t : Binding) → HasInstance stored t → Contains (instances_of stored) t
  instances-from_has stored t h = subst (Contains (instances_of stored)) h.2 (Contains-map (λ (s : Stored S). s.instance) stored h.0 h.1)

  pub distinct_instances : (stored : List (Stored S)) → AllPairs (λ r s. r.instance ≢ s.instance) stored → AllPairs (λ t u. t ≢ u) (instances_of stored)
  distinct_instances [] h i j d lt within same = absurd (omega arith)
  distinct_instances (s ∷ stored) h i j d lt within same =
      let name : Stored S → Binding = λ r. r.instance in
      let size : length (map name (s ∷ stored)) ≡ length (s ∷ stored) = length-map (s ∷ stored) name in
      let later : j < length (s ∷ stored) = omega (arith, size, within) in
      let earlier : i < length (s ∷ stored) = omega (arith, lt, later) in
      h i j s lt later (sym (get_or-map name (s ∷ stored) i s d earlier) ∙ same ∙ get_or-map name (s ∷ stored) j s d later)

-- ---- the last entry
pub last_of-push : (h : List Entry) (x : Entry) → last_of (h ++ x ∷ []) ≡ Some x
last_of-push [] x = refl
last_of-push (y ∷ []) x = refl
last_of-push (y ∷ z ∷ h) x = last_of-push (z ∷ h) x

module _ (m : Meaning) where
  pub tidy-push : (h : List Entry) (x : Entry) (stored marks : List Binding) → IsTidyAfter m (h ++ x ∷ []) stored marks x.step x.outcome → IsTidy m (h ++ x ∷ []) stored marks
  tidy-push h x stored marks after =
      subst (λ (last : Option Entry). MatchOption last (Unit {0}) (λ y. IsTidyAfter m (h ++ x ∷ []) stored marks y.step y.outcome)) (sym (last_of-push h x)) after

  module _ {S : Type 0} (Stands : S → List ℕ → Type 0) where
    -- directly after an event
    pub none_cut : (h : List Entry) (dead : List Bool) (stored : List (Stored S)) (marks : List Binding) (b : Binding) → AreFlagsOf h dead → IsStoreOf m Stands (trace_of h) dead stored marks
        → NoneCutAbove m Stands b dead stored → NoneCut m h (instances_of stored) b
    none_cut h dead stored marks b flags store none t at above cut =
        let g = has-from_instances stored t at in
        let is = store.each g.0 g.1 in
        none g.0 g.1 (subst (λ u. is_below b u ≡ true) (sym g.2) above) (slice_of (trace_of h) g.0.instance) is.1
        (cut-by_flags m h dead g.0.instance flags (subst (IsCut m h) (sym g.2) cut))

    -- directly after a pass
    pub swept : (h : List Entry) (dead : List Bool) (stored after : List (Stored S)) (marks left : List Binding) → AreFlagsOf h dead → IsStoreOf m Stands (trace_of h) dead stored marks
        → IsAfterPass m Stands dead stored after marks left → IsMemorySwept m h (instances_of after) left
    swept h dead stored after marks left flags store pass =
        let passed = pass_keeps_store-lem m Stands (trace_of h) dead stored after marks left store pass in
        record {
          exact = λ t. (
            (λ c. let alive = (passed.1 t).0 (has-from_instances after t c) in (alive.0, λ cut. alive.1 (cut-by_flags m h dead t flags cut))),
            (λ alive. instances-from_has after t ((passed.1 t).1 (alive.0, λ cut. alive.1 (cut-from_flags m h dead t flags cut)))),
          );
          live = λ b. (
            (λ c. let seen = (passed.2 b).0 c in (seen.0, live-by_flags h dead b flags ∙ seen.1)),
            (λ seen. (passed.2 b).1 (seen.0, sym (live-by_flags h dead b flags) ∙ seen.1)),
          );
        }

    -- at every moment
    pub fits_history : (h : List Entry) (dead : List Bool) (store : Contents S) → IsCore m Stands h dead store → FitsHistory m h (instances_of (stored_of store)) store.marks
    fits_history h dead store core = record {
      distinct = distinct_instances (stored_of store) core.holds.monitors.distinct;
      instances = λ t c. let g = has-from_instances (stored_of store) t c in subst (IsInstance (trace_of h)) g.2 (core.holds.monitors.each g.0 g.1).0;
      others_cut = λ t i none. cut-from_flags m h dead t core.flags (core.holds.monitors.cut t i (λ has. none (instances-from_has (stored_of store) t has)));
      seen = core.holds.monitors.seen;
      marked = λ b seen live. core.holds.monitors.marked b seen (sym (live-by_flags h dead b core.flags) ∙ live);
      tidy = core.tidy;
    }
