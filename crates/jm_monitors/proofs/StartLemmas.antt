-- A store before the first event, and joins that stand already.
use Rattle.std.proofs.Common.{◌≡◌, ℕ, Bool, true, inl, inr, List, [], ◌∷◌, sym, ◌∙◌, subst, arith}
use Rattle.jm_model.specs.Bindings.{empty, is_below, join}
use Rattle.jm_model.specs.Meanings.{Meaning, IsCutWord}
use Rattle.jm_model.specs.declared.binding.Binding.{Binding}
use Rattle.jm_semantics.specs.Instances.{IsInstance}
use Rattle.jm_semantics.proofs.ListLemmas.{Contains-nil, Contains-head, Contains-cons_cases}
use Rattle.jm_semantics.proofs.BindingLemmas.{below-length, below-trans, below-join_left, below-join_right, join-gives}
use Rattle.jm_semantics.proofs.InstanceLemmas.{instance-join, empty-instance}
use Rattle.jm_marks.specs.Marks.{dead_mask_of}
use Rattle.jm_monitors.specs.declared.stored.Stored.{Stored}
use Rattle.jm_monitors.specs.Stores.{IsMonitorOf, IsStoreOf}
use Rattle.jm_monitors.specs.Laws.{StartIsStore, JoinsOfSeenStand}

-- the empty trace has the empty instance alone
only_empty : (t : Binding) → IsInstance [] t → t ≡ empty
only_empty t i = instance-join [] t i

module _ (m : Meaning) {S : Type 0} (Stands : S → List ℕ → Type 0) (dead : List Bool) where
  empty-stored : (state : S) → Stands state [] → IsStoreOf m Stands [] dead (record { instance = empty; state = state } ∷ []) []
  empty-stored state stands =
      let first : Stored S = record { instance = empty; state = state } in
      record {
        distinct = λ i j d l within. absurd (omega arith);
        each = λ s h. elim (Contains-cons_cases first [] s h) [
          | inl same ↦ subst (IsMonitorOf Stands []) same (empty-instance [], stands)
          | inr none ↦ absurd (Contains-nil s none)
        ];
        cut = λ t i none. absurd (none (first, Contains-head first [], sym (only_empty t i)));
        seen = λ b h. h;
        marked = λ b h live. h;
      }

  empty-cut : IsCutWord m [] 0 → IsStoreOf m Stands [] dead [] []
  empty-cut cut = record {
    distinct = λ i j d l within. absurd (omega arith);
    each = λ s h. absurd (Contains-nil s h);
    cut = λ t i none. subst (λ u. IsCutWord m [] (dead_mask_of dead u)) (sym (only_empty t i)) cut;
    seen = λ b h. h;
    marked = λ b h live. h;
  }

pub start_is_store-lem : (m : Meaning) {S : Type 0} (Stands : S → List ℕ → Type 0) → StartIsStore m Stands
start_is_store-lem m Stands dead stored start =
    elim start [
      | inl one ↦ subst (λ l. IsStoreOf m Stands [] dead l []) (sym one.2) (empty-stored m Stands dead one.0 one.1)
      | inr none ↦ subst (λ l. IsStoreOf m Stands [] dead l []) (sym none.0) (empty-cut m Stands dead none.1)
    ]

pub joins_of_seen_stand-lem : JoinsOfSeenStand
joins_of_seen_stand-lem trace s b i seen c =
    let low : is_below s (join s b) ≡ true = below-join_left s b c in
    record {
      eight = sym (below-length s (join s b) low) ∙ i.eight;
      given = λ p o at. elim (join-gives s b p o at) [
        | inl mine ↦ let g = i.given p o mine in (g.0, g.1, below-trans g.0 s (join s b) g.2 low, g.3)
        | inr its ↦ (b, seen, below-join_right s b c, its)
      ];
    }
