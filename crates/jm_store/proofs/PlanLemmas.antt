-- Loops over the moves of a plan.
use Rattle.std.proofs.Common.{◌≡◌, ℕ, suc, ◌+◌, ◌<◌, ◌≤◌, ◌⊎◌, inl, inr, List, ◌∷◌, length, drop, get_or, refl, sym, ap, ◌∙◌, subst, arith, drop-cons, length-drop}
use Rattle.std.specs.Prelude.{Bool, Some, Err, Contains}
use Rattle.jm_model.specs.Words.{Word}
use Rattle.jm_model.specs.Meanings.{Meaning}
use Rattle.jm_model.specs.declared.binding.Binding.{Binding}
use Rattle.jm_model.specs.declared.step.NoMemory.{NoMemory}
use Rattle.jm_semantics.proofs.ListLemmas.{Contains-cons_cases}
use Rattle.jm_index.specs.Index.{Pair}
use Rattle.jm_store.specs.declared.moves.Move.{Move}
use Rattle.jm_store.specs.Slots.{monitor_at}
use Rattle.jm_store.specs.Contents.{Contents, IsFilled, IsPlannedBy, KeepsContents}
use Rattle.jm_store.specs.Plans.{CanPlan, Plans}

pub item_among : {X : Type 0} (xs : List X) (i : ℕ) (x : X) → i < length xs → x ≡ get_or xs i x → Contains xs x
item_among xs i x lt is = (i, lt, sym is)

pub drop_next : {X : Type 0} (xs : List X) (i : ℕ) (x : X) → i < length xs → x ≡ get_or xs i x → drop i xs ≡ x ∷ drop (i + 1) xs
drop_next {X} xs i x lt is = drop-cons xs i x lt ∙ ap (λ (y : X). y ∷ drop (suc i) xs) (sym is) ∙ ap (λ (n : ℕ). x ∷ drop n xs) (sym add-one')
  where
    add-one' : i + 1 ≡ suc i
    add-one' = omega arith

module _ {S : Type 0} where
  -- a pair is planned by the next move, or by a later one
  pub planned_next : (moves : List (Move S)) (i : ℕ) (move : Move S) (pair : Pair) → i < length moves → move ≡ get_or moves i move → IsPlannedBy (drop i moves) pair
      → ((move.slot ≡ Some pair.slot) × (move.monitor.instance ≡ pair.binding)) ⊎ IsPlannedBy (drop (i + 1) moves) pair
  planned_next moves i move pair lt is (other, among, slot, binding) =
      elim (Contains-cons_cases move (drop (i + 1) moves) other (subst (λ (l : List (Move S)). Contains l other) (drop_next moves i move lt is) among)) [
        | inl same ↦ inl (ap (λ (x : Move S). x.slot) same ∙ slot, ap (λ (x : Move S). x.monitor.instance) same ∙ binding)
        | inr later ↦ inr (other, later, slot, binding)
      ]

  pub planned_none : (moves : List (Move S)) (i : ℕ) (pair : Pair) → length moves ≤ i → IsPlannedBy (drop i moves) pair → ⊥
  planned_none moves i pair le (other, (k, lt, is), slot, binding) = omega (arith, lt, length-drop i moves, le)

  pub filled_same : (old new : Contents S) (pair : Pair) → ((k : ℕ) → monitor_at old.monitors k ≡ monitor_at new.monitors k) → IsFilled old pair → IsFilled new pair
  filled_same old new pair same (s, at, is) = (s, sym (same pair.slot) ∙ at, is)

  -- the contents stay where nothing is done, and over two steps that leave them
  pub contents_kept : (a : Contents S) → KeepsContents a a
  contents_kept a = record { stored = refl; monitors = λ k. refl; marks = refl; ending = refl }

  pub contents_still : (a b c : Contents S) → KeepsContents b c → KeepsContents a b → KeepsContents a c
  contents_still a b c second first = record {
    stored = second.stored ∙ first.stored;
    monitors = λ k. second.monitors k ∙ first.monitors k;
    marks = second.marks ∙ first.marks;
    ending = second.ending ∙ first.ending;
  }

-- out of memory before anything of the store changed
pub plans_untouched : (m : Meaning) {S : Type 0} (Stands : S → Word → Type 0) (dead : List Bool) (letter : ℕ) (b : Binding) (store : Contents S) (e : NoMemory) → CanPlan m dead letter b store
    → Plans m Stands dead letter b store store (Err e)
plans_untouched m Stands dead letter b store e can = record {
  stored = refl;
  monitors = λ k. refl;
  marks = refl;
  fewer = λ e d ends. ends;
  fits = can.fits;
  closed = can.closed;
  opened = tt;
  binding = tt;
  plan = tt;
  keeps = λ trace holds. holds;
  spares = λ spared. spared;
  leaves = tt;
  works = tt;
}
