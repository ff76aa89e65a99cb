-- What contracts see of a core, and what holds of it after each step.
use Rattle.std.specs.Prelude.{ℕ, ◌≡◌, ◌≢◌, ◌↔◌, Bool, true, not, List, [], ◌∷◌, ◌++◌, Option, Some, None, Contains, MatchOption}
use Rattle.std.specs.List.{AllPairs, list_any}
use Rattle.std.specs.List.Sorted.{IsPermutation, IsSorted}
use Rattle.jm_model.specs.Meanings.{Meaning}
use Rattle.jm_model.specs.Bindings.{is_below, objects_of, binding_cmp}
use Rattle.jm_model.specs.declared.binding.Binding.{Binding}
use Rattle.jm_model.specs.declared.step.Step.{Step}
use Rattle.jm_model.specs.declared.step.Step.TheVariants.{Event, Pass}
use Rattle.jm_model.specs.declared.step.Outcome.{Outcome}
use Rattle.jm_model.specs.declared.step.Outcome.TheVariants.{Fired, Kept}
use Rattle.jm_model.specs.declared.step.Entry.{Entry}
use Rattle.jm_semantics.specs.Traces.{seen_of}
use Rattle.jm_semantics.specs.Histories.{trace_of, is_dead}
use Rattle.jm_semantics.specs.Instances.{IsInstance}
use Rattle.jm_semantics.specs.Disposal.{IsCut}

-- What a core is seen as: what its specification means, as plain data, how many objects there are, its history, and
-- what it keeps in memory beside the history: the bindings that have a monitor, and the marks.
pub record Core (D : Type 0) : Type 0 where
  pub definition : D
  pub objects : ℕ
  pub entries : List Entry
  pub stored : List Binding
  pub marks : List Binding

-- the core has these entries more, at the end of its history, and the same specification and objects
pub record IsExtended {D : Type 0} (before after : Core D) (added : List Entry) : Type 0 where
  pub definition : after.definition ≡ before.definition
  pub objects : after.objects ≡ before.objects
  pub entries : after.entries ≡ before.entries ++ added

-- what the core keeps in memory is as before
pub record KeepsMemory {D : Type 0} (before after : Core D) : Type 0 where
  pub stored : after.stored ≡ before.stored
  pub marks : after.marks ≡ before.marks

-- it is as before unless the outcome is an answer
abbrev pub KeepsMemoryUnlessFired : {D : Type 0} → Outcome → Core D → Core D → Type 0
KeepsMemoryUnlessFired (Fired firings) before after = Unit {0}
KeepsMemoryUnlessFired _ before after = KeepsMemory before after

-- b binds an object that is alive
abbrev pub binds_live : List Entry → Binding → Bool
binds_live h b = list_any (λ o. not (is_dead h o)) (objects_of b)

-- the last entry
abbrev pub last_of : List Entry → Option Entry
last_of [] = None
last_of (x ∷ []) = Some x
last_of (x ∷ y ∷ h) = last_of (y ∷ h)

-- no binding above b that is stored is cut
abbrev pub NoneCut : Meaning → List Entry → List Binding → Binding → Type 0
NoneCut m h stored b = (t : Binding) → Contains stored t → is_below b t ≡ true → IsCut m h t → ⊥

-- stored are exactly the instances that aren't cut, and marks are exactly the seen bindings with a live object
pub record IsMemorySwept (m : Meaning) (h : List Entry) (stored marks : List Binding) : Type 0 where
  pub exact : (t : Binding) → (Contains stored t ↔ (IsInstance (trace_of h) t × (IsCut m h t → ⊥)))
  pub live : (b : Binding) → (Contains marks b ↔ (Contains (seen_of (trace_of h)) b × (binds_live h b ≡ true)))

-- what holds directly after this step with this outcome
abbrev pub IsTidyAfter : Meaning → List Entry → List Binding → List Binding → Step → Outcome → Type 0
IsTidyAfter m h stored marks (Event e b) (Fired firings) = NoneCut m h stored b
IsTidyAfter m h stored marks Pass (Kept n) = IsMemorySwept m h stored marks
IsTidyAfter m h stored marks _ _ = Unit {0}

-- Directly after an event that was answered, no binding above the event's that is stored is cut. Directly after a pass,
-- the memory is swept.
abbrev pub IsTidy : Meaning → List Entry → List Binding → List Binding → Type 0
IsTidy m h stored marks = MatchOption (last_of h) (Unit {0}) (λ x. IsTidyAfter m h stored marks x.step x.outcome)

-- What is kept in memory fits the history: stored are distinct instances, and each other instance is cut, so that no
-- later outcome names it. Each mark was seen, and each seen binding with a live object is a mark.
pub record FitsHistory (m : Meaning) (h : List Entry) (stored marks : List Binding) : Type 0 where
  pub distinct : AllPairs (λ t u. t ≢ u) stored
  pub instances : (t : Binding) → Contains stored t → IsInstance (trace_of h) t
  pub others_cut : (t : Binding) → IsInstance (trace_of h) t → (Contains stored t → ⊥) → IsCut m h t
  pub seen : (b : Binding) → Contains marks b → Contains (seen_of (trace_of h)) b
  pub marked : (b : Binding) → Contains (seen_of (trace_of h)) b → binds_live h b ≡ true → Contains marks b
  pub tidy : IsTidy m h stored marks

-- the list has the bindings, in order
pub record AreInOrder (bindings list : List Binding) : Type 0 where
  pub same : IsPermutation bindings list
  pub ordered : IsSorted binding_cmp list
