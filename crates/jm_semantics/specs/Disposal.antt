use Rattle.std.specs.Prelude.{ℕ, ◌≡◌, ◌↔◌, List, length, Contains}
use Rattle.std.specs.List.Sorted.{IsStrictlySortedBy}
use Rattle.jm_model.specs.Bindings.{binding_cmp}
use Rattle.jm_model.specs.Meanings.{Meaning, IsCutWord}
use Rattle.jm_model.specs.declared.binding.Binding.{Binding}
use Rattle.jm_model.specs.declared.step.Entry.{Entry}
use Rattle.jm_semantics.specs.Traces.{slice_of}
use Rattle.jm_semantics.specs.Histories.{trace_of, dead_mask}
use Rattle.jm_semantics.specs.Instances.{IsInstance}

-- t is cut: it can never fire again
abbrev pub IsCut : Meaning → List Entry → Binding → Type 0
IsCut m h t = IsCutWord m (slice_of (trace_of h) t) (dead_mask h t)

-- the number of the instances that aren't cut: the length of the strictly increasing list of exactly these
pub record IsKeptCount (m : Meaning) (h : List Entry) (n : ℕ) : Type 0 where
  pub kept : List Binding
  pub increasing : IsStrictlySortedBy binding_cmp kept
  pub exact : (t : Binding) → (Contains kept t ↔ (IsInstance (trace_of h) t × (IsCut m h t → ⊥)))
  pub count : n ≡ length kept
