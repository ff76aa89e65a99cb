-- An entry of an index: a binding and its slot. One that isn't live counts for nothing.
use Rattle.std.specs.Prelude.{ℕ, Bool}
use Rattle.jm_model.specs.declared.binding.Binding.{Binding}

pub record Kept : Type 0 where
  pub binding : Binding
  pub slot : ℕ
  pub live : Bool
