-- Objects up to a limit.
use Rattle.std.specs.Prelude.{◌≡◌, ℕ, ◌<◌, Some}
use Rattle.jm_model.specs.declared.binding.Binding.{Binding}
use Rattle.jm_model.specs.Bindings.{object_at}

-- all objects that b binds are below the limit
abbrev pub IsWithin : ℕ → Binding → Type 0
IsWithin limit b = (p o : ℕ) → object_at b p ≡ Some o → o < limit
