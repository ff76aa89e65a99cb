-- Bindings and steps whose parts have names.
use Rattle.std.specs.Prelude.{ℕ, ◌≡◌, ◌<◌, length, Some}
use Rattle.jm_model.specs.Bindings.{object_at}
use Rattle.jm_model.specs.declared.binding.Binding.{Binding}
use Rattle.jm_model.specs.declared.step.Step.{Step}
use Rattle.jm_model.specs.declared.step.Step.TheVariants.{Event, Death, Pass}
use Rattle.jm_print.specs.Lexicons.{Lexicon}

-- each parameter that is bound has a name, and so has its object
abbrev pub IsNamed : Lexicon → Binding → Type 0
IsNamed l b = (p o : ℕ) → object_at b p ≡ Some o → (p < length l.parameters) × (o < length l.objects)

-- a step of named events, parameters and objects
abbrev pub IsNamedStep : Lexicon → Step → Type 0
IsNamedStep l (Event e b) = (e.0 < length l.events) × IsNamed l b
IsNamedStep l (Death o) = o < length l.objects
IsNamedStep l Pass = Unit {0}
