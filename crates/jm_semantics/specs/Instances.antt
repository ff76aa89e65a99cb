use Rattle.std.specs.Prelude.{ℕ, ◌≡◌, List, filter, length, Contains, Some, true}
use Rattle.jm_model.specs.Bindings.{is_below, object_at, join_of}
use Rattle.jm_model.specs.declared.binding.Binding.{Binding}
use Rattle.jm_semantics.specs.Traces.{ParametricEvent, seen_of}

-- some binding of the list lies below t and gives object o to parameter p
abbrev pub GivenBelow : List Binding → Binding → ℕ → ℕ → Type 0
GivenBelow bs t p o = (b : Binding) × Contains bs b × (is_below b t ≡ true) × (object_at b p ≡ Some o)

-- t is an instance: each object that it binds is given to the same parameter by a seen binding below t
pub record IsInstance (trace : List ParametricEvent) (t : Binding) : Type 0 where
  pub eight : length t ≡ 8
  pub given : (p o : ℕ) → object_at t p ≡ Some o → GivenBelow (seen_of trace) t p o

-- the seen bindings below t
abbrev pub seen_below : List ParametricEvent → Binding → List Binding
seen_below trace t = filter (λ b. is_below b t) (seen_of trace)

-- the join of the seen bindings below t
abbrev pub join_below : List ParametricEvent → Binding → Binding
join_below trace t = join_of (seen_below trace t)
