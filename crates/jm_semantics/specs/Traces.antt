use Rattle.std.specs.Prelude.{ℕ, List, map, filter}
use Rattle.jm_model.specs.Words.{Word}
use Rattle.jm_model.specs.Bindings.{is_below}
use Rattle.jm_model.specs.declared.binding.Binding.{Binding}

-- a parametric event: a letter with a binding of its parameters. A list of these is a parametric trace.
pub record ParametricEvent : Type 0 where
  pub letter : ℕ
  pub binding : Binding

-- the bindings that a trace has shown
abbrev pub seen_of : List ParametricEvent → List Binding
seen_of trace = map (λ a. a.binding) trace

-- the trace slice of t: the letters, in order, of the events whose binding lies below t
abbrev pub slice_of : List ParametricEvent → Binding → Word
slice_of trace t = map (λ a. a.letter) (filter (λ a. is_below a.binding t) trace)
