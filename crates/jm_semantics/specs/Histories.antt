use Rattle.std.specs.Prelude.{length, ◌%◌, ◌^◌, ℕ, ◌==◌, Bool, List, Option, Some, None, filter_map, find}
use Rattle.std.specs.List.{list_any}
use Rattle.jm_model.specs.Words.{Mask}
use Rattle.jm_model.specs.Bindings.{mask_where}
use Rattle.jm_model.specs.declared.binding.Binding.{Binding}
use Rattle.jm_model.specs.declared.step.Entry.{Entry}
use Rattle.jm_model.specs.declared.step.Step.{Step}
use Rattle.jm_model.specs.declared.step.Step.TheVariants.{Event, Death}
use Rattle.jm_model.specs.declared.step.Outcome.{Outcome}
use Rattle.jm_model.specs.declared.step.Outcome.TheVariants.{Fired, Done}
use Rattle.jm_semantics.specs.Traces.{ParametricEvent}

-- the parametric event of a step, where it is an event and was accepted
abbrev pub accepted_event : Step → Outcome → Option ParametricEvent
accepted_event (Event e b) (Fired firings) = Some (record { letter = e.0; binding = b })
accepted_event _ _ = None

-- the parametric trace of a history: its accepted events, in order
abbrev pub trace_of : List Entry → List ParametricEvent
trace_of h = filter_map (λ x. accepted_event x.step x.outcome) h

-- the object of a step, where it is a death and was accepted
abbrev pub accepted_death : Step → Outcome → Option ℕ
accepted_death (Death o) Done = Some o
accepted_death _ _ = None

-- the dead objects of a history
abbrev pub dead_of : List Entry → List ℕ
dead_of h = filter_map (λ x. accepted_death x.step x.outcome) h

-- whether o is dead
abbrev pub is_dead : List Entry → ℕ → Bool
is_dead h o = list_any (λ q. q == o) (dead_of h)

-- the parameters that t binds to dead objects, as a mask
abbrev pub dead_mask : List Entry → Binding → Mask
dead_mask h t = mask_where (is_dead h) t

-- the first dead object that b binds, in the order of the parameters
abbrev pub first_dead : List Entry → Binding → Option ℕ
first_dead h b = find (is_dead h) (filter_map (λ x. x) b)

-- the place of an entry that follows the history
abbrev pub place_of : List Entry → ℕ
place_of h = length h % 2 ^ 64
