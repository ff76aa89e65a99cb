-- Instances with their slices.
use Rattle.std.specs.Prelude.{ℕ, ◌≡◌, ◌<◌, ◌↔◌, ◌&&◌, ◌||◌, Bool, not, List, [], ◌∷◌, ◌++◌, Contains, map, filter, if◌then◌else◌}
use Rattle.std.specs.List.{list_all, AllByRecursion}
use Rattle.jm_model.specs.Words.{Word}
use Rattle.jm_model.specs.Meanings.{Meaning}
use Rattle.jm_model.specs.Bindings.{is_below, is_compatible, join}
use Rattle.jm_model.specs.declared.binding.Binding.{Binding}
use Rattle.jm_semantics.specs.Traces.{ParametricEvent, slice_of}
use Rattle.jm_semantics.specs.Instances.{IsInstance}

-- an instance and its slice
pub record Sliced : Type 0 where
  pub binding : Binding
  pub word : Word

-- some of them is the instance
abbrev pub HasInstance : List Sliced → Binding → Type 0
HasInstance instances t = (i : Sliced) × Contains instances i × (i.binding ≡ t)

-- the slice of each has letters of the meaning alone
abbrev pub HaveLetters : Meaning → List Sliced → Type 0
HaveLetters m instances = (i : Sliced) → Contains instances i → AllByRecursion (λ e. e < m.letters) i.word

-- they are exactly the instances of the trace, each with its slice
pub record AreInstancesOf (m : Meaning) (trace : List ParametricEvent) (instances : List Sliced) : Type 0 where
  pub exact : (t : Binding) → HasInstance instances t ↔ IsInstance trace t
  pub slices : (i : Sliced) → Contains instances i → i.word ≡ slice_of trace i.binding
  pub letters : HaveLetters m instances

-- ---- what an event makes of them
-- whether each of the seen bindings that lies below the one lies below the other
abbrev pub covers : List Binding → Binding → Binding → Bool
covers seen above below = list_all (λ b. not (is_below b above) || is_below b below) seen

-- whether the join of the instance s and the binding b of an event is a new instance, which has the slice of s
abbrev pub makes_new : List Binding → Binding → Binding → Bool
makes_new seen b s = is_compatible s b && (not (is_below b s) && covers seen (join s b) s)

-- the join of an instance and a binding, with the slice of the instance
abbrev pub joined : Binding → Sliced → Sliced
joined b i = record { binding = join i.binding b; word = i.word }

-- the new instances, before the letter of the event is added
abbrev pub new_instances : List Binding → Binding → List Sliced → List Sliced
new_instances seen b instances = map (joined b) (filter (λ i. makes_new seen b i.binding) instances)

-- the instance with the letter of the event, if it lies above the event's binding
abbrev pub advanced : ℕ → Binding → Sliced → Sliced
advanced e b i = if is_below b i.binding then record { binding = i.binding; word = i.word ++ e ∷ [] } else i

-- the instances after the event
abbrev pub after_event : ℕ → Binding → List Binding → List Sliced → List Sliced
after_event e b seen instances = map (advanced e b) (instances ++ new_instances seen b instances)
