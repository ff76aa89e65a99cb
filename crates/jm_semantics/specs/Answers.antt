use Rattle.std.specs.Prelude.{◌≡◌, ◌↔◌, List, [], ◌∷◌, ◌++◌, Contains, bit_and, true}
use Rattle.std.specs.List.Sorted.{IsStrictlySortedBy}
use Rattle.std.specs.Ordering.{nat_cmp, ordering_then}
use Rattle.std.specs.declared.cmp.Ordering.{Ordering}
use Rattle.jm_model.specs.Bindings.{is_below, mask_of, binding_cmp}
use Rattle.jm_model.specs.Meanings.{Meaning, IsHit}
use Rattle.jm_model.specs.declared.firings.Firing.{Firing}
use Rattle.jm_semantics.specs.Traces.{ParametricEvent, slice_of}
use Rattle.jm_semantics.specs.Instances.{IsInstance}

-- the order of firings: by instance, and then by handler
abbrev pub firing_cmp : Firing → Firing → Ordering
firing_cmp f g = ordering_then (binding_cmp f.instance g.instance) (nat_cmp f.handler g.handler)

-- The pair fires at the event a, with which the trace ends: its instance lies above the event's binding,
-- binds what a reported instance has to bind, and has a slice that hits the handler.
pub record Fires (m : Meaning) (trace : List ParametricEvent) (a : ParametricEvent) (f : Firing) : Type 0 where
  pub instance : IsInstance trace f.instance
  pub above : is_below a.binding f.instance ≡ true
  pub full : bit_and m.must_bind (mask_of f.instance) ≡ m.must_bind
  pub hit : IsHit m (slice_of trace f.instance) f.handler

-- the answer to the event a after the trace: the strictly increasing list of exactly the pairs that fire
pub record IsAnswer (m : Meaning) (trace : List ParametricEvent) (a : ParametricEvent)
    (firings : List Firing) : Type 0 where
  pub increasing : IsStrictlySortedBy firing_cmp firings
  pub exact : (f : Firing) → (Contains firings f ↔ Fires m (trace ++ a ∷ []) a f)
