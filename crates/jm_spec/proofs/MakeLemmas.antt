-- What a call makes of a table, by the call that adds to it, and what steps refuse one after the other.
use Rattle.std.proofs.Common.{◌≡◌, Ok, Err, sym, ap}
use Rattle.std.specs.Prelude.{Option, Some, None, Result, IfSome, IfNone}
use Rattle.jm_model.specs.declared.fault.SpecError.{SpecError}
use Rattle.jm_model.specs.declared.fault.SpecError.TheVariants.{Bad, NoMemory}
use Rattle.jm_model.specs.declared.fault.SpecFault.{SpecFault}
use Rattle.jm_events.specs.Events.{EventDefinitions}
use Rattle.jm_reading.specs.Faults.{or_else, Refuses, Makes}
use Rattle.jm_spec.specs.Faults.{unless}

-- it refuses with the fault, or where memory is short
pub makes_none : (X Y : Type 0) (fault : Option SpecFault) (made new : EventDefinitions) (e : SpecError) → IfSome fault (λ f. ◌≡◌ {A = Result X SpecError} (Err e) (Err (Bad f))) → IfNone fault (e ≡ NoMemory)
    → Makes {X = Y} (Err e) new (unless fault made)
makes_none X Y fault made new NoMemory refused accepted = tt
makes_none X Y (Some f) made new (Bad g) refused accepted = cc
makes_none X Y None made new (Bad g) refused accepted = cc

-- it adds where there is no fault
pub makes_more : {X : Type 0} (fault : Option SpecFault) (made new : EventDefinitions) (x : X) → IfSome fault (λ f. ◌≡◌ {A = Result X SpecError} (Ok x) (Err (Bad f))) → new ≡ made → unless fault made ≡ Ok new
makes_more (Some f) made new x refused is = cc
makes_more None made new x refused is = ap (λ t. Ok t) (sym is)

-- a step refuses, and so do all
pub refuses_first : (fault next : Option SpecFault) (e : SpecError) → Refuses fault e → Refuses (or_else fault next) e
refuses_first fault next NoMemory h = tt
refuses_first fault next (Bad f) h = ap (λ o. or_else o next) h
