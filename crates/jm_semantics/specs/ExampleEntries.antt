use Rattle.std.specs.Prelude.{ℕ, ◌≡◌, Bool, true, false, List, [], ◌∷◌, Option, None, replicate}
use Rattle.jm_model.specs.Meanings.{Meaning}
use Rattle.jm_model.specs.declared.binding.Binding.{Binding}
use Rattle.jm_model.specs.declared.firings.Firing.{Firing}
use Rattle.jm_model.specs.declared.step.Step.{Step}
use Rattle.jm_model.specs.declared.step.Step.TheVariants.{Event, Death, Pass}
use Rattle.jm_model.specs.declared.step.Outcome.TheVariants.{Fired, Refused, Done, Kept, NoMemory}
use Rattle.jm_model.specs.declared.step.Entry.{Entry}

-- the meaning of a specification without creation letters, with one handler, whose category is decided by a test
abbrev pub one_handler : ℕ → (ℕ → ℕ) → (List ℕ → Bool) → Meaning
one_handler letters params test = record {
  letters = letters;
  params = params;
  must_bind = 0;
  creation = [];
  handlers = 1;
  property_of = λ k. 0;
  Holds = λ w k. test w ≡ true;
  coarse_cut = λ j. false;
}

-- a binding of the first three parameters
abbrev pub binding : Option ℕ → Option ℕ → Option ℕ → Binding
binding x y z = x ∷ y ∷ z ∷ replicate 5 None

-- the step of an event
abbrev pub event_of : ℕ → Binding → Step
event_of e b = Event (record { 0 = e }) b

-- entries of caller 0, at a line: an event and its answer, a death, a pass and its number, a step that was refused,
-- one that ran out of memory
abbrev pub event : ℕ → ℕ → Binding → List Firing → Entry
event line e b firings = record { caller = 0; line = line; step = event_of e b; outcome = Fired firings }

abbrev pub death : ℕ → ℕ → Entry
death line o = record { caller = 0; line = line; step = Death o; outcome = Done }

abbrev pub pass : ℕ → ℕ → Entry
pass line kept = record { caller = 0; line = line; step = Pass; outcome = Kept kept }

abbrev pub refused : ℕ → Step → ℕ → Entry
refused line step o = record { caller = 0; line = line; step = step; outcome = Refused o }

abbrev pub out_of_memory : ℕ → Step → Entry
out_of_memory line step = record { caller = 0; line = line; step = step; outcome = NoMemory }

-- handler 0 runs for this instance
abbrev pub fires : Binding → Firing
fires t = record { instance = t; handler = 0 }
