-- What the monitor of a meeting means, which scripts fit it, and what its watches are at first.
use Rattle.std.specs.Prelude.{ℕ, ◌≡◌, ◌<◌, List, [], length, true}
use Rattle.jm_model.specs.Bindings.{mask_of}
use Rattle.jm_model.specs.Meanings.{Meaning}
use Rattle.jm_model.specs.declared.step.Step.{Step}
use Rattle.jm_model.specs.declared.step.Step.TheVariants.{Event, Death, Pass}
use Rattle.jm_model.specs.declared.step.Entry.{Entry}
use Rattle.jm_semantics.specs.Scripts.{projection_of}
use Rattle.jm_turn.specs.Seats.{LockModel, SeatModel, AreNewcomers}
use Rattle.jm_script.specs.declared.script.ScriptLine.{ScriptLine}
use Rattle.jm_script.specs.Projections.{script_of}
use Rattle.jm_dispatch.specs.declared.watched.Fixed.{Fixed}
use Rattle.jm_runner.specs.Runs.{AreFitSteps}

-- one letter, which binds the first parameter, and one handler, which every word but the empty one hits
abbrev pub meet_meaning : Meaning
meet_meaning = record {
  letters = 1;
  params = λ e. 1;
  must_bind = 0;
  creation = [];
  handlers = 1;
  property_of = λ k. 0;
  Holds = λ w k. Unit {0};
  coarse_cut = λ j. true;
}

-- an event is one of the only letter, and binds the first parameter
abbrev pub IsMeeting : Step → Type 0
IsMeeting (Event e b) = (e.0 < 1) × (length b ≡ 8) × (mask_of b ≡ 1)
IsMeeting (Death o) = Unit {0}
IsMeeting Pass = Unit {0}

-- what the script has for each of the two specifications fits the meaning, with two objects
abbrev pub FitsBoth : List ScriptLine → Type 0
FitsBoth script = (s : ℕ) → s < 2 → AreFitSteps meet_meaning 2 (projection_of (script_of script) s)

-- a watch for two callers over two objects, with all its seats
pub record IsFresh {D : Type 0} (watch : LockModel (Fixed D)) (seats : List (SeatModel Entry (Fixed D))) : Type 0 where
  pub count : watch.seats ≡ 2
  pub all : length seats ≡ 2
  pub newcomers : AreNewcomers watch seats
  pub objects : watch.fixed.objects ≡ 2
