-- What the seats of one caller have done.
use Rattle.std.specs.Prelude.{◌≡◌, ◌≢◌, ◌<◌, ◌≤◌, ℕ, List, [], ◌∷◌, ◌++◌, All, true, length, map, Option, Some, slice_get}
use Rattle.jm_model.specs.Meanings.{Meaning}
use Rattle.jm_model.specs.declared.step.Step.{Step}
use Rattle.jm_model.specs.declared.step.Outcome.TheVariants.{NoMemory}
use Rattle.jm_model.specs.declared.step.Entry.{Entry}
use Rattle.jm_semantics.specs.Scripts.{is_for, projection_of}
use Rattle.jm_core.specs.Replays.{line_and_step}
use Rattle.jm_core.specs.Steps.{IsFitStep}
use Rattle.jm_turn.specs.Seats.{LockModel, SeatModel, IsSeatOf, own_entries}
use Rattle.jm_script.specs.declared.script.ScriptLine.{ScriptLine}
use Rattle.jm_script.specs.Blocks.{StandsAbove}
use Rattle.jm_script.specs.Projections.{script_of, spec_of, step_of}
use Rattle.jm_dispatch.specs.declared.watched.Fixed.{Fixed}
use Rattle.jm_dispatch.specs.Steps.{caller_of}
use Rattle.jm_runner.specs.Orders.{KeepsOrder, KeepOrder}

module _ {F : Type 0} where
  -- Seat k of the watch, whose own entries are these steps, in order. None ran out of memory.
  pub record HasDone (k : ℕ) (steps : List (ℕ × Step)) (watch : LockModel F) (seat : SeatModel Entry F) : Type 0 where
    pub lock : IsSeatOf watch seat
    pub number : seat.number ≡ k
    pub entries : map line_and_step (own_entries caller_of seat) ≡ steps
    pub done : All (λ x. x.outcome ≢ NoMemory) (own_entries caller_of seat)

  -- the seat has done one step more, and knows still what it knew of order
  pub record DoesStep (watch : LockModel F) (line : ℕ) (step : Step) (before after : SeatModel Entry F) : Type 0 where
    pub done : (k : ℕ) (steps : List (ℕ × Step)) → HasDone k steps watch before
        → HasDone k (steps ++ (line, step) ∷ []) watch after
    pub keeps : KeepsOrder before after

  -- the seat has done what one line more has for specification s, and knows still what it knew of order
  pub record DoesLine (watch : LockModel F) (s : ℕ) (line : ScriptLine)
      (before after : SeatModel Entry F) : Type 0 where
    pub done : (k : ℕ) (script : List ScriptLine) → HasDone k (projection_of (script_of script) s) watch before
        → HasDone k (projection_of (script_of (script ++ line ∷ [])) s) watch after
    pub keeps : KeepsOrder before after

  -- Caller k has one seat of each watch, in order, and has done this script on them.
  pub record HaveDone (k : ℕ) (script : List ScriptLine) (watches : List (LockModel F))
      (seats : List (SeatModel Entry F)) : Type 0 where
    pub count : length seats ≡ length watches
    pub each : (s : ℕ) (watch : LockModel F) (seat : SeatModel Entry F) → slice_get watches s ≡ Some watch
        → slice_get seats s ≡ Some seat
        → HasDone k (projection_of (script_of script) s) watch seat

  -- one seat of each watch, in order
  pub record AreSeatsOf (watches : List (LockModel F)) (seats : List (SeatModel Entry F)) : Type 0 where
    pub count : length seats ≡ length watches
    pub each : (s : ℕ) (watch : LockModel F) (seat : SeatModel Entry F) → slice_get watches s ≡ Some watch
        → slice_get seats s ≡ Some seat → IsSeatOf watch seat

  -- the caller has one seat of each watch, and has done some script on them
  abbrev pub HaveWorked : ℕ → List (LockModel F) → List (SeatModel Entry F) → Type 0
  HaveWorked k watches seats = (script : List ScriptLine) × HaveDone k script watches seats

  -- Lines that stand above this one were taken from the front of a queue, and the seats have done them in order. They
  -- know still what they knew of order.
  pub record DoLines (watches : List (LockModel F)) (above : Option ℕ) (queue left : List ScriptLine)
      (before after : List (SeatModel Entry F)) : Type 0 where
    pub lines : List ScriptLine
    pub taken : queue ≡ lines ++ left
    pub stand : All (λ line. StandsAbove above line) lines
    pub done : (k : ℕ) (script : List ScriptLine) → HaveDone k script watches before
        → HaveDone k (script ++ lines) watches after
    pub keep : KeepOrder before after

  -- Each seat below place n has done what one line more has for its specification, and the others are as before.
  pub record DoesLineBelow (n : ℕ) (watches : List (LockModel F)) (line : ScriptLine)
      (before after : List (SeatModel Entry F)) : Type 0 where
    pub count : length after ≡ length before
    pub below : (s : ℕ) (watch : LockModel F) (old new : SeatModel Entry F) → s < n
        → slice_get watches s ≡ Some watch → slice_get before s ≡ Some old → slice_get after s ≡ Some new
        → DoesLine watch s line old new
    pub others : (s : ℕ) → n ≤ s → slice_get after s ≡ slice_get before s

module _ {D : Type 0} (meaning : D → Meaning) where
  -- the line's step fits the watch, where it is for it
  abbrev pub FitsWatch : LockModel (Fixed D) → ℕ → ScriptLine → Type 0
  FitsWatch watch s line = is_for s (spec_of line.target) ≡ true
      → IsFitStep (meaning watch.fixed.definition) watch.fixed.objects (step_of line.target)

  -- the line fits the watches that it is for
  abbrev pub FitsWatches : List (LockModel (Fixed D)) → ScriptLine → Type 0
  FitsWatches watches line =
      (s : ℕ) (watch : LockModel (Fixed D)) → slice_get watches s ≡ Some watch → FitsWatch watch s line
