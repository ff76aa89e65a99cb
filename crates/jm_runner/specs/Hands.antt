-- The seats of one caller, and the seats of one watch.
use Rattle.std.specs.Prelude.{◌≡◌, ◌≤◌, ℕ, List, [], All, Any, Some, length, slice_get}
use mathlib.Core.List.{IsPrefix}
use Rattle.jm_model.specs.Meanings.{Meaning}
use Rattle.jm_model.specs.declared.step.Entry.{Entry}
use Rattle.jm_semantics.specs.Legality.{IsLegal}
use Rattle.jm_core.specs.Cores.{Core, FitsHistory}
use Rattle.jm_turn.specs.Lists.{entries_by}
use Rattle.jm_turn.specs.Seats.{LockModel, SeatModel, IsSeatOf, own_entries}
use Rattle.jm_script.specs.Catalogs.{most_specs}
use Rattle.jm_script.specs.declared.script.ScriptLine.{ScriptLine}
use Rattle.jm_dispatch.specs.declared.watched.Fixed.{Fixed}
use Rattle.jm_dispatch.specs.Steps.{caller_of}
use Rattle.jm_sync.specs.declared.line.SyncLine.{SyncLine}
use Rattle.jm_runner.specs.Notes.{KnowPosts}
use Rattle.jm_runner.specs.Work.{FitsWatches, HaveDone}

-- the lines of each script fit the watches
abbrev pub FitAll : {D : Type 0} → (D → Meaning) → List (LockModel (Fixed D)) → List (List ScriptLine) → Type 0
FitAll meaning watches scripts = All (λ script. All (λ line. FitsWatches meaning watches line) script) scripts

-- These are the seats of a caller, who has done nothing, and the lines of its script. They fit the watches.
pub record CanWork {D : Type 0} (meaning : D
    → Meaning) (watches : List (LockModel (Fixed D))) (scripts : List (List ScriptLine))
    (seats : List (SeatModel Entry (Fixed D))) (lines : List ScriptLine) : Type 0 where
  pub some : 1 ≤ length watches
  pub few : length watches ≤ most_specs
  pub fits : All (λ line. FitsWatches meaning watches line) lines
  pub caller : ℕ
  pub script : slice_get scripts caller ≡ Some lines
  pub idle : HaveDone caller [] watches seats

-- A caller has done its script, and its seats know of each of its waits what a script has above the post.
pub record HasDoneAll {F : Type 0} (watches : List (LockModel F)) (scripts : List (List ScriptLine))
    (cuts : List (List SyncLine)) (k : ℕ) (script : List ScriptLine) (seats : List (SeatModel Entry F)) : Type 0 where
  pub done : HaveDone k script watches seats
  pub know : (lines : List SyncLine) → slice_get cuts k ≡ Some lines → KnowPosts scripts cuts lines seats

-- the caller whose seats these are has done its script
abbrev pub HasWorked : {F : Type 0} → List (LockModel F) → List (List ScriptLine) → List (List SyncLine)
    → List (SeatModel Entry F) → List (SeatModel Entry F) → Type 0
HasWorked watches scripts cuts before after = (k : ℕ) (script : List ScriptLine) → HaveDone k [] watches before
    → slice_get scripts k ≡ Some script → HasDoneAll watches scripts cuts k script after

-- as many seats of the watch as it has
pub record AreSeatsOfOne {F : Type 0} (watch : LockModel F) (seats : List (SeatModel Entry F)) : Type 0 where
  pub count : length seats ≡ watch.seats
  pub each : All (λ s. IsSeatOf watch s) seats

-- the core of a watch that was closed with these seats
pub record IsClosed {D : Type 0} (m : Meaning) (watch : LockModel (Fixed D)) (seats : List (SeatModel Entry (Fixed D)))
    (prop : Core D) : Type 0 where
  pub definition : prop.definition ≡ watch.fixed.definition
  pub objects : prop.objects ≡ watch.fixed.objects
  pub legal : IsLegal m prop.entries
  pub fits : FitsHistory m prop.entries prop.stored prop.marks
  pub seen : All (λ s. IsPrefix s.seen prop.entries) seats
  pub own : All (λ s. entries_by caller_of s.number prop.entries ≡ own_entries caller_of s) seats
  pub others : All (λ x. Any (λ s. s.number ≡ x.caller) seats) prop.entries
