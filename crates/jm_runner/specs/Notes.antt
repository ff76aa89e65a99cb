-- What workers tell each other by notes, where scripts post names and wait for them.
use Rattle.std.specs.Prelude.{◌≡◌, ◌<◌, ◌≤◌, ℕ, List, All, Contains, Some, length, slice_get}
use mathlib.Core.List.{IsPrefix}
use Rattle.jm_model.specs.declared.step.Entry.{Entry}
use Rattle.jm_semantics.specs.Scripts.{projection_of}
use Rattle.jm_turn.specs.Seats.{LockModel, SeatModel, NoteModel, IsNoteOf, own_entries}
use Rattle.jm_script.specs.declared.script.ScriptLine.{ScriptLine}
use Rattle.jm_script.specs.Projections.{script_of}
use Rattle.jm_sync.specs.declared.line.SyncKind.{SyncKind}
use Rattle.jm_sync.specs.declared.line.SyncKind.TheVariants.{Wait}
use Rattle.jm_sync.specs.declared.line.SyncLine.{SyncLine}
use Rattle.jm_sync.specs.Checks.{ArePostedOnce}
use Rattle.jm_sync.specs.Cuts.{RisesFrom}
use Rattle.jm_dispatch.specs.Steps.{caller_of}
use Rattle.jm_runner.specs.Orders.{post_at, wait_at, HasAbove, KnowsOrder}

-- the names of all lines are below this number
abbrev pub HaveNamesBelow : ℕ → List (List SyncLine) → Type 0
HaveNamesBelow n cuts = All (λ lines. All (λ l. l.name < n) lines) cuts

module _ (scripts : List (List ScriptLine)) (cuts : List (List SyncLine)) where
  -- of specification s, the list has all that a script has above its post of the name
  abbrev pub KnowsAbove : ℕ → ℕ → List Entry → Type 0
  KnowsAbove s name list = (k p : ℕ) (script : List ScriptLine) (posts : List SyncLine)
      → slice_get scripts k ≡ Some script → slice_get cuts k ≡ Some posts → Contains posts (post_at p name)
      → HasAbove k p (projection_of (script_of script) s) list

  module _ {F : Type 0} where
    -- the seats of a caller have seen, each of its specification, all that a script has above its post of the name
    abbrev pub KnowAbove : ℕ → List (SeatModel Entry F) → Type 0
    KnowAbove name seats = (s : ℕ) (seat : SeatModel Entry F) → slice_get seats s ≡ Some seat
        → KnowsAbove s name seat.seen

    -- One note of each watch, in order. They were made at the post of the name, or later.
    pub record AreNotesUnder (watches : List (LockModel F)) (name : ℕ) (notes : List (NoteModel Entry F)) : Type 0 where
      pub count : length notes ≡ length watches
      pub each : (s : ℕ) (watch : LockModel F) (note : NoteModel Entry F) → slice_get watches s ≡ Some watch
          → slice_get notes s ≡ Some note → IsNoteOf watch note
      pub know : (s : ℕ) (note : NoteModel Entry F) → slice_get notes s ≡ Some note → KnowsAbove s name note.seen

    -- the seats of a caller know of each of these lines that waits for a name what a script has above its post
    abbrev pub KnowPosts : List SyncLine → List (SeatModel Entry F) → Type 0
    KnowPosts lines seats = (s : ℕ) (seat : SeatModel Entry F) → slice_get seats s ≡ Some seat
        → (k p q name : ℕ) (script : List ScriptLine) (posts : List SyncLine) → slice_get scripts k ≡ Some script
        → slice_get cuts k ≡ Some posts → Contains posts (post_at p name) → Contains lines (wait_at q name)
        → KnowsOrder k p (projection_of (script_of script) s) q seat

module _ {F : Type 0} where
  -- the seat has seen more, and nothing more of its own
  pub record SeesMore (before after : SeatModel Entry F) : Type 0 where
    pub lock : after.lock ≡ before.lock
    pub number : after.number ≡ before.number
    pub own : own_entries caller_of after ≡ own_entries caller_of before
    pub begins : IsPrefix before.seen after.seen

  -- the same of each seat
  pub record SeeMore (before after : List (SeatModel Entry F)) : Type 0 where
    pub count : length after ≡ length before
    pub each : (s : ℕ) (old new : SeatModel Entry F) → slice_get before s ≡ Some old → slice_get after s ≡ Some new
        → SeesMore old new

  -- the seat has seen what the note tells
  pub record Hears (note : NoteModel Entry F) (before after : SeatModel Entry F) : Type 0 where
    pub more : SeesMore before after
    pub told : IsPrefix note.seen after.seen

  -- each seat below place n has seen what its note tells, and the others are as before
  pub record HearBelow (n : ℕ) (notes : List (NoteModel Entry F))
      (before after : List (SeatModel Entry F)) : Type 0 where
    pub count : length after ≡ length before
    pub below : (s : ℕ) (note : NoteModel Entry F) (old new : SeatModel Entry F) → s < n → slice_get notes s ≡ Some note
        → slice_get before s ≡ Some old → slice_get after s ≡ Some new → Hears note old new
    pub others : (s : ℕ) → n ≤ s → slice_get after s ≡ slice_get before s

  -- a line that asks for order was passed: the seats have seen more, and after a wait all that is above the post
  pub record PassesLine (scripts : List (List ScriptLine)) (cuts : List (List SyncLine)) (kind : SyncKind) (name : ℕ)
      (before after : List (SeatModel Entry F)) : Type 0 where
    pub more : SeeMore before after
    pub told : kind ≡ Wait → KnowAbove scripts cuts name after

  -- A run is named by these scripts, by what they ask for and by these watches. In it a caller has this script, which
  -- asks for this.
  pub record TakesPart (scripts : List (List ScriptLine)) (cuts : List (List SyncLine)) (named : List (LockModel F))
      (caller : ℕ) (script : List ScriptLine) (lines : List SyncLine) (watches : List (LockModel F)) : Type 0 where
    pub script_there : slice_get scripts caller ≡ Some script
    pub lines_there : slice_get cuts caller ≡ Some lines
    pub same : named ≡ watches
    pub once : ArePostedOnce cuts
    pub rising : RisesFrom 1 lines

  -- A run is named by scripts, by what they ask for, which is this, and by these watches. The lines of each rise, no
  -- name is posted twice, and all names are below this number.
  pub record IsNamed (scripts : List (List ScriptLine)) (cuts : List (List SyncLine)) (named : List (LockModel F))
      (asked : List (List SyncLine)) (watches : List (LockModel F)) (names : ℕ) : Type 0 where
    pub cuts_are : cuts ≡ asked
    pub watches_are : named ≡ watches
    pub count : length asked ≡ length scripts
    pub once : ArePostedOnce asked
    pub rising : All (λ lines. RisesFrom 1 lines) asked
    pub below : HaveNamesBelow names asked
