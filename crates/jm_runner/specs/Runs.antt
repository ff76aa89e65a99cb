-- What a run needs, and what it gives.
use Rattle.std.specs.Prelude.{◌≡◌, ◌<◌, ◌-◌, ◌^◌, ℕ, List, All, length, map}
use Rattle.jm_model.specs.Meanings.{Meaning}
use Rattle.jm_model.specs.declared.step.Step.{Step}
use Rattle.jm_model.specs.declared.step.Entry.{Entry}
use Rattle.jm_semantics.specs.Legality.{IsLegal}
use Rattle.jm_semantics.specs.Scripts.{projection_of, IsInterleaving}
use Rattle.jm_core.specs.Cores.{Core, FitsHistory}
use Rattle.jm_core.specs.Steps.{IsFitStep}
use Rattle.jm_turn.specs.Seats.{LockModel, SeatModel, AreNewcomers}
use Rattle.jm_script.specs.declared.script.ScriptLine.{ScriptLine}
use Rattle.jm_script.specs.Projections.{script_of}
use Rattle.jm_sync.specs.Checks.{AreSound, sync_of}
use Rattle.jm_sync.specs.Cuts.{RisesFrom}
use Rattle.jm_sync.specs.declared.line.Cut.{Cut}
use Rattle.jm_sync.specs.declared.line.SyncLine.{SyncLine}
use Rattle.jm_dispatch.specs.declared.watched.Fixed.{Fixed}

-- the projections of scripts on specification s
abbrev pub projections_of : List (List ScriptLine) → ℕ → List (List (ℕ × Step))
projections_of scripts s = map (λ script. projection_of (script_of script) s) scripts

-- each of the steps fits the specification, with so many objects
abbrev pub AreFitSteps : Meaning → ℕ → List (ℕ × Step) → Type 0
AreFitSteps m objects steps = All (λ p. IsFitStep m objects p.1) steps

-- Cuts of n scripts, in which nothing is wrong: the lines of each rise from 1, and the numbers of names fit a board.
pub record AreCuts (n : ℕ) (cuts : List Cut) : Type 0 where
  pub count : length cuts ≡ n
  pub rising : All (λ cut. RisesFrom 1 cut.lines.items) cuts
  pub names : All (λ cut. All (λ l. l.name < 2 ^ 32 - 1) cut.lines.items) cuts
  pub sound : AreSound (sync_of cuts)

-- A naming names these scripts, what they ask for, and these watches.
pub record IsNaming {W : Type 0} (scripts : List (List ScriptLine)) (cuts : List (List SyncLine)) (watches : List W)
    (named_scripts : List (List ScriptLine)) (named_cuts : List (List SyncLine)) (named_watches : List W) : Type 0 where
  pub scripts_are : named_scripts ≡ scripts
  pub cuts_are : named_cuts ≡ cuts
  pub watches_are : named_watches ≡ watches

module _ {D : Type 0} (m : Meaning) (scripts : List (List ScriptLine)) (s : ℕ) where
  -- A watch can run the scripts as specification s: the seats are all of it, one for each script, in the order of their
  -- numbers, none has seen an entry, and the steps that the scripts have for it fit it.
  pub record CanRun (watch : LockModel (Fixed D)) (seats : List (SeatModel Entry (Fixed D))) : Type 0 where
    pub count : watch.seats ≡ length scripts
    pub all : length seats ≡ length scripts
    pub newcomers : AreNewcomers watch seats
    pub fitting : All (λ steps. AreFitSteps m watch.fixed.objects steps) (projections_of scripts s)

  -- What a run of the scripts leaves of specification s: its core, with a legal history that interleaves the scripts'
  -- projections, and that what it keeps in memory fits.
  pub record IsRunOf (fixed : Fixed D) (prop : Core D) : Type 0 where
    pub definition : prop.definition ≡ fixed.definition
    pub objects : prop.objects ≡ fixed.objects
    pub legal : IsLegal m prop.entries
    pub fits : FitsHistory m prop.entries prop.stored prop.marks
    pub interleaving : IsInterleaving prop.entries (projections_of scripts s)
