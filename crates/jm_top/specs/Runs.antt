-- What the calls that run scripts answer.
use Rattle.std.specs.Prelude.{ℕ, ◌≡◌, ◌≤◌, List, [], ◌∷◌, length, map, slice_get, Some, All}
use Rattle.jm_model.specs.declared.step.Entry.{Entry}
use Rattle.jm_semantics.specs.Legality.{IsLegal}
use Rattle.jm_semantics.specs.Scripts.{IsInterleaving}
use Rattle.jm_turn.specs.Seats.{LockModel, SeatModel, AreNewcomers}
use Rattle.jm_dispatch.specs.declared.watched.Fixed.{Fixed}
use Rattle.jm_core.specs.Cores.{Core}
use Rattle.jm_machine.specs.Meanings.{rules_meaning}
use Rattle.jm_machine.specs.RuleSets.{CompiledRules}
use Rattle.jm_sync.specs.declared.line.SyncLine.{SyncLine}
use Rattle.jm_sync.specs.Checks.{AreSound, sync_of}
use Rattle.jm_runner.specs.Orders.{IsOrdered}
use Rattle.jm_runner.specs.Runs.{projections_of}
use Rattle.jm_script.specs.Catalogs.{most_specs, most_scripts}
use Rattle.jm_script.specs.declared.script.ScriptLine.{ScriptLine}
use Rattle.jm_inputs.specs.declared.specification.SpecHeader.{SpecHeader}
use Rattle.jm_inputs.specs.declared.specification.CompiledSpec.{CompiledSpec}
use Rattle.jm_inputs.specs.declared.spec_set.SpecSet.{SpecSet}
use Rattle.jm_inputs.specs.declared.scripts.Scripts.{Scripts}
use Rattle.jm_inputs.specs.Reading.{specs_in, IsCatalogued, AreCounted}

-- scripts that can run over the specifications of a spec set: both are few and some, the scripts fit the catalog, and
-- nothing is wrong with what they ask for
pub record CanRunOver (spec_set : SpecSet) (s : Scripts) : Type 0 where
  pub specs : (1 ≤ length spec_set.specs.items) × (length spec_set.specs.items ≤ most_specs)
  pub scripts : (1 ≤ length s.list.items) × (length s.list.items ≤ most_scripts)
  pub catalogued : IsCatalogued spec_set
  pub counted : AreCounted (specs_in spec_set) s
  pub sound : AreSound (sync_of s.cuts.items)

-- a fresh dispatcher by these rules, over so many objects, with so many seats
pub record IsWatchOf (objects seats : ℕ) (rules : CompiledRules) (watch : LockModel (Fixed CompiledRules))
    (all : List (SeatModel Entry (Fixed CompiledRules))) : Type 0 where
  pub fixed : watch.fixed ≡ record { definition = rules; objects = objects }
  pub count : watch.seats ≡ seats
  pub many : length all ≡ seats
  pub newcomers : AreNewcomers watch all

-- one for each specification
abbrev pub AreWatchesOf : ℕ → ℕ → List CompiledSpec → List (LockModel (Fixed CompiledRules))
    → List (List (SeatModel Entry (Fixed CompiledRules))) → Type 0
AreWatchesOf objects seats [] [] [] = Unit {0}
AreWatchesOf objects seats (l ∷ ls) (watch ∷ watches) (all ∷ alls) =
    IsWatchOf objects seats l.rules watch all × AreWatchesOf objects seats ls watches alls
AreWatchesOf objects seats _ _ _ = ⊥

-- the headers of these specifications, and the core of each, with its rules, whose history is legal and an interleaving
-- of the scripts' projections, in the order that these ask for
pub record AreRunsOf (specs : List CompiledSpec) (scripts : List (List ScriptLine)) (asked : List (List SyncLine))
    (headers : List SpecHeader) (props : List (Core CompiledRules)) : Type 0 where
  pub titled : headers ≡ map (λ l. l.header) specs
  pub ruled : map (λ p. p.definition) props ≡ map (λ l. l.rules) specs
  pub legal : (k : ℕ) (l : CompiledSpec) (p : Core CompiledRules)
      → slice_get specs k ≡ Some l → slice_get props k ≡ Some p → IsLegal (rules_meaning l.rules.definition) p.entries
  pub woven : (k : ℕ) (l : CompiledSpec) (p : Core CompiledRules)
      → slice_get specs k ≡ Some l → slice_get props k ≡ Some p → IsInterleaving p.entries (projections_of scripts k)
  pub ordered : All (λ p. IsOrdered p.entries asked) props
