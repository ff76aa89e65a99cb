use Rattle.jm_inputs.specs.Inputs.{asks_families}
use Rattle.std.proofs.Common.{◌≡◌, ◌≤◌, ℕ, List, take}
use Rattle.std.specs.Prelude.{map, string_bytes}
use Rattle.jm_inputs.specs.Commands.{named}
use Rattle.jm_inputs.specs.Reading.{IsSpecSetOf}
use Rattle.jm_inputs.proofs.spec_set.read_specifications.Given as goal

abbrev pub invariant-loop-name : goal.invariant-loop-name
invariant-loop-name g l = record {
  read : IsSpecSetOf (g.F.Folder.holds l.initial.files) (asks_families l.purpose) (named (map string_bytes (take l.name-index l.names))) l.spec_set;
  never_falls : g.F.Folder.faults l.initial.files ≤ g.F.Folder.faults l.files;
  same : (other : List ℕ) → g.F.Folder.holds l.files other ≡ g.F.Folder.holds l.initial.files other;
}
