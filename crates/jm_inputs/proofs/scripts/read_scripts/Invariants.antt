use Rattle.std.proofs.Common.{take}
use Rattle.std.specs.Prelude.{map, string_bytes}
use Rattle.jm_inputs.specs.Commands.{named}
use Rattle.jm_inputs.specs.Sources.{AreOnlyRead}
use Rattle.jm_inputs.specs.Reading.{specs_in, AreScriptsRead}
use Rattle.jm_inputs.proofs.scripts.read_scripts.Given as goal

abbrev pub invariant-loop-name : goal.invariant-loop-name
invariant-loop-name g l = record {
  read : AreScriptsRead (g.F.Folder.holds l.initial.files) l.setting.ordered (specs_in l.spec_set) l.setting.steps (named (map string_bytes (take l.name-index l.names))) l.scripts;
  files : AreOnlyRead (g.F.Folder.holds l.initial.files) (g.F.Folder.holds l.files) (g.F.Folder.faults l.initial.files) (g.F.Folder.faults l.files);
}
