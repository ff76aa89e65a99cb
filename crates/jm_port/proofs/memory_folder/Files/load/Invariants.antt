use Rattle.std.proofs.Common.{◌≡◌, drop}
use Rattle.jm_port.specs.Files.{held_by}
use Rattle.jm_port.proofs.memory_folder.Files.load.Given as goal

abbrev pub invariant-loop-file : goal.invariant-loop-file
invariant-loop-file l = held_by (drop l.file-index l.self) l.name ≡ held_by l.self l.name
