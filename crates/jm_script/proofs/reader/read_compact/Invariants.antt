use Rattle.std.proofs.Common.{◌≡◌, ◌+◌, ◌≤◌, length}
use Rattle.jm_script.specs.Known.{AreSound}
use Rattle.jm_lines.specs.Lines.{lines_left, bytes_left}
use Rattle.jm_script.specs.Meanings.{script_meaning}
use Rattle.jm_script.specs.Fitting.{FitsCatalog}
use Rattle.jm_script.proofs.ReadingLemmas.{HasRead}
use Rattle.jm_script.proofs.reader.read_compact.Given as goal

abbrev pub invariant-loop-rest : goal.invariant-loop-rest
invariant-loop-rest l = record {
  counted : l.count ≡ l.fn.count;
  few : l.line + bytes_left l.rest ≤ length l.bytes + 1;
  known : AreSound l.catalog l.scratch.known.slots;
  fitting : FitsCatalog l.catalog (length l.objects) l.script;
  read : HasRead l.catalog (script_meaning l.catalog l.fn.count l.bytes l.fn.objects) l.fn.count l.fn.objects l.script l.objects l.line (lines_left l.rest);
}

abbrev pub decreases-loop-rest : goal.decreases-loop-rest
decreases-loop-rest l = bytes_left l.rest
