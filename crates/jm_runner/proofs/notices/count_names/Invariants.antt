use Rattle.std.proofs.Common.{take}
use Rattle.jm_sync.specs.Checks.{sync_of}
use Rattle.jm_runner.specs.Notes.{HaveNamesBelow}
use Rattle.jm_runner.proofs.notices.count_names.Given as goal

abbrev pub invariant-loop-cut : goal.invariant-loop-cut
invariant-loop-cut l = HaveNamesBelow l.names (sync_of (take l.cut-index l.cuts))
