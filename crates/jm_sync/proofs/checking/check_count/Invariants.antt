use Rattle.std.proofs.Common.{◌≡◌, ◌+◌, length, take}
use Rattle.jm_sync.specs.Checks.{all_lines, sync_of}
use Rattle.jm_sync.proofs.checking.check_count.Given as goal

abbrev pub invariant-loop-k : goal.invariant-loop-k
invariant-loop-k l = l.room + length (all_lines (take l.k (sync_of l.scripts))) ≡ 65536
