use Rattle.std.proofs.Common.{◌≡◌, length}
use Rattle.test_sync.proofs.rows.checked.Given as goal

-- a script is cut for each so far
abbrev pub invariant-loop-bytes : goal.invariant-loop-bytes
invariant-loop-bytes l = length l.cuts.items ≡ l.bytes-index
