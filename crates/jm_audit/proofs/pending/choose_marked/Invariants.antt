use Rattle.std.proofs.Common.{take}
use Rattle.std.specs.Prelude.{All}
use Rattle.jm_audit.proofs.ChoiceLemmas.{IsUnmarked}
use Rattle.jm_audit.proofs.pending.choose_marked.Given as goal

abbrev pub invariant-loop-place : goal.invariant-loop-place
invariant-loop-place l = All (IsUnmarked l.rest) (take l.place l.pending)
