use Rattle.std.proofs.Common.{◌-◌, length}
use Rattle.jm_text.proofs.Cutting.{TokensBefore}
use Rattle.jm_text.proofs.lexer.tokens.Given as goal

abbrev pub invariant-loop-start : goal.invariant-loop-start
invariant-loop-start l = TokensBefore l.bytes l.tokens.items l.start l.line

abbrev pub decreases-loop-start : goal.decreases-loop-start
decreases-loop-start l = length l.bytes - l.start
