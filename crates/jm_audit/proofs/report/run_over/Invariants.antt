use Rattle.std.proofs.Common.{take}
use Rattle.jm_audit.proofs.report.run_over.Given as goal

abbrev pub invariant-loop-letter : goal.invariant-loop-letter
invariant-loop-letter g l = g.M.Monitor.StandsFor l.rules l.state (take l.letter-index l.word)
