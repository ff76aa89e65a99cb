use Rattle.std.proofs.Common.{ℕ, ◌≡◌, ◌<◌, get_or}
use Rattle.jm_table.specs.Tables.{next_of}
use Rattle.jm_table.proofs.refinement.letter_tells.Given as goal

abbrev pub invariant-loop-letter : goal.invariant-loop-letter
invariant-loop-letter l = (a : ℕ) → a < l.letter → get_or l.classes (next_of l.table l.p a) 0 ≡ get_or l.classes (next_of l.table l.q a) 0
