use Rattle.std.proofs.Common.{◌≡◌}
use Rattle.jm_index.proofs.FlagLemmas.{AreKnown}
use Rattle.jm_index.proofs.flags.Flags.has_dead_of_block.Given as goal

abbrev pub invariant-loop-index : goal.invariant-loop-index
invariant-loop-index l = l.news ≡ 0 → AreKnown l.dead l.known l.first l.index
