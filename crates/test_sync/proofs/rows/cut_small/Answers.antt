use Rattle.std.proofs.Common.{arith}
use Rattle.jm_sync.proofs.CutLemmas.{length-names_after}
use Rattle.test_sync.proofs.rows.cut_small.Goals as goal

pub cut-requires-clause-bounded : goal.cut-requires-clause-bounded
cut-requires-clause-bounded c = omega (arith, length-names_after c.args.names.now c.args.bytes.now)
