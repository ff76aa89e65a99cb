use Rattle.std.proofs.Common.{refl, arith}
use Rattle.std.proofs.lemmas.Option.{slice_get_read}
use Rattle.jm_script.proofs.CompactLemmas.{in_full, in_last}
use Rattle.jm_script.proofs.compact.block_at.Goals as goal

pub returns-then-block-full-clause-line : goal.returns-then-block-full-clause-line
returns-then-block-full-clause-line c = (in_full c.args.full.now c.args.last.now c.requires.full c.requires.last c.args.place c.requires.in_range c.index-full-block.result (slice_get_read _ _ _ _ refl c.if-block-full.true c.index-full-block.is)).1

pub returns-else-block-full-clause-in_range : goal.returns-else-block-full-clause-in_range
returns-else-block-full-clause-in_range c = (in_last c.args.full.now c.args.last.now c.requires.full c.requires.last c.args.place c.requires.in_range (omega (arith, c.if-block-full.false))).0

pub returns-else-block-full-clause-line : goal.returns-else-block-full-clause-line
returns-else-block-full-clause-line c = (in_last c.args.full.now c.args.last.now c.requires.full c.requires.last c.args.place c.requires.in_range (omega (arith, c.if-block-full.false))).1
