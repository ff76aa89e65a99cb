use Rattle.jm_top.proofs.SweepLemmas.{span_small}
use Rattle.jm_top.proofs.sweep.early_piece.Goals as goal

pub part_of-requires : goal.part_of-requires
part_of-requires c = c.requires.within

pub piece_of-requires-clause-spec_set : goal.piece_of-requires-clause-spec_set
piece_of-requires-clause-spec_set c = c.requires.of_one

pub piece_of-requires-clause-small : goal.piece_of-requires-clause-small
piece_of-requires-clause-small c = rw c.part_of.ensures (span_small c.args.bytes.now c.args.span c.requires.small)

pub returns : goal.returns
returns c = rw c.part_of.ensures at c.piece_of.ensures.ok
