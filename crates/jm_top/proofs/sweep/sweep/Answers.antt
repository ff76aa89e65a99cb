use Rattle.jm_top.proofs.SweepLemmas.{can_replay}
use Rattle.jm_top.proofs.sweep.sweep.Goals as goal

pub pieces_of-requires-clause-replayable : goal.pieces_of-requires-clause-replayable
pieces_of-requires-clause-replayable g c = λ κs within. rw c.as_slice.ensures.value (can_replay c.args.spec_set.now c.args.bytes.now c.requires.spec_set c.requires.small c.in_ok-spans.spans.items c.in_ok-spans.ensures.within)

pub put_together-requires-clause-replayable : goal.put_together-requires-clause-replayable
put_together-requires-clause-replayable g c = rw c.as_slice-2.ensures.value (can_replay c.args.spec_set.now c.args.bytes.now c.requires.spec_set c.requires.small c.in_ok-spans.spans.items c.in_ok-spans.ensures.within)
