use Rattle.jm_table.proofs.WordLemmas.{word_more}
use Rattle.jm_table.proofs.table.Table.state_after.Goals as goal

pub loop-letter-preserved : goal.loop-letter-preserved
loop-letter-preserved c = record {
  here = word_more c.args.self.now c.args.word.now c.loop-letter.letter-index _ c.loop-letter.state c.next-state.result c.loop-letter-test.true c.loop-letter.invariant.here c.next-state.ensures.value;
  within = c.next-state.ensures.within;
}
