use Rattle.std.proofs.Common.{◌≡◌, ◌<◌, length, get_or, ◌∙◌, arith}
use Rattle.std.proofs.Math.ListN.{length-set}
use Rattle.std.proofs.lemmas.Grind.{get_or_default_zero}
use Rattle.jm_marks.proofs.FlagLemmas.{AreFlags-set, known_set, known_same}
use Rattle.jm_marks.proofs.watch.renew.Goals as goal
use Rattle.jm_marks.proofs.watch.renew.Goals.{then-changed-gt0, else-changed-gt0}

pub loop-index-preserved : goal.loop-index-preserved
loop-index-preserved c =
    let inv = c.loop-index.invariant in
    let there : c.loop-index.index < length c.loop-index.words.items = omega arith in
    let was : c.index.result.now ≡ get_or c.loop-index.words.items c.loop-index.index 0 = c.index.ensures ∙ get_or_default_zero _ _ _ there in
    elim c.if-changed-gt0.branch [
      | then-changed-gt0 w ↦
          let set = w.set_flags.ensures in
          rw (w.flags-is, w.words-is, w.index_mut.ensures.writes_back)
          record {
            flags = AreFlags-set _ _ _ _ _ _ inv.flags there was set.size set.bits set.all set.before set.behind;
            size = set.size ∙ inv.size;
            count = length-set _ _ _ ∙ inv.count;
            known = known_set _ _ _ _ inv.known there c.word_of-word.ensures;
          }
      | else-changed-gt0 w ↦
          rw (w.flags-is, w.words-is)
          record {
            flags = inv.flags;
            size = inv.size;
            count = inv.count;
            known = known_same _ _ _ _ _ inv.known was w.if-changed-gt0.false c.word_of-word.ensures;
          }
    ]
