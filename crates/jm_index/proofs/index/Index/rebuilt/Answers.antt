use Rattle.std.proofs.Common.{sym, ◌∙◌}
use Rattle.jm_index.proofs.EntryLemmas.{taken_live, taken_dead}
use Rattle.jm_index.proofs.IndexLemmas.{taken_apart}
use Rattle.jm_index.proofs.index.Index.rebuilt.Goals.{then-is_live+in_ok-append, else-is_live}
use Rattle.jm_index.proofs.index.Index.rebuilt.Goals as goal

pub append-requires : goal.append-requires
append-requires c =
    rw (c.loop-entry.invariant.list, c.binding.ensures)
    (taken_apart _ _ _ _ _ _ _ c.self.invariant c.deref-entry-items.ensures.value c.loop-entry-test.true c.entry-item.is (sym c.is_live.ensures ∙ c.if-is_live.true))

pub loop-entry-preserved : goal.loop-entry-preserved
loop-entry-preserved c =
    elim c.if-is_live.branch [
      | then-is_live+in_ok-append w ↦
          rw w.index-is
          (record {
            list = w.in_ok-append.ensures.added ∙ rw (c.loop-entry.invariant.list, w.binding.ensures, w.number.ensures) (sym (taken_live _ _ _ c.loop-entry-test.true c.entry-item.is (sym c.is_live.ensures ∙ w.if-is_live.true)));
            dropped = λ o. w.in_ok-append.ensures.dropped o ∙ c.loop-entry.invariant.dropped o;
          })
      | else-is_live w ↦
          rw w.index-is
          (record {
            list = c.loop-entry.invariant.list ∙ sym (taken_dead _ _ _ c.loop-entry-test.true c.entry-item.is (sym c.is_live.ensures ∙ w.if-is_live.false));
            dropped = c.loop-entry.invariant.dropped;
          })
    ]
