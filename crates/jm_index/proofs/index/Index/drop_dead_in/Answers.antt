use Rattle.std.proofs.Common.{◌<◌, ◌/◌, ◌∙◌, inl, inr, arith}
use Rattle.std.proofs.lemmas.Bool.{cases_lt}
use Rattle.jm_index.proofs.index.Index.drop_dead_in.Goals.{then-not-has_dropped, else-not-has_dropped}
use Rattle.jm_index.proofs.index.Index.drop_dead_in.Goals as goal

pub loop-index-preserved : goal.loop-index-preserved
loop-index-preserved c =
    let inv = c.loop-index.invariant in
    elim c.if-not-has_dropped.branch [
      | then-not-has_dropped w ↦
          let at = w.drop_dead_at.ensures in
          rw w.self-is
          (record {
            list = at.list ∙ inv.list;
            gone = λ o (low, high) dead key. elim (cases_lt (o / 64) c.loop-index.index) [
              | inl below ↦ inv.gone o (low, below) dead (at.fewer o key)
              | inr past ↦ at.gone o (omega (arith, past, high)) dead key
            ];
            fewer = λ o key. inv.fewer o (at.fewer o key);
            keyed = at.keyed;
            only = λ o flag. elim (at.only o flag) [ inl was ↦ inv.only o was | inr dies ↦ inr dies ];
          })
      | else-not-has_dropped w ↦
          rw w.self-is
          (record {
            list = inv.list;
            gone = λ o (low, high) dead key. elim (cases_lt (o / 64) c.loop-index.index) [
              | inl below ↦ inv.gone o (low, below) dead key
              | inr past ↦ c.has_dropped.ensures.keys w.if-not-has_dropped.false o (omega (arith, past, high)) dead key
            ];
            fewer = inv.fewer;
            keyed = inv.keyed;
            only = inv.only;
          })
    ]
