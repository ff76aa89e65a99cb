use Rattle.std.proofs.Common.{◌/◌, ◌<◌, List, subst, ◌∙◌, inl, inr}
use Rattle.std.specs.Prelude.{Contains}
use Rattle.jm_index.specs.Index.{Pair}
use Rattle.jm_index.proofs.IndexLemmas.{none_more, none_fewer}
use Rattle.jm_index.proofs.index.Index.drop_dead.Goals.{then-not-has_dropped_block, else-not-has_dropped_block}
use Rattle.jm_index.proofs.index.Index.drop_dead.Goals as goal

pub loop-block-preserved : goal.loop-block-preserved
loop-block-preserved c =
    let inv = c.loop-block.invariant in
    elim c.if-not-has_dropped_block.branch [
      | then-not-has_dropped_block w ↦
          let at = w.drop_dead_in.ensures in
          rw w.self-is
          (record {
            list = at.list ∙ inv.list;
            gone = none_more (λ o. o / 4096) c.loop-block.block c.args.objects.now w.drop_dead_in.new.self
                (none_fewer (λ o. o / 4096 < c.loop-block.block) c.args.objects.now c.loop-block.self w.drop_dead_in.new.self at.fewer inv.gone) at.gone;
            keyed = at.keyed;
            dead = λ o is. elim (at.only o is) [ inl was ↦ inv.dead o was | inr dies ↦ dies ];
          })
      | else-not-has_dropped_block w ↦
          rw w.self-is
          (record {
            list = inv.list;
            gone = none_more (λ o. o / 4096) c.loop-block.block c.args.objects.now c.loop-block.self inv.gone (c.has_dropped_block.ensures.keys w.if-not-has_dropped_block.false);
            keyed = inv.keyed;
            dead = inv.dead;
          })
    ]

pub returns-clause-fits : goal.returns-clause-fits
returns-clause-fits c =
    record {
      within = λ pair there. c.requires.within pair (subst (λ (v : List Pair). Contains v pair) c.loop-block.invariant.list there);
      reached = λ o gone. c.loop-block.invariant.dead o gone;
      keyed = c.loop-block.invariant.keyed;
    }
