use Rattle.std.proofs.Common.{rules, ◌∙◌, length, ap, arith}
use Rattle.jm_events.specs.declared.chains.Link.{Link}
use Rattle.jm_events.proofs.ChainLemmas.{entered}
use Rattle.jm_events.proofs.chains.enter_all.Goals as goal

pub loop-number-preserved : goal.loop-number-preserved
loop-number-preserved c =
    let size = c.loop-number.invariant.heads in
    let step = entered c.loop-number.links.items c.set_link.new.links.items c.loop-number.heads.items c.enter-before.new.heads.items (length c.args.heads.now.items) c.loop-number.number c.index.result.now.hash c.index.result.now c.enter-before.result (omega arith) (ap (λ (link : Link). link.hash) c.index.ensures) size (rw size at c.enter-before.ensures.within) (rw size at c.enter-before.ensures.before) c.set_link.ensures.links (rw size at c.enter-before.ensures.heads) c.loop-number.invariant.lasts c.loop-number.invariant.befores in
    record {
      same = step.same ∙ c.loop-number.invariant.same;
      lasts = step.lasts;
      befores = step.befores;
      links = search rules;
      heads = search rules;
      room = search rules;
    }
