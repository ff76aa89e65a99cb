use Rattle.std.proofs.Common.{ℕ, ap, ◌∙◌, arith}
use Rattle.jm_coenable.specs.Needs.{step_of}
use Rattle.jm_coenable.proofs.FillLemmas.{read_is}
use Rattle.jm_coenable.proofs.StartLemmas.{step_is}
use Rattle.jm_coenable.proofs.start.add_step.Goals as goal

pub returns : goal.returns
returns c =
    let t = c.args.table.now in
    let next = c.step-next.result in
    let leads = c.step-next.ensures.value ∙ ap (λ (s : ℕ). step_of t c.args.goal.now s c.args.letter.0) c.start-first.ensures.value in
    let at = read_is c.args.needed.now c.index-needed-next.result next c.index-needed-next.is (omega (arith, c.step-next.ensures.within, c.requires.count)) in
    step_is t c.args.goal.now c.args.events.now c.args.needed.now c.args.letter.0 next c.mask-params.result c.index-needed-next.result c.args.start.now c.insert_if.new.self
    c.insert_joined.new.self c.is_handled-hit.result leads c.mask-params.ensures.value at c.is_handled-hit.ensures c.insert_if.ensures c.insert_joined.ensures
