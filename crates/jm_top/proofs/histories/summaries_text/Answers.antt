use Rattle.std.proofs.Common.{◌∙◌, ◌++◌, sym, ap, arith}
use Rattle.jm_print.specs.Summaries.{summary_text}
use Rattle.jm_top.proofs.TextLemmas.{name_there, summaries_more}
use Rattle.jm_top.proofs.histories.summaries_text.Goals as goal

pub loop-spec-preserved : goal.loop-spec-preserved
loop-spec-preserved g c =
    let found = name_there c.args.catalog.now c.loop-spec.spec c.name.result.now c.name.ensures in
    c.in_ok-text.ensures ∙ (λ j. c.loop-spec.invariant j ++ (c.in_ok-line.ensures ∙ ap (λ n. summary_text n c.index-props-number.result.entries) (sym found.2)) j)
    ∙ sym (summaries_more (λ p. p.entries) c.args.catalog.now c.args.props.now c.loop-spec.spec found.0 c.index-props-number.result (omega arith) (omega (arith, c.requires)) found.1 c.index-props-number.is)
