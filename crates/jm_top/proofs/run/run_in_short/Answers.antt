use Rattle.std.proofs.Common.{◌∙◌}
use Rattle.jm_top.proofs.HistoryLemmas.{made_text}
use Rattle.jm_top.proofs.RunLemmas.{runs_many, runs_titled, runs_summaries}
use Rattle.jm_top.proofs.run.run_in_short.Goals as goal

pub summaries_text-requires : goal.summaries_text-requires
summaries_text-requires g c =
    let headers = c.in_ok-runs.runs.headers.items in
    let props = c.in_ok-runs.runs.props.items in
    rw (c.as_slice.ensures.value, c.in_ok-runs.ensures.catalog)
    (runs_titled c.args.spec_set c.args.scripts headers props c.requires.ready.catalogued c.in_ok-runs.ensures.ran ∙ runs_many c.args.spec_set c.args.scripts headers props c.in_ok-runs.ensures.ran)

pub returns : goal.returns
returns g c =
    made_text (λ text. text.items) _ _ c.summaries_text.result
    (runs_summaries c.args.spec_set c.args.scripts c.requires.ready.catalogued c.requires.ready.counted c.in_ok-runs.runs.headers.items c.in_ok-runs.runs.props.items c.in_ok-runs.ensures.ran)
    (rw (c.as_slice.ensures.value, c.in_ok-runs.ensures.catalog) at c.summaries_text.ensures)
