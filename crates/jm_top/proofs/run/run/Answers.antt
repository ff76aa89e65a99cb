use Rattle.std.proofs.Common.{sym, ◌∙◌}
use Rattle.jm_top.proofs.HistoryLemmas.{made_text}
use Rattle.jm_top.proofs.TextLemmas.{same_length}
use Rattle.jm_top.proofs.RunLemmas.{runs_many, runs_titled, runs_printable, runs_text}
use Rattle.jm_top.proofs.run.run.Goals as goal

pub histories_text-requires-clause-titled : goal.histories_text-requires-clause-titled
histories_text-requires-clause-titled g c =
    rw (c.as_slice.ensures.value, c.in_ok-runs.ensures.catalog) (runs_titled c.args.spec_set c.args.scripts c.in_ok-runs.runs.headers.items c.in_ok-runs.runs.props.items c.requires.ready.catalogued c.in_ok-runs.ensures.ran)

pub histories_text-requires-clause-many : goal.histories_text-requires-clause-many
histories_text-requires-clause-many g c =
    rw (c.as_slice.ensures.value, c.as_slice-2.ensures.value)
    (runs_many c.args.spec_set c.args.scripts c.in_ok-runs.runs.headers.items c.in_ok-runs.runs.props.items c.in_ok-runs.ensures.ran
    ∙ sym (same_length (λ e. e.rules) (λ p. p.definition) _ _ c.in_ok-ended.ensures.rules))

pub histories_text-requires-clause-printable : goal.histories_text-requires-clause-printable
histories_text-requires-clause-printable g c =
    rw (c.as_slice.ensures.value, c.as_slice-2.ensures.value, c.in_ok-runs.ensures.catalog, c.in_ok-ended.ensures.rules, c.in_ok-ended.ensures.histories, c.in_ok-runs.ensures.objects)
    (runs_printable c.args.spec_set c.args.scripts c.requires.ready.catalogued c.requires.ready.counted c.in_ok-runs.runs.headers.items c.in_ok-runs.runs.props.items c.in_ok-runs.ensures.ran)

pub returns : goal.returns
returns g c =
    made_text (λ text. text.items) _ _ c.histories_text.result
    (runs_text c.args.spec_set c.args.scripts c.requires.ready.catalogued c.requires.ready.counted c.in_ok-runs.runs.headers.items c.in_ok-runs.runs.props.items c.in_ok-runs.ensures.ran)
    (rw (c.as_slice.ensures.value, c.as_slice-2.ensures.value, c.in_ok-runs.ensures.catalog, c.in_ok-ended.ensures.rules, c.in_ok-ended.ensures.histories, c.in_ok-runs.ensures.objects) at c.histories_text.ensures)
