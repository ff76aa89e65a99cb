use Rattle.std.proofs.Common.{sym, ap, ◌∙◌, option_map, eq-eqb}
use Rattle.jm_events.specs.Names.{number_of}
use Rattle.jm_events.specs.Events.{event_names}
use Rattle.jm_script.specs.Catalogs.{spec_names}
use Rattle.jm_script.proofs.EventLemmas.{unknown_spec, unknown_event, wrong_count, has_event, event_found, differs}
use Rattle.jm_script.proofs.event.named_event.Goals as goal

pub returns-in_default-clause-value : goal.returns-in_default-clause-value
returns-in_default-clause-value c =
    unknown_spec c.args.catalog.now c.args.line c.args.spec.now c.args.event.now c.args.count
    (ap (number_of (spec_names c.args.catalog.now)) (sym c.text.ensures) ∙ sym c.find.ensures.value ∙ c.in_default.is)

pub returns-in_default-letter-clause-value : goal.returns-in_default-letter-clause-value
returns-in_default-letter-clause-value c =
    let found = ap (number_of (spec_names c.args.catalog.now)) (sym c.text.ensures) ∙ sym c.in-Some.ensures.value in
    unknown_event c.args.catalog.now c.args.line c.args.spec.now c.args.event.now c.args.count c.in-Some.spec c.table-table.result.now found c.table-table.ensures
    (ap (number_of (event_names c.table-table.result.now)) (sym c.text-2.ensures) ∙ sym c.letter.ensures.value ∙ ap (option_map (λ l. l.0)) c.in_default-letter.is)

pub returns-then-mask-count-clause-value : goal.returns-then-mask-count-clause-value
returns-then-mask-count-clause-value c =
    let found = ap (number_of (spec_names c.args.catalog.now)) (sym c.text.ensures) ∙ sym c.in-Some.ensures.value in
    let known = ap (number_of (event_names c.table-table.result.now)) (sym c.text-2.ensures) ∙ sym c.in-Some-letter.ensures.value in
    wrong_count c.args.catalog.now c.args.line c.args.spec.now c.args.event.now c.args.count c.in-Some.spec c.table-table.result.now found c.table-table.ensures
    c.in-Some-letter.letter.0 c.mask-mask.result known c.mask-mask.ensures.value (differs _ _ c.if-mask-count.true)

pub returns-clause-value : goal.returns-clause-value
returns-clause-value c =
    let found = ap (number_of (spec_names c.args.catalog.now)) (sym c.text.ensures) ∙ sym c.in-Some.ensures.value in
    let known = ap (number_of (event_names c.table-table.result.now)) (sym c.text-2.ensures) ∙ sym c.in-Some-letter.ensures.value in
    event_found c.args.catalog.now c.args.line c.args.spec.now c.args.event.now c.args.count c.in-Some.spec c.table-table.result.now found c.table-table.ensures
    c.in-Some-letter.letter.0 c.mask-mask.result known c.mask-mask.ensures.value (eq-eqb _ _ c.if-mask-count.false)

pub returns-clause-present : goal.returns-clause-present
returns-clause-present c =
    let found = ap (number_of (spec_names c.args.catalog.now)) (sym c.text.ensures) ∙ sym c.in-Some.ensures.value in
    let known = ap (number_of (event_names c.table-table.result.now)) (sym c.text-2.ensures) ∙ sym c.in-Some-letter.ensures.value in
    has_event c.args.catalog.now c.args.line c.args.spec.now c.args.event.now c.args.count c.in-Some.spec c.table-table.result.now found c.table-table.ensures
    c.in-Some-letter.letter.0 c.mask-mask.result known c.mask-mask.ensures.value c.in-Some.ensures.within c.in-Some-letter.ensures.within
