use Rattle.std.proofs.Common.{length, take, sym, ap, ◌∙◌}
use Rattle.std.proofs.lemmas.Result.{err_from_is_err_and}
use Rattle.jm_script.specs.Events.{spread}
use Rattle.jm_script.specs.declared.script.Target.TheVariants as target
use Rattle.jm_script.proofs.ObjectLemmas.{texts, length-texts}
use Rattle.jm_script.proofs.FittingLemmas.{fits_event}
use Rattle.jm_script.proofs.KnownLemmas.{known_steps}
use Rattle.jm_script.proofs.MeaningLemmas.{mentions, stopped}
use Rattle.jm_script.proofs.statement.event_line.Goals as goal

pub returns-in_err-number_all-clause-read : goal.returns-in_err-number_all-clause-read
returns-in_err-number_all-clause-read c =
    let p = err_from_is_err_and c.from_residual-in_err-number_all.result c.from_residual-in_err-number_all.ensures.1 in
    rw (p.1, p.2) (stopped _ _ _ _ _
    (known_steps c.args.reader.now.catalog.now c.args.reader.now.position.count c.args.reader.now.position.line c.args.names.now c.args.word.now (texts c.args.objects.now) (length c.args.objects.now) c.in_ok-event.event (sym (length-texts c.args.objects.now)) c.in_ok-event.ensures.finds.event c.in_ok-event.ensures.finds.named c.in_ok-event.ensures.finds.room)
    (c.in_err-number_all.ensures.err (λ numbers. target.Event c.in_ok-event.event.spec c.in_ok-event.event.letter (spread 8 c.in_ok-event.event.mask numbers))))

pub returns-clause-fits : goal.returns-clause-fits
returns-clause-fits c =
    fits_event c.args.reader.now.catalog.now c.args.names.now c.number_all.new.names (texts c.args.objects.now) (length c.args.objects.now) c.number_all.new.numbers c.in_ok-event.event
    c.in_ok-event.ensures.finds.event.there c.in_ok-event.ensures.finds.event.counted (sym (length-texts c.args.objects.now)) c.in_ok-number_all.ensures.numbers c.in_ok-number_all.ensures.ok c.in_ok-event.ensures.finds.event.few.1

pub returns-clause-read : goal.returns-clause-read
returns-clause-read c =
    let event = c.in_ok-event.event in
    let counted = c.in_ok-event.ensures.finds.event.counted in
    mentions _ c.args.reader.now.position.line c.args.names.now (texts c.args.objects.now) _ (λ numbers. target.Event event.spec event.letter (spread 8 event.mask numbers)) _
    (known_steps c.args.reader.now.catalog.now c.args.reader.now.position.count c.args.reader.now.position.line c.args.names.now c.args.word.now (texts c.args.objects.now) (length c.args.objects.now) event (sym (length-texts c.args.objects.now)) c.in_ok-event.ensures.finds.event c.in_ok-event.ensures.finds.named c.in_ok-event.ensures.finds.room)
    c.in_ok-number_all.ensures.room
    c.in_ok-number_all.ensures.ok
    (ap (λ numbers. target.Event event.spec event.letter (spread 8 event.mask numbers)) (ap (λ n. take n c.number_all.new.numbers) (sym counted) ∙ c.in_ok-number_all.ensures.numbers))
