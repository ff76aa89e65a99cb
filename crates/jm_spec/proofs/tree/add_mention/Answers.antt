use Rattle.std.proofs.lemmas.Result.{err_from_is_err_and}
use Rattle.jm_model.specs.declared.step.Letter.{Letter}
use Rattle.jm_events.specs.Events.{EventDefinition, event_fault, with_event}
use Rattle.jm_spec.proofs.MakeLemmas.{makes_none, makes_more}
use Rattle.jm_spec.proofs.tree.add_mention.Goals as goal

pub returns-in_err-add_event : goal.returns-in_err-add_event
returns-in_err-add_event c =
    let p = err_from_is_err_and c.from_residual.result c.from_residual.ensures.1 in
    let t = c.args.table.now in
    let e : EventDefinition = record { name = c.args.name.now; mask = c.args.mask; creation = c.args.creation; line = c.args.line } in
    rw (p.1, p.2) (makes_none Letter (Unit {0}) (event_fault t e) (with_event t e) c.add_event.new.self c.in_err-add_event.field-0.0 c.in_err-add_event.ensures.refused c.in_err-add_event.ensures.accepted)

pub returns : goal.returns
returns c =
    let t = c.args.table.now in
    let e : EventDefinition = record { name = c.args.name.now; mask = c.args.mask; creation = c.args.creation; line = c.args.line } in
    makes_more {X = Letter} (event_fault t e) (with_event t e) c.add_event.new.self c.in_ok-add_event.field-0 c.in_ok-add_event.ensures.refused c.in_ok-add_event.ensures.ok
