use Rattle.std.proofs.Common.{◌<◌, length, arith}
use Rattle.std.specs.Prelude.{IfOk}
use Rattle.std.proofs.lemmas.Result.{err_from_is_err_and}
use Rattle.jm_sweep.specs.Recordings.{span_text}
use Rattle.jm_inputs.specs.Reading.{specs_in}
use Rattle.jm_top.specs.Sweeps.{IsPieceOf}
use Rattle.jm_top.proofs.SweepLemmas.{at_place, zip_length, zip_at, turn_ok, turn_err, all_turns}
use Rattle.jm_top.proofs.SweptLemmas.{swept_none}
use Rattle.jm_top.proofs.sweep.put_together.Goals as goal

pub loop-number-init : goal.loop-number-init
loop-number-init c = rw c.new-text.ensures.items (swept_none (specs_in c.args.spec_set.now))

pub bounds-pieces-number : goal.bounds-pieces-number
bounds-pieces-number c =
    let many = zip_length (λ span piece. IfOk piece (IsPieceOf (specs_in c.args.spec_set.now) 0 (span_text c.args.bytes.now span))) c.args.spans.now c.args.pieces.now c.requires.pieces in
    omega (arith, many, c.loop-number-test.true)

pub add_part-requires-clause-spec_set : goal.add_part-requires-clause-spec_set
add_part-requires-clause-spec_set c = (c.requires.replayable c.loop-number.number c.span_at-span.result (omega (arith, c.loop-number-test.true))).of_one

pub add_part-requires-clause-piece : goal.add_part-requires-clause-piece
add_part-requires-clause-piece c =
    let here : c.loop-number.number < length c.args.spans.now = omega (arith, c.loop-number-test.true) in
    let place = at_place c.args.spans.now c.loop-number.number c.span_at-span.result c.span_at-span.ensures in
    rw c.part_of-part.ensures
    (zip_at (λ span piece. IfOk piece (IsPieceOf (specs_in c.args.spec_set.now) 0 (span_text c.args.bytes.now span))) c.args.spans.now c.args.pieces.now c.requires.pieces c.loop-number.number c.span_at-span.result c.index-pieces-number.result here place c.index-pieces-number.is)

pub returns-in_err-count-clause-err : goal.returns-in_err-count-clause-err
returns-in_err-count-clause-err c =
    let p = err_from_is_err_and c.from_residual.result c.from_residual.ensures.1 in
    let here : c.loop-number.number < length c.args.spans.now = omega (arith, c.loop-number-test.true) in
    let place = at_place c.args.spans.now c.loop-number.number c.span_at-span.result c.span_at-span.ensures in
    rw (p.1, p.2) (turn_err c.args.spec_set.now c.args.bytes.now c.args.spans.now c.requires.spans c.requires.small c.loop-number.number c.span_at-span.result here place c.loop-number.count c.loop-number.text.items c.loop-number.invariant _
    (rw c.part_of-part.ensures at c.in_err-count.ensures.err))

pub loop-number-preserved : goal.loop-number-preserved
loop-number-preserved c =
    let here : c.loop-number.number < length c.args.spans.now = omega (arith, c.loop-number-test.true) in
    let place = at_place c.args.spans.now c.loop-number.number c.span_at-span.result c.span_at-span.ensures in
    turn_ok c.args.spec_set.now c.args.bytes.now c.args.spans.now c.requires.spans c.loop-number.number c.span_at-span.result here place c.loop-number.count c.loop-number.text.items c.add_part.new.text.items _ c.loop-number.invariant
    (rw c.part_of-part.ensures at c.in_ok-count.ensures.ok)

pub returns-clause-ok : goal.returns-clause-ok
returns-clause-ok c =
    all_turns c.args.spec_set.now c.args.bytes.now c.args.spans.now c.requires.spans c.requires.small c.loop-number.number (omega (arith, c.loop-number-test.false)) c.loop-number.count c.loop-number.text.items c.loop-number.invariant
