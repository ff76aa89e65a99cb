use Rattle.std.proofs.Common.{length, refl, arith}
use Rattle.std.proofs.lemmas.Option.{slice_get_read}
use Rattle.jm_runner.proofs.WorkLemmas.{line_below_more}
use Rattle.jm_runner.proofs.worker.do_line.Goals as goal

pub loop-spec-preserved : goal.loop-spec-preserved
loop-spec-preserved g c =
    let i = c.loop-spec.invariant in
    let watches = c.args.watches.now in
    let seats = c.loop-spec.seats.items in
    let watch = c.index-watches-spec.result in
    let old = c.index_mut.result.now in
    line_below_more c.loop-spec.spec watches c.args.line.now c.args.seats.now.items seats watch old c.do_on.new.seat i
    (slice_get_read watches (length watches) c.loop-spec.spec watch refl (omega arith) c.index-watches-spec.is)
    (slice_get_read seats (length seats) c.loop-spec.spec old refl (omega arith) c.index_mut.ensures.value)
    c.in_ok-do_on.ensures
