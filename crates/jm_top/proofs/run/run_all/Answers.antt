use Rattle.std.proofs.Common.{◌≡◌, length, ap, arith}
use Rattle.std.specs.Prelude.{vec_len}
use Rattle.jm_sync.specs.Checks.{sync_of}
use Rattle.jm_inputs.specs.Reading.{specs_in}
use Rattle.std.proofs.Crossing.{crosses}
use denote.Param.Send.{sendable}
use Rattle.jm_machine.proofs.CrossingLemmas.{rules_cross}
use Rattle.jm_top.proofs.RunLemmas.{watches_many, runs_from, ready_at, names_within}
use Rattle.jm_top.proofs.run.run_all.Goals as goal

pub run_queues-requires-clause-watches : goal.run_queues-requires-clause-watches
run_queues-requires-clause-watches g c =
    let many = watches_many (λ r. r.watch) (λ r. r.seats.items) c.len.result c.len-seats.result c.args.spec_set.specs.items c.in_ok-made.made.watches.items c.in_ok-made.ensures.watches in
    let same : vec_len c.in_ok-made.made.watches ≡ length c.in_ok-made.made.watches.items = omega (arith, c.in_ok-made.made.watches.ok.0) in
    λ words bounds. (omega (arith, many, same, c.requires.ready.specs.0), omega (arith, many, same, c.requires.ready.specs.1))

pub run_queues-requires-clause-ready : goal.run_queues-requires-clause-ready
run_queues-requires-clause-ready g c = λ words bounds s r at.
    let seats : c.len-seats.result ≡ length c.args.scripts.list.items = omega (arith, c.len-seats.ensures, c.args.scripts.list.ok.0) in
    rw c.in_ok-queues.ensures (ready_at (λ r. r.watch) (λ r. r.seats.items) c.len.result c.len-seats.result c.args.spec_set c.args.scripts c.requires.ready.catalogued c.requires.ready.counted c.len.ensures.value seats c.in_ok-made.made.watches.items c.in_ok-made.ensures.watches s r at)

pub run_queues-requires-clause-cuts : goal.run_queues-requires-clause-cuts
run_queues-requires-clause-cuts g c = λ words bounds.
    rw c.as_slice.ensures.value record {
      count = omega (arith, c.requires.ready.counted.cut, ap length c.in_ok-queues.ensures, c.in_ok-queues.queues.ok.0);
      rising = c.requires.ready.counted.rising;
      names = names_within (specs_in c.args.spec_set) c.args.scripts c.requires.ready.counted c.requires.ready.scripts.1;
      sound = c.requires.ready.sound;
    }

pub returns-clause-ran : goal.returns-clause-ran
returns-clause-ran g c =
    let many : length c.in_ok-props.props.items ≡ length c.in_ok-made.made.watches.items = omega (arith, c.in_ok-props.ensures.count, c.in_ok-props.props.ok.0, c.in_ok-made.made.watches.ok.0) in
    runs_from (λ r. r.watch) (λ r. r.seats.items) c.len.result c.len-seats.result c.args.spec_set.specs.items c.args.scripts.list.items (sync_of c.args.scripts.cuts.items) c.in_ok-made.made.headers.items c.in_ok-props.props.items c.in_ok-made.made.watches.items c.in_ok-made.ensures.headers many c.in_ok-made.ensures.watches
    (rw c.in_ok-queues.ensures at c.in_ok-props.ensures.runs) (rw c.as_slice.ensures.value at c.in_ok-props.ensures.ordered)

pub run_queues-requires-send-M : goal.run_queues-requires-send-M
run_queues-requires-send-M g c κs within = search (rules_cross, crosses, sendable) depth 100 fits 20000
