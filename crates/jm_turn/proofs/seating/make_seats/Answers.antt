use Rattle.std.proofs.Common.{◌≡◌, ◌+◌, ◌-◌, [], ap, ◌∙◌, arith}
use Rattle.jm_turn.specs.Views.{given_part, maker}
use Rattle.jm_turn.specs.Seats.{newcomer}
use Rattle.jm_turn.specs.TableSeats.{lock_over}
use Rattle.jm_turn.proofs.Newcomers.{newcomers_more}
use Rattle.jm_turn.proofs.seating.make_seats.Goals as goal

pub loop-made-preserved : goal.loop-made-preserved
loop-made-preserved g c =
    let f = given_part g.V.Kept.fixed_part c.args.table.now.key in let lock = lock_over g.V.Kept.fixed_part c.args.table.now in
    let i = c.loop-made.invariant in let m = c.make_seat.ensures in let p = c.push_reserved.ensures in
    let unnumbered : c.loop-made.first.me.0.unnumbered ≡ c.args.seats - c.loop-made.made = ap (λ m. m.0.unnumbered) i.maker.1 in
    let next : c.loop-made.first.me.0.next_number ≡ c.loop-made.made = ap (λ m. m.0.next_number) i.maker.1 in
    let count = i.count in let len = p.len in let room = i.room in let capacity = p.capacity in let all = c.loop-made.all.ok in
    let fewer : c.loop-made.first.me.0.unnumbered - 1 ≡ c.args.seats - (c.loop-made.made + 1) = omega arith in
    record {
      maker = (m.maker.0, m.maker.1 ∙ (λ j. (maker (fewer j) (next j + 1) f, [])));
      count = omega arith;
      room = omega arith;
      newcomers = rw p.items (newcomers_more lock c.loop-made.all.items c.make_seat.result c.loop-made.made (omega arith) i.newcomers (m.seat ∙ ap (newcomer lock) next));
    }

pub returns-clause-len : goal.returns-clause-len
returns-clause-len g c = let count = c.loop-made.invariant.count in let len = c.push_reserved-2.ensures.len in omega arith

pub returns-clause-seats : goal.returns-clause-seats
returns-clause-seats g c =
    let lock = lock_over g.V.Kept.fixed_part c.args.table.now in
    let i = c.loop-made.invariant in let m = c.take_number-seat.ensures in let p = c.push_reserved-2.ensures in
    let next : c.loop-made.first.me.0.next_number ≡ c.loop-made.made = ap (λ m. m.0.next_number) i.maker.1 in
    let count = i.count in let all = c.loop-made.all.ok in
    rw p.items (newcomers_more lock c.loop-made.all.items c.take_number-seat.result.0 c.loop-made.made (omega arith) i.newcomers (m.seat ∙ ap (newcomer lock) next))
