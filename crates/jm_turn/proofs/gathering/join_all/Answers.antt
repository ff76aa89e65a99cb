use Rattle.std.proofs.Common.{◌≡◌, ◌<◌, [], length, slice_get, arith, ◌∙◌, ap, sym, subst, ⊎_elim}
use Rattle.std.proofs.lemmas.Option.{slice_get_within}
use Rattle.jm_turn.specs.Views.{given_part, seat_view, with_joined}
use Rattle.jm_turn.specs.TableSeats.{IsRecorded, lock_over}
use Rattle.jm_turn.specs.Seats.{IsSeatOf}
use Rattle.jm_turn.proofs.Elements.{get_last, get_longer, all_from_places, place_from_all, any_from_place}
use Rattle.jm_turn.proofs.Gathered.{Gathers, gathers_first, gathers_more}
use Rattle.jm_turn.proofs.SeatSteps.{takes_in_seat_at}
use Rattle.jm_turn.proofs.gathering.join_all.Goals as goal

pub loop-seat-init : goal.loop-seat-init
loop-seat-init g c =
    let f = given_part g.V.Kept.fixed_part c.args.table.now.key in let lock = lock_over g.V.Kept.fixed_part c.args.table.now in
    let x = c.in-Some.first in let rest = c.pop.new.self.items in let items = c.in-Some.ensures.items in let e = c.into_place-all.ensures in
    let is = place_from_all (λ s. IsSeatOf lock s) c.args.seats.items (length rest) x c.requires.each (ap (λ l. slice_get l (length rest)) items ∙ get_last rest x) in
    record {
      table = e.table ∙ ap (λ l. l.table) is;
      fixed = ap (λ m. m.0.fixed) e.view ∙ ap (λ l. l.fixed) is;
      holder = ap (λ m. m.0.holder) e.view;
      each = all_from_places (λ s. IsSeatOf lock s) rest (λ k s at. place_from_all (λ s. IsSeatOf lock s) c.args.seats.items k s c.requires.each (ap (λ l. slice_get l k) items ∙ get_longer rest x s k at));
      gathered = subst (λ m. Gathers (λ s. s.number) (λ s. seat_view s.number s.seen s.lock.fixed) c.args.seats.items rest m.0) (sym e.view)
          (gathers_first (λ s. s.number) (λ s. seat_view s.number s.seen s.lock.fixed) f c.args.seats.items rest x items (ap (λ l. seat_view x.number x.seen l.fixed) is));
    }

pub join_seat-requires : goal.join_seat-requires
join_seat-requires g c =
    let s = c.requires.shape in let lock = lock_over g.V.Kept.fixed_part c.args.table.now in
    let i = c.loop-seat.invariant in
    let x = c.in-Some-pop.seat in let rest = c.pop-in-loop-seat.new.self.items in let items = c.in-Some-pop.ensures.items in let e = c.into_place.ensures in
    let is = place_from_all (λ s. IsSeatOf lock s) c.loop-seat.seats.items (length rest) x i.each (ap (λ l. slice_get l (length rest)) items ∙ get_last rest x) in
    let me = e.view ∙ (λ j. (seat_view x.number (sym (ap (λ m. m.0.seen) e.view) j) (is j).fixed, [])) in
    (i.table, e.table ∙ ap (λ l. l.table) is, ap (λ m. m.1) e.view, omega arith, takes_in_seat_at _ _ _ _ _ _ _ x.number c.loop-seat.all.me _ i.fixed me)

pub loop-seat-preserved : goal.loop-seat-preserved
loop-seat-preserved g c =
    let f = given_part g.V.Kept.fixed_part c.args.table.now.key in let lock = lock_over g.V.Kept.fixed_part c.args.table.now in
    let i = c.loop-seat.invariant in let j = c.join_seat.ensures in
    let x = c.in-Some-pop.seat in let rest = c.pop-in-loop-seat.new.self.items in let items = c.in-Some-pop.ensures.items in let e = c.into_place.ensures in
    let is = place_from_all (λ s. IsSeatOf lock s) c.loop-seat.seats.items (length rest) x i.each (ap (λ l. slice_get l (length rest)) items ∙ get_last rest x) in
    let view = ap (λ m. m.0) j.2 ∙ ap (λ m. with_joined c.loop-seat.all.me.0 m.0) e.view in
    record {
      table = j.0 ∙ i.table;
      fixed = ap (λ v. v.fixed) view ∙ i.fixed;
      holder = ap (λ v. v.holder) view ∙ i.holder;
      each = all_from_places (λ s. IsSeatOf lock s) rest (λ k s at. place_from_all (λ s. IsSeatOf lock s) c.loop-seat.seats.items k s i.each (ap (λ l. slice_get l k) items ∙ get_longer rest x s k at));
      gathered = subst (λ v. Gathers (λ s. s.number) (λ s. seat_view s.number s.seen s.lock.fixed) c.args.seats.items rest v) (sym view)
          (gathers_more (λ s. s.number) (λ s. seat_view s.number s.seen s.lock.fixed) f c.args.seats.items c.loop-seat.seats.items rest c.loop-seat.all.me.0 x i.gathered items (ap (λ l. seat_view x.number x.seen l.fixed) is));
    }

pub returns-clause-recorded : goal.returns-clause-recorded
returns-clause-recorded g c =
    let e = c.in_default-pop.ensures in let none_left = e.cases.0 in let ok = c.loop-seat.seats.ok in
    all_from_places (λ s. IsRecorded c.loop-seat.all.me.0 s.number s.seen) c.args.seats.items (λ k s at.
    ⊎_elim (λ t. let less : k < length c.loop-seat.seats.items = slice_get_within c.loop-seat.seats.items k s t in absurd (omega arith)) (λ t. t) (c.loop-seat.invariant.gathered.recorded k s at))

pub returns-clause-known : goal.returns-clause-known
returns-clause-known g c =
    λ n more. let k = c.loop-seat.invariant.gathered.known n more in any_from_place (λ s. s.number ≡ n) c.args.seats.items k.0 k.1 k.2 k.3
