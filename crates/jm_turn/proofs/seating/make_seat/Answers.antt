use Rattle.std.proofs.Common.{arith, ◌∙◌, ap}
use Rattle.jm_turn.proofs.SeatSteps.{makes_seat_at, hears_news_at}
use Rattle.jm_turn.proofs.seating.make_seat.Goals as goal

pub split_seat-place-requires : goal.split_seat-place-requires
split_seat-place-requires g c = let s = c.requires.shape in let k = c.requires.maker in (k.0, omega arith, makes_seat_at _ _ _ _ _ _ _ _ _ k.1 c.requires.one)

pub join_seat-requires : goal.join_seat-requires
join_seat-requires g c =
    let s = c.requires.shape in let k = c.requires.maker in let p = c.split_seat-place.ensures in let n = c.take_number-seat.ensures in
    (p.0 ∙ k.0, n.news.0, ap (λ m. m.1) n.news.1, omega arith, hears_news_at _ _ _ _ _ _ _ _ _ _ _ _ _ k.1 p.2 n.news.1)
