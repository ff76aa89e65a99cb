use Rattle.std.proofs.Common.{arith, ◌∙◌}
use Rattle.jm_turn.proofs.SeatSteps.{counts_at, tells_at}
use Rattle.jm_turn.proofs.seating.take_number.Goals as goal

pub fetch_add-number-requires : goal.fetch_add-number-requires
fetch_add-number-requires g c = let s = c.requires.shape in let k = c.requires.maker in (k.0, omega arith, counts_at _ _ _ _ _ _ _ _ _ _ _ (omega arith) (omega arith) k.1)

pub split_seat-news-requires : goal.split_seat-news-requires
split_seat-news-requires g c =
    let s = c.requires.shape in let k = c.requires.maker in let f = c.fetch_add-number.ensures in
    (f.0 ∙ k.0, omega arith, tells_at _ _ _ _ _ _ _ _ _ _ k.1 f.2.2)
