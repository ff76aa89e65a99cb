use borrow.Author.Count.{below_more}
use Rattle.std.proofs.Common.{ℕ, ◌<◌, ◌+◌, List, arith}
use Rattle.jm_coenable.specs.Rounds.{AreArrivals, IsSpreadAt, IsSpreadState}
use Rattle.jm_coenable.proofs.SetLemmas.{part_map, part_then}
use Rattle.jm_coenable.proofs.arrivals.propagate.Goals as goal

pub loop-letter-preserved : goal.loop-letter-preserved
loop-letter-preserved c =
    let t = c.args.table.now in let g = c.args.goal.now in
    part_then (AreArrivals t g) (λ (sets : List (List ℕ)). (letter : ℕ) → letter < c.loop-letter.letter → IsSpreadAt t g c.args.state letter sets)
    (IsSpreadAt t g c.args.state c.loop-letter.letter) (λ (sets : List (List ℕ)). (letter : ℕ) → letter < c.loop-letter.letter + 1 → IsSpreadAt t g c.args.state letter sets)
    c.args.arrivals.now.items c.loop-letter.arrivals.items c.arrive-more.new.arrivals.items c.loop-letter.changed c.arrive-more.result c.loop-letter.invariant c.arrive-more.ensures
    (λ before here. below_more (λ (letter : ℕ). IsSpreadAt t g c.args.state letter c.arrive-more.new.arrivals.items) c.loop-letter.letter before here)

pub returns : goal.returns
returns c =
    let t = c.args.table.now in let g = c.args.goal.now in
    part_map (AreArrivals t g) (λ (sets : List (List ℕ)). (letter : ℕ) → letter < c.loop-letter.letter → IsSpreadAt t g c.args.state letter sets) (IsSpreadState t g c.args.state)
    c.args.arrivals.now.items c.loop-letter.arrivals.items c.loop-letter.changed c.loop-letter.invariant (λ closed letter lt. closed letter (omega arith))
