use borrow.Author.Count.{below_more}
use Rattle.std.proofs.Common.{ℕ, ◌<◌, ◌+◌, List, arith}
use Rattle.jm_coenable.specs.Rounds.{AreNeeded, IsClosedAt, IsClosedState}
use Rattle.jm_coenable.proofs.SetLemmas.{part_map, part_then}
use Rattle.jm_coenable.proofs.needed.leave.Goals as goal

pub loop-letter-preserved : goal.loop-letter-preserved
loop-letter-preserved c =
    let t = c.args.table.now in let g = c.args.goal.now in let v = c.args.events.now in
    part_then (AreNeeded t g v) (λ (sets : List (List ℕ)). (letter : ℕ) → letter < c.loop-letter.letter → IsClosedAt t g v c.args.state letter sets)
    (IsClosedAt t g v c.args.state c.loop-letter.letter) (λ (sets : List (List ℕ)). (letter : ℕ) → letter < c.loop-letter.letter + 1 → IsClosedAt t g v c.args.state letter sets)
    c.args.needed.now.items c.loop-letter.needed.items c.follow-more.new.needed.items c.loop-letter.changed c.follow-more.result c.loop-letter.invariant c.follow-more.ensures
    (λ before here. below_more (λ (letter : ℕ). IsClosedAt t g v c.args.state letter c.follow-more.new.needed.items) c.loop-letter.letter before here)

pub returns : goal.returns
returns c =
    let t = c.args.table.now in let g = c.args.goal.now in let v = c.args.events.now in
    part_map (AreNeeded t g v) (λ (sets : List (List ℕ)). (letter : ℕ) → letter < c.loop-letter.letter → IsClosedAt t g v c.args.state letter sets) (IsClosedState t g v c.args.state)
    c.args.needed.now.items c.loop-letter.needed.items c.loop-letter.changed c.loop-letter.invariant (λ closed letter lt. closed letter (omega arith))
