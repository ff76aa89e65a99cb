use Rattle.std.proofs.Common.{ℕ, ◌≡◌, subst, ◌∙◌, arith}
use Rattle.jm_coenable.specs.Rounds.{AreArrivals, IsPart, IsSpreadBelow}
use Rattle.jm_coenable.proofs.ArrivalLemmas.{arrive_begins, arrive_more}
use Rattle.jm_coenable.proofs.arrivals.arrive.Goals as goal

pub loop-last-init : goal.loop-last-init
loop-last-init c =
    arrive_begins c.args.table.now c.args.goal.now c.args.state c.args.letter.0 c.step-next.result c.requires.letter c.step-next.ensures.value
    c.args.arrivals.now.items c.put-changed.new.sets.items c.begins-first.result c.put-changed.result c.begins-first.ensures c.put-changed.ensures

pub loop-last-preserved : goal.loop-last-preserved
loop-last-preserved c =
    arrive_more c.args.table.now c.args.goal.now c.args.state c.args.letter.0 c.step-next.result c.requires.letter c.step-next.ensures.value
    c.args.arrivals.now.items c.loop-last.arrivals.items c.put-more.new.sets.items c.index.result.now c.loop-last.last c.contains-wanted.result
    c.loop-last.changed c.put-more.result c.requires.state (c.loop-last.invariant.count ∙ c.requires.count) c.index.ensures c.contains-wanted.ensures.member
    c.loop-last.invariant c.put-more.ensures

pub returns : goal.returns
returns c =
    let t = c.args.table.now in let g = c.args.goal.now in
    let whole : c.loop-last.last ≡ t.letters = omega (arith, c.letters-letters.ensures.value) in
    subst (λ (n : ℕ). IsPart (AreArrivals t g) (IsSpreadBelow t g c.args.state c.args.letter.0 n) c.args.arrivals.now.items c.loop-last.arrivals.items c.loop-last.changed) whole
    c.loop-last.invariant
