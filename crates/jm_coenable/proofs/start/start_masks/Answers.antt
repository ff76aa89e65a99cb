use Rattle.std.proofs.Common.{ℕ, ◌≡◌, ◌↔◌, Contains, subst, arith}
use Rattle.jm_coenable.specs.Needs.{IsFirst}
use Rattle.jm_coenable.specs.Searches.{IsStart, IsStep}
use Rattle.jm_coenable.proofs.StartLemmas.{start_more}
use Rattle.jm_coenable.proofs.start.start_masks.Goals as goal

pub loop-letter-preserved : goal.loop-letter-preserved
loop-letter-preserved c =
    let t = c.args.table.now in let g = c.args.goal.now in let v = c.args.events.now in
    start_more (λ (l : ℕ). IsFirst g l) (λ (l m : ℕ). IsStep t g v c.args.needed.now l m) c.loop-letter.start c.add_first.new.start c.loop-letter.letter c.loop-letter.invariant
    c.add_first.ensures

pub loop-letter-init : goal.loop-letter-init
loop-letter-init c = λ mask. (λ there. absurd (c.new-start.ensures mask there), λ none. absurd (omega (arith, none.1)))

pub returns : goal.returns
returns c =
    let t = c.args.table.now in let g = c.args.goal.now in let v = c.args.events.now in
    let whole : c.loop-letter.letter ≡ t.letters = omega (arith, c.letters-letter-end.ensures.value) in
    subst (λ (n : ℕ). (mask : ℕ) → Contains c.loop-letter.start mask ↔ IsStart t g v c.args.needed.now n mask) whole c.loop-letter.invariant
