use Rattle.std.proofs.Common.{ℕ, ◌≡◌, ◌<◌, ◌↔◌, Contains, subst, arith}
use Rattle.jm_coenable.specs.Searches.{IsNeededAtArrival}
use Rattle.jm_coenable.proofs.FillLemmas.{filled_more}
use Rattle.jm_coenable.proofs.searches.family_set.Goals as goal

pub loop-number-preserved : goal.loop-number-preserved
loop-number-preserved c =
    filled_more (λ (mask : ℕ). IsNeededAtArrival c.args.arrivals.now c.args.needed.now c.args.letter.0 mask) c.loop-number.family c.insert_if.new.self c.loop-number.number
    c.is_in_family-wanted.result c.loop-number.invariant c.is_in_family-wanted.ensures c.insert_if.ensures

pub loop-number-init : goal.loop-number-init
loop-number-init c = λ mask. (λ there. absurd (c.new-family.ensures mask there), λ none. absurd (omega (arith, none.0)))

pub returns : goal.returns
returns c =
    let whole : c.loop-number.number ≡ 256 = omega arith in
    subst (λ (n : ℕ). (mask : ℕ) → Contains c.loop-number.family mask ↔ ((mask < n) × IsNeededAtArrival c.args.arrivals.now c.args.needed.now c.args.letter.0 mask)) whole c.loop-number.invariant
