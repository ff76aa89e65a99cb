use Rattle.std.proofs.Common.{◌≤◌, length, refl, arith, sym, ◌∙◌}
use Rattle.std.proofs.lemmas.Bool.{false≢true}
use Rattle.jm_machine.proofs.RuleLemmas.{cuts_more, all_cut, never_cut}
use Rattle.jm_machine.proofs.rules.Rules.is_each_cut.Goals as goal

pub loop-number-preserved : goal.loop-number-preserved
loop-number-preserved c =
    let says = rw c.place_at.ensures at c.cut.ensures in
    cuts_more c.args.self.now c.properties-number-end.ensures.rules c.args.places.now c.args.otherwise.now c.args.dead c.loop-number.number c.property.result.now c.property.ensures
    (λ w h. (says w h).0 c.if-not-cut.false) c.loop-number.invariant

pub returns-then-not-cut : goal.returns-then-not-cut
returns-then-not-cut c =
    let says = rw c.place_at.ensures at c.cut.ensures in
    let never = never_cut c.args.self.now c.properties-number-end.ensures.rules c.args.places.now c.args.otherwise.now c.args.dead c.loop-number.number c.property.result.now c.property.ensures
    (λ w h cut. false≢true (sym c.if-not-cut.true ∙ (says w h).1 cut)) in
    λ w after. (λ no. absurd (false≢true no), λ cut. absurd (never w after cut))

pub returns : goal.returns
returns c =
    let all : length c.args.self.now.parts ≤ c.loop-number.number = omega (arith, c.loop-number-test.false, c.properties-number-end.ensures.parts) in
    let cut = all_cut c.args.self.now c.properties-number-end.ensures.rules c.args.places.now c.args.otherwise.now c.args.dead c.loop-number.number all c.loop-number.invariant in
    λ w after. (λ yes_it. cut w after, λ is. refl)
