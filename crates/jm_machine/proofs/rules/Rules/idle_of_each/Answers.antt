use Rattle.std.proofs.Common.{◌≤◌, length, arith}
use Rattle.jm_machine.proofs.RuleLemmas.{rests_more, all_rest, all_quiet}
use Rattle.jm_machine.proofs.rules.Rules.idle_of_each.Goals as goal

pub loop-number-preserved : goal.loop-number-preserved
loop-number-preserved c =
    rests_more c.args.self.now c.properties-number-end.ensures.rules c.args.places.now c.args.otherwise.now c.loop-number.number c.loop-number.idle c.idle-idle.result c.property.result.now c.property.ensures
    (rw c.place_at.ensures at c.idle-idle.ensures.stays) (rw c.place_at.ensures at c.idle-idle.ensures.quiet) c.loop-number.invariant

pub returns-clause-stays : goal.returns-clause-stays
returns-clause-stays c =
    let all : length c.args.self.now.parts ≤ c.loop-number.number = omega (arith, c.loop-number-test.false, c.properties-number-end.ensures.parts) in
    all_rest c.args.self.now c.properties-number-end.ensures.rules c.args.places.now c.args.otherwise.now c.loop-number.number c.loop-number.idle all c.loop-number.invariant

pub returns-clause-quiet : goal.returns-clause-quiet
returns-clause-quiet c =
    let all : length c.args.self.now.parts ≤ c.loop-number.number = omega (arith, c.loop-number-test.false, c.properties-number-end.ensures.parts) in
    all_quiet c.args.self.now c.properties-number-end.ensures.rules c.args.places.now c.args.otherwise.now c.loop-number.number c.loop-number.idle all c.loop-number.invariant
