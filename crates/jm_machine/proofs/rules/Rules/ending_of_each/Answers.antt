use Rattle.std.proofs.Common.{◌≤◌, length, arith}
use Rattle.jm_machine.proofs.RuleLemmas.{ends_more, all_end_quiet, all_end_cut}
use Rattle.jm_machine.proofs.rules.Rules.ending_of_each.Goals as goal

pub loop-number-preserved : goal.loop-number-preserved
loop-number-preserved c =
    ends_more c.args.self.now c.properties-number-end.ensures.rules c.args.places.now c.args.otherwise.now c.loop-number.number c.loop-number.ending c.ending-ending.result c.property.result.now c.property.ensures
    (rw c.place_at.ensures at c.ending-ending.ensures.quiet) (rw c.place_at.ensures at c.ending-ending.ensures.cut) c.loop-number.invariant

pub returns-clause-quiet : goal.returns-clause-quiet
returns-clause-quiet c =
    let all : length c.args.self.now.parts ≤ c.loop-number.number = omega (arith, c.loop-number-test.false, c.properties-number-end.ensures.parts) in
    all_end_quiet c.args.self.now c.properties-number-end.ensures.rules c.args.places.now c.args.otherwise.now c.loop-number.number c.loop-number.ending all c.loop-number.invariant

pub returns-clause-cut : goal.returns-clause-cut
returns-clause-cut c =
    let all : length c.args.self.now.parts ≤ c.loop-number.number = omega (arith, c.loop-number-test.false, c.properties-number-end.ensures.parts) in
    all_end_cut c.args.self.now c.properties-number-end.ensures.rules c.args.places.now c.args.otherwise.now c.loop-number.number c.loop-number.ending all c.loop-number.invariant
