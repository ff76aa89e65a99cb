use Rattle.std.proofs.Common.{◌≤◌, ◌∙◌, length, sym, arith}
use Rattle.std.proofs.lemmas.Bool.{false≢true}
use Rattle.jm_machine.specs.Formulas.{is_grammar}
use Rattle.jm_machine.proofs.JoinLemmas.{letter_in, plain_in, plain_some, join_first, join_more, join_all, join_plain}
use Rattle.jm_machine.proofs.rules.Rules.family.Goals as goal

pub property-requires : goal.property-requires
property-requires c = c.properties-count.ensures.rules.some

pub family-requires : goal.family-requires
family-requires c = letter_in c.args.self.now c.properties-count.ensures.rules 0 c.property.result.now c.property.ensures c.args.letter.0 c.requires

pub family-requires-in-loop-number : goal.family-requires-in-loop-number
family-requires-in-loop-number c =
    letter_in c.args.self.now c.properties-count.ensures.rules c.loop-number.number c.property-in-loop-number.result.now c.property-in-loop-number.ensures c.args.letter.0 c.requires

pub returns-in_default-clause-family : goal.returns-in_default-clause-family
returns-in_default-clause-family c = λ none.
    rw c.in_default.is at (c.in_ok-all.ensures.family (plain_in c.args.self.now c.properties-count.ensures.rules none 0 c.property.result.now c.property.ensures))

pub loop-number-init : goal.loop-number-init
loop-number-init c =
    let own = c.property.result.now in
    let plain = plain_some (is_grammar own.definition.formula) c.in_ok-all.field-0 c.in-Some.all c.in_ok-all.ensures.none c.in-Some.is in
    join_first c.args.self.now c.args.letter.0 own c.in-Some.all.items c.property.ensures plain (rw c.in-Some.is at (c.in_ok-all.ensures.family plain)) (rw c.in-Some.is at c.in_ok-all.ensures.bounded)

pub returns-in_default-2-clause-family : goal.returns-in_default-2-clause-family
returns-in_default-2-clause-family c = λ none.
    rw c.in_default-2.is at
    (c.in_ok-masks.ensures.family (plain_in c.args.self.now c.properties-count.ensures.rules none c.loop-number.number c.property-in-loop-number.result.now c.property-in-loop-number.ensures))

pub loop-number-preserved : goal.loop-number-preserved
loop-number-preserved c =
    let own = c.property-in-loop-number.result.now in
    let plain = plain_some (is_grammar own.definition.formula) c.in_ok-masks.field-0 c.in-Some-2.masks c.in_ok-masks.ensures.none c.in-Some-2.is in
    join_more c.args.self.now c.args.letter.0 c.loop-number.number own c.property-in-loop-number.ensures c.loop-number.all.items c.in-Some-2.masks.items c.in_ok-all-2.all.items c.loop-number.invariant plain
    (rw c.in-Some-2.is at (c.in_ok-masks.ensures.family plain)) (rw c.in-Some-2.is at c.in_ok-masks.ensures.bounded) c.in_ok-all-2.ensures.rising c.in_ok-all-2.ensures.bounded
    (rw (c.as_slice.ensures.value, c.as_slice-in-loop-number.ensures.value) at c.in_ok-all-2.ensures.exact)

pub returns-clause-family : goal.returns-clause-family
returns-clause-family c =
    let all : length c.args.self.now.parts ≤ c.loop-number.number = omega (arith, c.loop-number-test.false, c.properties-count.ensures.parts) in
    λ none. join_all c.args.self.now c.properties-count.ensures.rules c.args.letter.0 c.loop-number.number c.loop-number.all.items all c.loop-number.invariant

pub returns-clause-none : goal.returns-clause-none
returns-clause-none c =
    let all : length c.args.self.now.parts ≤ c.loop-number.number = omega (arith, c.loop-number-test.false, c.properties-count.ensures.parts) in
    λ some. absurd (false≢true (sym (join_plain c.args.self.now c.properties-count.ensures.rules c.args.letter.0 c.loop-number.number c.loop-number.all.items all c.loop-number.invariant) ∙ some))
