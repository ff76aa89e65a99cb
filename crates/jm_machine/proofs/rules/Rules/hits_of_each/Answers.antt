use Rattle.std.proofs.Common.{◌≡◌, length, ap, ◌∙◌, arith}
use Rattle.jm_machine.proofs.RuleLemmas.{room, next_number, hits_more, hits_all}
use Rattle.jm_machine.proofs.rules.Rules.hits_of_each.Goals as goal

pub overflow_cast-count : goal.overflow_cast-count
overflow_cast-count c =
    let many = c.len-count.ensures.value ∙ ap length c.handlers.ensures in
    omega (arith, room c.args.self.now c.properties-number-end.ensures.rules c.loop-number.number c.loop-number.before c.len-count.result c.property-property.result.now c.property-property.ensures c.loop-number.invariant.before many)

pub moved-hits-requires : goal.moved-hits-requires
moved-hits-requires c =
    let many = c.len-count.ensures.value ∙ ap length c.handlers.ensures in
    room c.args.self.now c.properties-number-end.ensures.rules c.loop-number.number c.loop-number.before c.len-count.result c.property-property.result.now c.property-property.ensures c.loop-number.invariant.before many

pub overflow_add-before : goal.overflow_add-before
overflow_add-before c =
    let many = c.len-count.ensures.value ∙ ap length c.handlers.ensures in
    omega (arith, room c.args.self.now c.properties-number-end.ensures.rules c.loop-number.number c.loop-number.before c.len-count.result c.property-property.result.now c.property-property.ensures c.loop-number.invariant.before many)

pub loop-number-preserved : goal.loop-number-preserved
loop-number-preserved c =
    let r = c.args.self.now in
    let set = c.properties-number-end.ensures.rules in
    let n = c.loop-number.number in
    let own = c.property-property.result.now in
    let many = c.len-count.ensures.value ∙ ap length c.handlers.ensures in
    let hit = rw c.place_at.ensures at c.hits-here.ensures in
    record {
      before = next_number r set n c.loop-number.before c.len-count.result own c.property-property.ensures c.loop-number.invariant.before many;
      hits = λ w after.
          hits_more r set c.args.places.now c.args.otherwise.now w n c.loop-number.before c.loop-number.hits c.hits-here.result c.moved-hits.result c.len-count.result own c.property-property.ensures c.loop-number.invariant.before many
          c.moved-hits.ensures (hit w (after n own c.property-property.ensures)) (c.loop-number.invariant.hits w after);
    }

pub returns : goal.returns
returns c =
    let all : c.loop-number.number ≡ length c.args.self.now.parts = omega (arith, c.loop-number-test.false, c.loop-number.auto.number-end, c.properties-number-end.ensures.parts) in
    λ w after. hits_all c.args.self.now c.properties-number-end.ensures.rules w c.loop-number.number c.loop-number.hits all (c.loop-number.invariant.hits w after)
