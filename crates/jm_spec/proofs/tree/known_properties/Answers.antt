use Rattle.std.proofs.Common.{◌≡◌, None, [], ◌∷◌, subst, ◌∙◌, arith, length-append}
use Rattle.jm_model.specs.declared.fault.SpecFault.TheVariants.{UnsupportedLogic}
use Rattle.jm_spec.specs.declared.property.Property.{Property}
use Rattle.jm_spec.specs.Faults.{unless_known, logic_of}
use Rattle.jm_spec.specs.Trees.{TellsProperty, facts_of}
use Rattle.jm_spec.proofs.PropertyLemmas.{tells_more, later}
use Rattle.jm_spec.proofs.tree.known_properties.Goals as goal

pub loop-property-preserved : goal.loop-property-preserved
loop-property-preserved c =
    let bytes = c.args.bytes.now in
    let ps = c.args.properties.now in
    let i = c.loop-property.property-index in
    let d = c.property-item.result in
    let tree = c.in_ok-known_property.field-0 in
    let told = subst (λ (p : Property). TellsProperty bytes p (facts_of tree)) c.property-item.is c.in_ok-known_property.ensures.ok in
    let known = subst (λ (p : Property). unless_known (logic_of bytes p.logic) (UnsupportedLogic p.logic.line) ≡ None) c.property-item.is c.in_ok-known_property.ensures.checked in
    record {
      count = rw c.in_ok-push.ensures.items (omega (arith, length-append c.loop-property.trees.items (tree ∷ []), c.loop-property.invariant.count));
      told = rw c.in_ok-push.ensures.items (tells_more bytes ps i d c.loop-property-test.true c.loop-property.trees.items tree c.loop-property.invariant.told told);
      later = later bytes ps i d c.loop-property-test.true known ∙ c.loop-property.invariant.later;
    }
