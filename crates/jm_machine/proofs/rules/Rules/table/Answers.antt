use Rattle.std.proofs.Common.{◌≡◌, subst, arith}
use Rattle.std.specs.Prelude.{true, slice_get}
use Rattle.jm_machine.specs.Formulas.{is_grammar}
use Rattle.jm_machine.specs.Meanings.{PropertyDefinition}
use Rattle.jm_machine.specs.RuleSets.{IsRuleSet, property_of}
use Rattle.jm_machine.proofs.ProductLemmas.{some_is}
use Rattle.jm_machine.proofs.RuleLemmas.{made_set, count_parts, property_at}
use Rattle.jm_machine.proofs.rules.Rules.table.Goals as goal

pub property-requires : goal.property-requires
property-requires c =
    let set = subst IsRuleSet c.self.view_is (made_set c.self.inside.first c.self.inside.others.items c.self.inside.names c.self.invariant) in
    omega (arith, c.requires, count_parts c.args.self.now set)

pub returns-clause-none : goal.returns-clause-none
returns-clause-none c =
    let set = subst IsRuleSet c.self.view_is (made_set c.self.inside.first c.self.inside.others.items c.self.inside.names c.self.invariant) in
    let part = c.property.result.now in
    let at = property_at c.args.self.now set c.args.property part c.property.ensures in
    let by = some_is (λ (p : PropertyDefinition). is_grammar p.formula ≡ true) (slice_get c.args.self.now.definition.properties c.args.property) (property_of part) at in
    (λ h. by.1 (c.table.ensures.none.0 h), λ h. c.table.ensures.none.1 (by.0 h))

pub returns-clause-rules : goal.returns-clause-rules
returns-clause-rules c = subst IsRuleSet c.self.view_is (made_set c.self.inside.first c.self.inside.others.items c.self.inside.names c.self.invariant)
