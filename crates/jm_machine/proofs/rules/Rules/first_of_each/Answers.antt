use Rattle.std.proofs.Common.{[], ◌∷◌}
use Rattle.jm_machine.specs.declared.place.Place.TheVariants.{Start}
use Rattle.jm_machine.specs.RuleSets.{rules_with}
use Rattle.jm_machine.proofs.RuleLemmas.{configured, alone_follows, one_of_empty}
use Rattle.jm_machine.proofs.rules.Rules.first_of_each.Goals as goal

pub returns-then-is_empty : goal.returns-then-is_empty
returns-then-is_empty c =
    let first = c.self.inside.first in
    let others = c.self.inside.others.items in
    let one = one_of_empty first others c.self.inside.others.len c.self.inside.others.ok.0 c.if-is_empty.ensures in
    let made = rw (← c.self.view_is) at c.configuration_at.ensures.single in
    rw (← c.self.view_is)
    (configured (record { definition = rules_with first others; parts = first ∷ others }) c.configuration_at.result Start c.in_ok-place.place (c.args.letter.0 ∷ []) (made one)
    (alone_follows c.self.inside.first c.self.inside.others.items c.self.inside.names c.self.invariant one Start c.in_ok-place.place c.args.letter.0 c.in_ok-place.ensures))
