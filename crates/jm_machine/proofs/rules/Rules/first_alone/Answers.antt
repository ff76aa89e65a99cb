use Rattle.std.proofs.Common.{[], ◌∷◌}
use Rattle.jm_machine.specs.declared.place.Place.TheVariants.{State}
use Rattle.jm_machine.proofs.RuleLemmas.{alone_at, one_of_empty}
use Rattle.jm_machine.proofs.rules.Rules.first_alone.Goals as goal

pub returns-in-Some : goal.returns-in-Some
returns-in-Some c =
    let i = c.self.inside in
    let one = one_of_empty i.first i.others.items i.others.len i.others.ok.0 c.if-not-is_empty.ensures in
    rw (← c.self.view_is) (
      one,
      alone_at c.self.inside.first c.self.inside.others.items c.self.inside.names c.self.invariant
          one (State c.in-Some.state) (c.args.letter.0 ∷ []) c.in-Some.ensures,
    )
