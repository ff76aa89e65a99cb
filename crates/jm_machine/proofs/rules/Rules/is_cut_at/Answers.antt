use Rattle.jm_machine.proofs.RuleLemmas.{alone_cut, one_of_empty}
use Rattle.jm_machine.proofs.rules.Rules.is_cut_at.Goals as goal

pub returns-then-is_empty : goal.returns-then-is_empty
returns-then-is_empty c =
    rw (← c.self.view_is)
    (alone_cut c.self.inside.first c.self.inside.others.items c.self.inside.names c.self.invariant (one_of_empty c.self.inside.first c.self.inside.others.items c.self.inside.others.len c.self.inside.others.ok.0 c.if-is_empty.ensures) c.args.place.now c.args.dead c.cut.result c.cut.ensures)
