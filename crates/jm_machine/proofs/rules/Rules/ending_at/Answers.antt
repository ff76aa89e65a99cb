use Rattle.jm_machine.proofs.RuleLemmas.{alone_quiet, alone_ends, one_of_empty}
use Rattle.jm_machine.proofs.rules.Rules.ending_at.Goals as goal

pub returns-then-is_empty-clause-quiet : goal.returns-then-is_empty-clause-quiet
returns-then-is_empty-clause-quiet c =
    rw (← c.self.view_is)
    (alone_quiet c.self.inside.first c.self.inside.others.items c.self.inside.names c.self.invariant (one_of_empty c.self.inside.first c.self.inside.others.items c.self.inside.others.len c.self.inside.others.ok.0 c.if-is_empty.ensures) c.args.place.now c.ending.result c.ending.ensures.quiet)

pub returns-then-is_empty-clause-cut : goal.returns-then-is_empty-clause-cut
returns-then-is_empty-clause-cut c =
    rw (← c.self.view_is)
    (alone_ends c.self.inside.first c.self.inside.others.items c.self.inside.names c.self.invariant (one_of_empty c.self.inside.first c.self.inside.others.items c.self.inside.others.len c.self.inside.others.ok.0 c.if-is_empty.ensures) c.args.place.now c.ending.result c.ending.ensures.cut)
