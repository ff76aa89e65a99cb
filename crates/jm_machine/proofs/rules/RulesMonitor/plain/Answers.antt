use Rattle.jm_machine.proofs.RuleLemmas.{alone_plain, alone_at_rest}
use Rattle.jm_machine.proofs.rules.RulesMonitor.plain.Goals as goal

pub returns-clause-moves : goal.returns-clause-moves
returns-clause-moves c =
    rw (← c.self.view_is)
    (λ k n at some moves before after is was.
    rw (is, was) (alone_plain c.self.inside.first c.self.inside.others.items c.self.inside.names c.self.invariant
    c.args.letter.0 k n (c.plain_states.ensures.moves k n at some moves)))

pub returns-clause-rests : goal.returns-clause-rests
returns-clause-rests c =
    rw (← c.self.view_is)
    (λ k at state is.
    rw is (alone_at_rest c.self.inside.first c.self.inside.others.items c.self.inside.names c.self.invariant
    c.args.letter.0 k (c.plain_states.ensures.rests k at)))
