use Rattle.jm_machine.specs.declared.place.Place.TheVariants.{State}
use Rattle.jm_machine.proofs.RuleLemmas.{alone_quiet, alone_ends}
use Rattle.jm_machine.proofs.rules.RulesMonitor.ending.Goals as goal

pub returns-in-State-clause-quiet : goal.returns-in-State-clause-quiet
returns-in-State-clause-quiet c =
    rw (← c.self.view_is, c.in-State.is)
    (λ w h. alone_quiet c.self.inside.first c.self.inside.others.items c.self.inside.names c.self.invariant
    h.0 (State c.in-State.state) c.ending_of_state.result c.ending_of_state.ensures.quiet w h.1)

pub returns-in-State-clause-cut : goal.returns-in-State-clause-cut
returns-in-State-clause-cut c =
    rw (← c.self.view_is, c.in-State.is)
    (λ w h. alone_ends c.self.inside.first c.self.inside.others.items c.self.inside.names c.self.invariant
    h.0 (State c.in-State.state) c.ending_of_state.result c.ending_of_state.ensures.cut w h.1)
