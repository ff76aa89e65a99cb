use Rattle.jm_machine.specs.declared.place.Place.TheVariants.{State}
use Rattle.jm_machine.proofs.RuleLemmas.{alone_quiet, alone_stays}
use Rattle.jm_machine.proofs.rules.RulesMonitor.idle.Goals as goal

pub returns-in-State-clause-stays : goal.returns-in-State-clause-stays
returns-in-State-clause-stays c =
    rw (← c.self.view_is, c.in-State.is)
    (λ w h e bit. (
      h.0,
      alone_stays c.self.inside.first c.self.inside.others.items c.self.inside.names c.self.invariant
          h.0 (State c.in-State.state) c.idle_of_state.result c.idle_of_state.ensures.stays w h.1 e bit,
    ))

pub returns-in-State-clause-quiet : goal.returns-in-State-clause-quiet
returns-in-State-clause-quiet c =
    rw (← c.self.view_is, c.in-State.is)
    (λ w h. alone_quiet c.self.inside.first c.self.inside.others.items c.self.inside.names c.self.invariant
    h.0 (State c.in-State.state) c.idle_of_state.result c.idle_of_state.ensures.quiet w h.1)
