use Rattle.jm_machine.specs.declared.place.Place.TheVariants.{State}
use Rattle.jm_machine.proofs.RuleLemmas.{alone_quiet, alone_stays, trap_later, trap_quiet}
use Rattle.jm_machine.proofs.rules.Rules.idle_elsewhere.Goals as goal

pub returns-in-State-clause-stays : goal.returns-in-State-clause-stays
returns-in-State-clause-stays c =
    rw (← c.self.view_is, c.in-State.is)
    (λ w h e bit. (
      h.0,
      alone_stays c.self.inside.first c.self.inside.others.items c.self.inside.names c.self.invariant
          h.0 (State c.in-State.state) c.idle_of_state.result c.idle_of_state.ensures.stays w h.1 e bit,
    ))

pub returns-in-Single-clause-stays : goal.returns-in-Single-clause-stays
returns-in-Single-clause-stays c =
    rw (← c.self.view_is, c.in-Single.is)
    (λ w h e bit. (
      h.0,
      alone_stays c.self.inside.first c.self.inside.others.items c.self.inside.names c.self.invariant
          h.0 c.in-Single.place.value c.idle.result (rw c.deref.ensures at c.idle.ensures.stays) w h.1 e bit,
    ))

pub returns-in-State-clause-quiet : goal.returns-in-State-clause-quiet
returns-in-State-clause-quiet c =
    rw (← c.self.view_is, c.in-State.is)
    (λ w h. alone_quiet c.self.inside.first c.self.inside.others.items c.self.inside.names c.self.invariant
    h.0 (State c.in-State.state) c.idle_of_state.result c.idle_of_state.ensures.quiet w h.1)

pub returns-in-Single-clause-quiet : goal.returns-in-Single-clause-quiet
returns-in-Single-clause-quiet c =
    rw (← c.self.view_is, c.in-Single.is)
    (λ w h. alone_quiet c.self.inside.first c.self.inside.others.items c.self.inside.names c.self.invariant
    h.0 c.in-Single.place.value c.idle.result (rw c.deref.ensures at c.idle.ensures.quiet) w h.1)

pub returns-in-Trap-clause-stays : goal.returns-in-Trap-clause-stays
returns-in-Trap-clause-stays c = rw c.in-Trap.is (λ w h e bit k part at. trap_later part w e (h k part at))

pub returns-in-Trap-clause-quiet : goal.returns-in-Trap-clause-quiet
returns-in-Trap-clause-quiet c =
    rw (← c.self.view_is, c.in-Trap.is)
    (λ w h e k set hit. trap_quiet c.self.inside.first c.self.inside.others.items c.self.inside.names c.self.invariant
    w h e k hit)
