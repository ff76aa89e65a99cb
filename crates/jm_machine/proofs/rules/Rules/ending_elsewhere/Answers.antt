use Rattle.jm_machine.specs.declared.place.Place.TheVariants.{State}
use Rattle.jm_machine.proofs.RuleLemmas.{alone_quiet, alone_ends}
use Rattle.jm_machine.proofs.rules.Rules.ending_elsewhere.Goals as goal

pub returns-in-State-clause-quiet : goal.returns-in-State-clause-quiet
returns-in-State-clause-quiet c =
    rw (← c.self.view_is, c.in-State.is)
    (λ w h. alone_quiet c.self.inside.first c.self.inside.others.items c.self.inside.names c.self.invariant
    h.0 (State c.in-State.state) c.ending_of_state.result c.ending_of_state.ensures.quiet w h.1)

pub returns-in-Single-clause-quiet : goal.returns-in-Single-clause-quiet
returns-in-Single-clause-quiet c =
    rw (← c.self.view_is, c.in-Single.is)
    (λ w h. alone_quiet c.self.inside.first c.self.inside.others.items c.self.inside.names c.self.invariant
    h.0 c.in-Single.place.value c.ending.result (rw c.deref.ensures at c.ending.ensures.quiet) w h.1)

pub returns-in-State-clause-cut : goal.returns-in-State-clause-cut
returns-in-State-clause-cut c =
    rw (← c.self.view_is, c.in-State.is)
    (λ w h. alone_ends c.self.inside.first c.self.inside.others.items c.self.inside.names c.self.invariant
    h.0 (State c.in-State.state) c.ending_of_state.result c.ending_of_state.ensures.cut w h.1)

pub returns-in-Single-clause-cut : goal.returns-in-Single-clause-cut
returns-in-Single-clause-cut c =
    rw (← c.self.view_is, c.in-Single.is)
    (λ w h. alone_ends c.self.inside.first c.self.inside.others.items c.self.inside.names c.self.invariant
    h.0 c.in-Single.place.value c.ending.result (rw c.deref.ensures at c.ending.ensures.cut) w h.1)
