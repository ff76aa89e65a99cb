use Rattle.jm_machine.specs.declared.place.Place.TheVariants.{State}
use Rattle.jm_machine.proofs.RuleLemmas.{alone_cut}
use Rattle.jm_machine.proofs.rules.Rules.is_cut_elsewhere.Goals as goal

pub returns-in-State : goal.returns-in-State
returns-in-State c =
    rw (← c.self.view_is, c.in-State.is)
    (λ w h. alone_cut c.self.inside.first c.self.inside.others.items c.self.inside.names c.self.invariant
    h.0 (State c.in-State.state) c.args.dead c.is_state_cut.result c.is_state_cut.ensures w h.1)

pub returns-in-Single : goal.returns-in-Single
returns-in-Single c =
    rw (← c.self.view_is, c.in-Single.is)
    (λ w h. alone_cut c.self.inside.first c.self.inside.others.items c.self.inside.names c.self.invariant
    h.0 c.in-Single.place.value c.args.dead c.cut.result (rw c.deref.ensures at c.cut.ensures) w h.1)
