use Rattle.jm_machine.specs.declared.place.Place.TheVariants.{State}
use Rattle.jm_machine.proofs.RuleLemmas.{alone_hits}
use Rattle.jm_machine.proofs.rules.RulesMonitor.hits.Goals as goal

pub returns-in-State : goal.returns-in-State
returns-in-State c =
    rw (← c.self.view_is, c.in-State.is)
    (λ w h. alone_hits c.self.inside.first c.self.inside.others.items c.self.inside.names c.self.invariant
    h.0 (State c.in-State.state) c.hits_of_state.result c.hits_of_state.ensures w h.1)
