use Rattle.std.proofs.Common.{List, sym, ◌∙◌, subst}
use Rattle.jm_machine.specs.declared.place.Place.{Place}
use Rattle.jm_machine.specs.declared.place.Place.TheVariants.{Start, State}
use Rattle.jm_machine.specs.Configurations.{AreAfter}
use Rattle.jm_machine.proofs.RuleLemmas.{alone_hits, start_hits, trap_hits}
use Rattle.jm_machine.proofs.rules.Rules.hits_elsewhere.Goals as goal

pub returns-in-State : goal.returns-in-State
returns-in-State c =
    rw (← c.self.view_is, c.in-State.is)
    (λ w h. alone_hits c.self.inside.first c.self.inside.others.items c.self.inside.names c.self.invariant
    h.0 (State c.in-State.state) c.hits_of_state.result c.hits_of_state.ensures w h.1)

pub returns-in-Single : goal.returns-in-Single
returns-in-Single c =
    rw (← c.self.view_is, c.in-Single.is)
    (λ w h. alone_hits c.self.inside.first c.self.inside.others.items c.self.inside.names c.self.invariant
    h.0 c.in-Single.place.value c.hits.result (rw c.deref.ensures at c.hits.ensures) w h.1)

pub returns-in-Several : goal.returns-in-Several
returns-in-Several c =
    rw c.in-Several.is
    (λ w h. c.hits_of_each.ensures w
    (subst (λ (places : List Place). AreAfter c.args.self.now.parts places Start w)
    (sym (c.as_slice.ensures.value ∙ λ i. (c.deref-in-Several.ensures i).items)) h))

pub returns-in-Start : goal.returns-in-Start
returns-in-Start c =
    rw (← c.self.view_is, c.in-Start.is)
    (start_hits c.self.inside.first c.self.inside.others.items c.self.inside.names c.self.invariant)

pub returns-in-Trap : goal.returns-in-Trap
returns-in-Trap c =
    rw (← c.self.view_is, c.in-Trap.is)
    (trap_hits c.self.inside.first c.self.inside.others.items c.self.inside.names c.self.invariant)
