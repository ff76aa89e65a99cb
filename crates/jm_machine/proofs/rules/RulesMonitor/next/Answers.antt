use Rattle.jm_machine.specs.declared.place.Place.TheVariants.{State}
use Rattle.jm_machine.proofs.RuleLemmas.{alone_follows, from_start}
use Rattle.jm_machine.proofs.rules.RulesMonitor.next.Goals as goal

pub returns-in-Some : goal.returns-in-Some
returns-in-Some c =
    rw (← c.self.view_is, c.in-State.is)
    (λ w h. (
      h.0,
      alone_follows c.self.inside.first c.self.inside.others.items c.self.inside.names c.self.invariant
          h.0 (State c.in-State.number) (State c.in-Some.next) c.args.letter.0 c.in-Some.ensures w h.1,
    ))

pub returns-in-Some-first_alone : goal.returns-in-Some-first_alone
returns-in-Some-first_alone c =
    let here = rw (← c.self.view_is) at c.in-Some-first_alone.ensures in
    rw (← c.self.view_is, c.in-Start.is)
    (from_start c.self.inside.first c.self.inside.others.items c.self.inside.names c.self.invariant
    c.in-Some-first_alone.first c.args.letter.0 here)
