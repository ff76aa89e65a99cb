use Rattle.jm_events.specs.Names.{number_of}
use Rattle.jm_grammar.specs.Categories.{GrammarHolds}
use Rattle.jm_machine.specs.Formulas.{category_names}
use Rattle.jm_machine.proofs.OptionLemmas.{looked_up}
use Rattle.jm_machine.proofs.KnownLemmas.{known_hits}
use Rattle.jm_machine.proofs.property.Property.handlers_at.Goals as goal

pub returns-in-Table-State-clause-hits : goal.returns-in-Table-State-clause-hits
returns-in-Table-State-clause-hits c =
    let i = c.self.inside in
    let set = rw c.in-Table-State.is-0 at c.self.invariant.1 in
    let known = rw c.in-Table-State.is-0 at c.self.invariant.2 in
    rw (← c.self.view_is, c.in-Table-State.is-1, c.in-Table-State.is-0)
    (known_hits i.masks.items i.formula i.handlers i.goal c.self.invariant.0 c.in-Table-State.table-0
    c.in-Table-State.liveness set known c.in-Table-State.state c.hits.result c.hits.ensures)

pub returns-in-Grammar-Parse-clause-hits : goal.returns-in-Grammar-Parse-clause-hits
returns-in-Grammar-Parse-clause-hits c =
    let i = c.self.inside in
    let grammar = c.in-Grammar-Parse.charts.grammar in
    rw (← c.self.view_is, c.in-Grammar-Parse.is-0, c.in-Grammar-Parse.is-1)
    (λ word place k.
    let same = looked_up (λ group. GrammarHolds grammar group word) (number_of (category_names i.formula)) i.goal.groups i.handlers k c.self.invariant.0.groups in
    let hits = c.handlers_of_chart.ensures word place.1 k in
    (λ set. same.0 (hits.0 set), λ held. hits.1 (same.1 held)))
