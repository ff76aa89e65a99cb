use Rattle.std.proofs.Common.{sym, ap, ◌∙◌, is_some}
use Rattle.jm_events.specs.Names.{number_of}
use Rattle.jm_script.proofs.CatalogLemmas.{names-entries_of, length-entries_of, entries_of-push, room_more}
use Rattle.jm_script.proofs.NameLemmas.{is_there, is_not_there, with_name-new, not_some}
use Rattle.jm_script.proofs.catalog.Catalog.add.Goals as goal

pub returns-then-is_some-clause-accepted : goal.returns-then-is_some-clause-accepted
returns-then-is_some-clause-accepted c =
    rw (← c.self.view_is, names-entries_of _ _ c.self.invariant.0)
    (λ none. absurd (is_there _ (ap is_some (sym c.find.ensures.value) ∙ sym c.is_some.ensures ∙ c.if-is_some.true) none))

pub returns-in_err-reserve-clause-refused : goal.returns-in_err-reserve-clause-refused
returns-in_err-reserve-clause-refused c =
    rw (← c.self.view_is, names-entries_of _ _ c.self.invariant.0)
    (λ some. absurd (is_not_there _ (ap is_some (sym c.find.ensures.value) ∙ sym c.is_some.ensures ∙ c.if-is_some.false) some))

pub invariant_of-self-2 : goal.invariant_of-self-2
invariant_of-self-2 c =
    let none = not_some (number_of c.self.inside.names c.args.name.now) (ap is_some (sym c.find.ensures.value) ∙ sym c.is_some.ensures ∙ c.if-is_some.false) in
    let pushed = c.in_ok-add.ensures.ok ∙ with_name-new c.self.inside.names c.args.name.now none in
    rw (pushed, c.push_reserved.ensures.items, c.reserve.ensures.items) (room_more _ _ _ _ c.self.invariant.0 (rw (← c.self.view_is) at c.requires))

pub returns-in_err-add-clause-refused : goal.returns-in_err-add-clause-refused
returns-in_err-add-clause-refused c =
    rw (← c.self.view_is, names-entries_of _ _ c.self.invariant.0)
    (λ some. absurd (is_not_there _ (ap is_some (sym c.find.ensures.value) ∙ sym c.is_some.ensures ∙ c.if-is_some.false) some))

pub returns-clause-refused : goal.returns-clause-refused
returns-clause-refused c =
    rw (← c.self.view_is, names-entries_of _ _ c.self.invariant.0)
    (λ some. absurd (is_not_there _ (ap is_some (sym c.find.ensures.value) ∙ sym c.is_some.ensures ∙ c.if-is_some.false) some))

pub returns-clause-number : goal.returns-clause-number
returns-clause-number c = rw (← c.self.view_is, length-entries_of _ _ c.self.invariant.0) c.len-number.ensures.value

pub returns-clause-ok : goal.returns-clause-ok
returns-clause-ok c =
    let none = not_some (number_of c.self.inside.names c.args.name.now) (ap is_some (sym c.find.ensures.value) ∙ sym c.is_some.ensures ∙ c.if-is_some.false) in
    let pushed = c.in_ok-add.ensures.ok ∙ with_name-new c.self.inside.names c.args.name.now none in
    rw (← c.self.view_is, pushed, c.push_reserved.ensures.items, c.reserve.ensures.items) (entries_of-push _ _ _ _ c.self.invariant.0)
