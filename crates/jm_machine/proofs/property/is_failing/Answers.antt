use Rattle.std.proofs.Common.{inl, inr, sym, ◌∙◌, ap}
use Rattle.std.specs.Prelude.{codes, is_some}
use Rattle.jm_events.proofs.NameLemmas.{list_any-number_of}
use Rattle.jm_machine.proofs.property.is_failing.Goals as goal

pub returns-in-Grammatical : goal.returns-in-Grammatical
returns-in-Grammatical c =
    let found = c.is_some.ensures ∙ ap is_some c.find.ensures.value ∙ sym (list_any-number_of c.args.handlers.now (codes "fail")) in
    elim c.in-Grammatical.is [ inl h ↦ rw h.1 found | inr h ↦ rw h.1 found ]
