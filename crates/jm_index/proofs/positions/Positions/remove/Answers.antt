use Rattle.std.proofs.Common.{sym, ap, ◌∙◌}
use Rattle.std.specs.HashMap.{get}
use Rattle.jm_model.specs.Layout.{binding_eq}
use Rattle.jm_index.proofs.PositionLemmas.{position-here, taken}
use Rattle.jm_index.proofs.positions.Positions.remove.Goals as goal

pub returns-in-Some-clause-value : goal.returns-in-Some-clause-value
returns-in-Some-clause-value c = sym (position-here _ _ c.key_of.ensures.eight ∙ rw (← c.key_of.ensures.value, ← c.take-under.ensures.value, c.in-Some.is))

pub returns-in-Some-clause-updated : goal.returns-in-Some-clause-updated
returns-in-Some-clause-updated c =
    taken _ _ _ _ c.key_of.ensures.eight c.take-under.ensures.others (rw c.key_of.ensures.value at c.take-under.ensures.put) c.take_other-among.ensures.under
    c.take_other-among.ensures.updated

pub returns-in-None-clause-value : goal.returns-in-None-clause-value
returns-in-None-clause-value c =
    c.take_other-among.ensures.value ∙ ap (λ v. get binding_eq v c.args.binding.now) c.take-under.ensures.others
    ∙ sym (position-here _ _ c.key_of.ensures.eight ∙ rw (← c.key_of.ensures.value, ← c.take-under.ensures.value, c.in-None.is))

pub returns-in-None-clause-updated : goal.returns-in-None-clause-updated
returns-in-None-clause-updated c =
    taken _ _ _ _ c.key_of.ensures.eight c.take-under.ensures.others (rw c.key_of.ensures.value at c.take-under.ensures.put) c.take_other-among.ensures.under
    c.take_other-among.ensures.updated
