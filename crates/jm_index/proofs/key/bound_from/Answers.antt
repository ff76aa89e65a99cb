use Rattle.std.proofs.Common.{sym, ◌∙◌}
use Rattle.jm_index.proofs.KeyLemmas.{none_from, first_from}
use Rattle.jm_index.proofs.key.bound_from.Goals as goal

pub returns-then-rest-eq0-clause-none : goal.returns-then-rest-eq0-clause-none
returns-then-rest-eq0-clause-none c = none_from _ _ _ (c.from.ensures ∙ c.mask.ensures.value) c.if-rest-eq0.true

pub get-requires : goal.get-requires
get-requires c = (first_from _ _ _ (c.from.ensures ∙ c.mask.ensures.value) (rw (← c.from.ensures) at c.mask.type_inv) c.if-rest-eq0.false).within

pub returns-in_err-object-clause-none : goal.returns-in_err-object-clause-none
returns-in_err-object-clause-none c =
    let first = first_from _ _ _ (c.from.ensures ∙ c.mask.ensures.value) (rw (← c.from.ensures) at c.mask.type_inv) c.if-rest-eq0.false in
    absurd (first.bound (sym c.get.ensures ∙ c.in_err-object.was))

pub returns-clause-within : goal.returns-clause-within
returns-clause-within c = (first_from _ _ _ (c.from.ensures ∙ c.mask.ensures.value) (rw (← c.from.ensures) at c.mask.type_inv) c.if-rest-eq0.false).within

pub returns-clause-between : goal.returns-clause-between
returns-clause-between c = (first_from _ _ _ (c.from.ensures ∙ c.mask.ensures.value) (rw (← c.from.ensures) at c.mask.type_inv) c.if-rest-eq0.false).between
