use Rattle.std.proofs.Common.{◌<◌, List, length, refl, sym, subst, arith}
use Rattle.std.specs.Prelude.{Contains}
use Rattle.std.proofs.lemmas.Grind.{common_steps}
use Rattle.jm_index.specs.Index.{Pair}
use Rattle.jm_index.proofs.EntryLemmas.{pair_at_within}
use Rattle.jm_index.proofs.IndexLemmas.{IsIndexed-removed, IsIndexed-absent, list_removed, list_absent, IsFitting-without, without_absent, all_keyed}
use Rattle.jm_index.proofs.index.Index.remove.Goals as goal

pub index_mut-requires : goal.index_mut-requires
index_mut-requires c =
    let (slot, at) = c.self.invariant.found _ _ (sym c.in-Some.ensures.value) in
    let within : c.in-Some.position < length c.self.inside.entries.items = pair_at_within _ _ _ at in
    grind (arith, common_steps)

pub invariant_of-self : goal.invariant_of-self
invariant_of-self c =
    IsIndexed-removed _ _ _ _ _ _ _ _ _ c.self.invariant (sym c.in-Some.ensures.value) c.gone.ensures c.in-Some.ensures.updated (rw c.as_slice.ensures.value at c.thin_all.ensures)

pub invariant_of-self-in_default : goal.invariant_of-self-in_default
invariant_of-self-in_default c = IsIndexed-absent _ _ _ _ _ _ c.self.invariant (sym c.in_default.ensures.value) c.in_default.ensures.updated

pub returns-in-Some-clause-list : goal.returns-in-Some-clause-list
returns-in-Some-clause-list c =
    rw (← c.self.view_is) (list_removed _ _ _ _ _ _ _ c.self.invariant (sym c.in-Some.ensures.value) c.gone.ensures)

pub returns-in-Some-clause-fits : goal.returns-in-Some-clause-fits
returns-in-Some-clause-fits c =
    rw (← c.self.view_is)
    (λ dead fits. IsFitting-without c.args.binding.now _ _ dead (list_removed _ _ _ _ _ _ _ c.self.invariant (sym c.in-Some.ensures.value) c.gone.ensures) refl (all_keyed _ _ _ _
    (IsIndexed-removed _ _ _ _ _ _ _ _ _ c.self.invariant (sym c.in-Some.ensures.value) c.gone.ensures c.in-Some.ensures.updated (rw c.as_slice.ensures.value at c.thin_all.ensures))) fits)

pub returns-in_default-clause-list : goal.returns-in_default-clause-list
returns-in_default-clause-list c =
    rw (← c.self.view_is) (list_absent _ _ _ _ _ c.self.invariant (sym c.in_default.ensures.value))

pub returns-in-Some-clause-absent : goal.returns-in-Some-clause-absent
returns-in-Some-clause-absent c =
    λ pair there. without_absent c.args.binding.now _ pair
    (subst (λ (v : List Pair). Contains v pair) (list_removed _ _ _ _ _ _ _ c.self.invariant (sym c.in-Some.ensures.value) c.gone.ensures) there)

pub returns-in_default-clause-absent : goal.returns-in_default-clause-absent
returns-in_default-clause-absent c =
    λ pair there. without_absent c.args.binding.now _ pair (subst (λ (v : List Pair). Contains v pair) (list_absent _ _ _ _ _ c.self.invariant (sym c.in_default.ensures.value)) there)
