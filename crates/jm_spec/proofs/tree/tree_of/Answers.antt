use Rattle.std.proofs.Common.{ap}
use Rattle.std.proofs.lemmas.Result.{err_from_is_err_and}
use Rattle.jm_reading.specs.Faults.{fault_of}
use Rattle.jm_spec.specs.Faults.{modifier_fault, advice_fault, property_fault, logic_fault, frame_fault}
use Rattle.jm_spec.proofs.MakeLemmas.{refuses_first}
use Rattle.jm_spec.proofs.tree.tree_of.Goals as goal

pub returns-in_err-check_modifiers-clause-ok : goal.returns-in_err-check_modifiers-clause-ok
returns-in_err-check_modifiers-clause-ok c =
    let p = err_from_is_err_and c.from_residual.result c.from_residual.ensures.1 in
    rw p.1 tt

pub returns-in_err-check_modifiers-clause-bounded : goal.returns-in_err-check_modifiers-clause-bounded
returns-in_err-check_modifiers-clause-bounded c =
    let p = err_from_is_err_and c.from_residual.result c.from_residual.ensures.1 in
    rw p.1 tt

pub returns-in_err-check_modifiers-clause-checked : goal.returns-in_err-check_modifiers-clause-checked
unfolding frame_fault
returns-in_err-check_modifiers-clause-checked c =
    let p = err_from_is_err_and c.from_residual.result c.from_residual.ensures.1 in
    let here = rw c.as_slice.ensures at c.in_err-check_modifiers.ensures in
    rw (p.1, p.2) (refuses_first (modifier_fault c.args.frame.modifiers) _ c.in_err-check_modifiers.field-0.0 here)

pub returns-in_err-check_advice-clause-ok : goal.returns-in_err-check_advice-clause-ok
returns-in_err-check_advice-clause-ok c =
    let p = err_from_is_err_and c.from_residual-in_err-check_advice.result c.from_residual-in_err-check_advice.ensures.1 in
    rw p.1 tt

pub returns-in_err-check_advice-clause-bounded : goal.returns-in_err-check_advice-clause-bounded
returns-in_err-check_advice-clause-bounded c =
    let p = err_from_is_err_and c.from_residual-in_err-check_advice.result c.from_residual-in_err-check_advice.ensures.1 in
    rw p.1 tt

pub returns-in_err-check_advice-clause-checked : goal.returns-in_err-check_advice-clause-checked
unfolding frame_fault
returns-in_err-check_advice-clause-checked c =
    let p = err_from_is_err_and c.from_residual-in_err-check_advice.result c.from_residual-in_err-check_advice.ensures.1 in
    let modifiers = rw c.as_slice.ensures at c.in_ok-check_modifiers.ensures in
    let here = rw c.as_slice-2.ensures at c.in_err-check_advice.ensures in
    rw (p.1, p.2, modifiers) (refuses_first (advice_fault c.args.frame.events) _ c.in_err-check_advice.field-0.0 here)

pub returns-in_err-check_property_count-clause-ok : goal.returns-in_err-check_property_count-clause-ok
returns-in_err-check_property_count-clause-ok c =
    let p = err_from_is_err_and c.from_residual-in_err-check_property_count.result c.from_residual-in_err-check_property_count.ensures.1 in
    rw p.1 tt

pub returns-in_err-check_property_count-clause-bounded : goal.returns-in_err-check_property_count-clause-bounded
returns-in_err-check_property_count-clause-bounded c =
    let p = err_from_is_err_and c.from_residual-in_err-check_property_count.result c.from_residual-in_err-check_property_count.ensures.1 in
    rw p.1 tt

pub returns-in_err-check_property_count-clause-checked : goal.returns-in_err-check_property_count-clause-checked
unfolding frame_fault
returns-in_err-check_property_count-clause-checked c =
    let p = err_from_is_err_and c.from_residual-in_err-check_property_count.result c.from_residual-in_err-check_property_count.ensures.1 in
    let modifiers = rw c.as_slice.ensures at c.in_ok-check_modifiers.ensures in
    let advice = rw c.as_slice-2.ensures at c.in_ok-check_advice.ensures in
    let here = rw c.as_slice-3.ensures at c.in_err-check_property_count.ensures.checked in
    rw (p.1, p.2, modifiers, advice) (refuses_first (property_fault c.args.frame.properties) _ c.in_err-check_property_count.field-0.0 here)

pub returns-in_err-properties-clause-ok : goal.returns-in_err-properties-clause-ok
returns-in_err-properties-clause-ok c =
    let p = err_from_is_err_and c.from_residual-in_err-properties.result c.from_residual-in_err-properties.ensures.1 in
    rw p.1 tt

pub returns-in_err-properties-clause-bounded : goal.returns-in_err-properties-clause-bounded
returns-in_err-properties-clause-bounded c =
    let p = err_from_is_err_and c.from_residual-in_err-properties.result c.from_residual-in_err-properties.ensures.1 in
    rw p.1 tt

pub returns-in_err-properties-clause-checked : goal.returns-in_err-properties-clause-checked
unfolding frame_fault
returns-in_err-properties-clause-checked c =
    let p = err_from_is_err_and c.from_residual-in_err-properties.result c.from_residual-in_err-properties.ensures.1 in
    let modifiers = rw c.as_slice.ensures at c.in_ok-check_modifiers.ensures in
    let advice = rw c.as_slice-2.ensures at c.in_ok-check_advice.ensures in
    let few = rw c.as_slice-3.ensures at c.in_ok-check_property_count.ensures.checked in
    let here = rw c.as_slice-4.ensures at c.in_err-properties.ensures.checked in
    rw (p.1, p.2, modifiers, advice, few) (refuses_first (logic_fault c.args.bytes.now c.args.frame.properties) _ c.in_err-properties.field-0.0 here)

pub returns-in_err-table-clause-ok : goal.returns-in_err-table-clause-ok
returns-in_err-table-clause-ok c =
    let p = err_from_is_err_and c.from_residual-in_err-table.result c.from_residual-in_err-table.ensures.1 in
    rw p.1 tt

pub returns-in_err-table-clause-bounded : goal.returns-in_err-table-clause-bounded
returns-in_err-table-clause-bounded c =
    let p = err_from_is_err_and c.from_residual-in_err-table.result c.from_residual-in_err-table.ensures.1 in
    rw p.1 tt

pub returns-in_err-table-clause-checked : goal.returns-in_err-table-clause-checked
unfolding frame_fault
returns-in_err-table-clause-checked c =
    let p = err_from_is_err_and c.from_residual-in_err-table.result c.from_residual-in_err-table.ensures.1 in
    let modifiers = rw c.as_slice.ensures at c.in_ok-check_modifiers.ensures in
    let advice = rw c.as_slice-2.ensures at c.in_ok-check_advice.ensures in
    let few = rw c.as_slice-3.ensures at c.in_ok-check_property_count.ensures.checked in
    let logics = rw c.as_slice-4.ensures at c.in_ok-properties.ensures.checked in
    let here = rw (c.as_slice-5.ensures, c.as_slice-6.ensures) at c.in_err-table.ensures.err in
    rw (p.1, p.2, modifiers, advice, few, logics) here

pub returns-clause-checked : goal.returns-clause-checked
unfolding frame_fault
returns-clause-checked c =
    let modifiers = rw c.as_slice.ensures at c.in_ok-check_modifiers.ensures in
    let advice = rw c.as_slice-2.ensures at c.in_ok-check_advice.ensures in
    let few = rw c.as_slice-3.ensures at c.in_ok-check_property_count.ensures.checked in
    let logics = rw c.as_slice-4.ensures at c.in_ok-properties.ensures.checked in
    let made = rw (c.as_slice-5.ensures, c.as_slice-6.ensures) at c.in_ok-table.ensures.ok in
    rw (modifiers, advice, few, logics) (ap fault_of made)
