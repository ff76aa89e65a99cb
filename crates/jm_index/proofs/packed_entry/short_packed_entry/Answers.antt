use Rattle.jm_index.proofs.KeyLemmas.{objects_first, objects_rest}
use Rattle.jm_index.proofs.PackedEntryLemmas.{bound_alone, bound_both}
use Rattle.jm_index.proofs.packed_entry.short_packed_entry.Goals as goal

pub returns-in_default-clause-packed : goal.returns-in_default-clause-packed
returns-in_default-clause-packed c =
    let one = c.in_ok-one.ensures in
    bound_alone _ _ _ _ one.eight one.object (objects_first _ 0 _ _ one.behind one.object one.between) (objects_rest _ _ c.in_default.ensures.none)

pub returns-in-None-clause-packed : goal.returns-in-None-clause-packed
returns-in-None-clause-packed c =
    let one = c.in_ok-one.ensures in
    let two = c.in-Some.ensures in
    bound_both _ _ _ _ _ _ _ one.eight two.behind one.object two.object (objects_first _ 0 _ _ one.behind one.object one.between)
    (objects_first _ _ _ _ two.behind two.object two.between) (objects_rest _ _ c.in-None.ensures.none)
