use Rattle.jm_index.proofs.KeyLemmas.{objects_first, objects_rest, key-none, key-one, key-two, key-more}
use Rattle.jm_index.proofs.key.key_of.Goals as goal

pub returns-in_default-clause-value : goal.returns-in_default-clause-value
returns-in_default-clause-value c = key-none _ _ (objects_rest _ 0 c.in_default.ensures.none)

pub returns-in_default-bound_from-clause-value : goal.returns-in_default-bound_from-clause-value
returns-in_default-bound_from-clause-value c =
    let one = c.in-Some.ensures in
    rw c.mask-mask.ensures.value (key-one _ _ _ _ (objects_first _ 0 _ _ one.behind one.object one.between) (objects_rest _ _ c.in_default-bound_from.ensures.none))

pub returns-in-Some-bound_from-2-clause-value : goal.returns-in-Some-bound_from-2-clause-value
returns-in-Some-bound_from-2-clause-value c =
    let one = c.in-Some.ensures in
    let two = c.in-Some-bound_from.ensures in
    let more = c.in-Some-bound_from-2.ensures in
    key-more _ _ _ _ _ _ _ _ (objects_first _ 0 _ _ one.behind one.object one.between) (objects_first _ _ _ _ two.behind two.object two.between)
    (objects_first _ _ _ _ more.behind more.object more.between)

pub returns-in-None-clause-value : goal.returns-in-None-clause-value
returns-in-None-clause-value c =
    let one = c.in-Some.ensures in
    let two = c.in-Some-bound_from.ensures in
    rw c.mask-mask.ensures.value
    (key-two _ _ _ _ _ _ (objects_first _ 0 _ _ one.behind one.object one.between) (objects_first _ _ _ _ two.behind two.object two.between) (objects_rest _ _ c.in-None.ensures.none))
