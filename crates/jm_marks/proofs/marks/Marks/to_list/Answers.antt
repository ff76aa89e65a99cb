use Rattle.std.proofs.Common.{◌*◌, length}
use Rattle.jm_model.proofs.EqLemmas.{apart}
use Rattle.jm_marks.proofs.SingleLemmas.{apart_singles}
use Rattle.jm_marks.proofs.SetLemmas.{apart_both}
use Rattle.jm_marks.proofs.marks.Marks.to_list.Goals as goal

pub returns-in_err-append_to-clause-distinct : goal.returns-in_err-append_to-clause-distinct
returns-in_err-append_to-clause-distinct c =
    rw (← c.self.view_is) (apart_both _ _ (apart_singles c.self.inside.singles (8 * length c.self.inside.singles)) (apart _ c.self.invariant.1.distinct) c.self.invariant.1.apart)

pub returns-in_err-extend_from_slice-clause-distinct : goal.returns-in_err-extend_from_slice-clause-distinct
returns-in_err-extend_from_slice-clause-distinct c =
    rw (← c.self.view_is) (apart_both _ _ (apart_singles c.self.inside.singles (8 * length c.self.inside.singles)) (apart _ c.self.invariant.1.distinct) c.self.invariant.1.apart)

pub returns-clause-distinct : goal.returns-clause-distinct
returns-clause-distinct c =
    rw (← c.self.view_is) (apart_both _ _ (apart_singles c.self.inside.singles (8 * length c.self.inside.singles)) (apart _ c.self.invariant.1.distinct) c.self.invariant.1.apart)
