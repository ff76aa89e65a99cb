use Rattle.jm_coenable.proofs.mask_set.MaskSet.new.Goals as goal

pub invariant_of-result : goal.invariant_of-result
invariant_of-result c = λ mask there. absurd (c.new.ensures mask there)
