use Rattle.std.proofs.Common.{◌<◌, refl, sym, ◌∙◌}
use Rattle.std.specs.Int.{w8, trailing_zeros}
use Rattle.jm_marks.proofs.SingleLemmas.{alone, power_of_one, power_some, low_zeros, power_small, none_single}
use Rattle.jm_marks.proofs.singles.single_of.Goals as goal

pub returns-then-mask-eq0-clause-other : goal.returns-then-mask-eq0-clause-other
returns-then-mask-eq0-clause-other c = λ (p, o, low, is). power_some _ _ p o c.mask-mask.ensures.value low is c.if-mask-eq0.true

pub returns-then-mask-p-clause-other : goal.returns-then-mask-p-clause-other
returns-then-mask-p-clause-other c =
    λ (p, o, low, is).
    let (two, zeros) = power_of_one _ _ p o c.mask-mask.ensures.value low is in
    c.if-mask-p.true (two ∙ power_small p (trailing_zeros w8 c.mask-mask.result) low zeros)

pub returns-in-Some-clause-one : goal.returns-in-Some-clause-one
returns-in-Some-clause-one c =
    let low : trailing_zeros w8 c.mask-mask.result < 8 = low_zeros c.mask-mask.result c.if-mask-eq0.false c.mask-mask.type_inv in
    (low, alone _ _ _ c.mask-mask.ensures.eight (sym c.mask-mask.ensures.value ∙ c.if-mask-p.false ∙ sym (power_small _ _ low refl)) (sym c.get.ensures ∙ c.in-Some.is))

pub returns-in-None-clause-other : goal.returns-in-None-clause-other
returns-in-None-clause-other c =
    λ (p, o, low, is). none_single _ _ p o c.mask-mask.ensures.value low is (sym c.get.ensures ∙ c.in-None.is)
