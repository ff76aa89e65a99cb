use Rattle.std.proofs.Common.{◌<◌, ◌^◌, bit_and, sym, ◌∙◌, arith}
use Rattle.std.proofs.lemmas.Nat.{and_le_l}
use Rattle.jm_awake.proofs.PathLemmas.{within_none, within_some, within_never}
use Rattle.jm_awake.proofs.path.path_within.Goals as goal

pub returns-then-within-eq0 : goal.returns-then-within-eq0
returns-then-within-eq0 c = within_none _ _ _ c.mask.ensures.value c.if-within-eq0.true

pub returns-in-Some : goal.returns-in-Some
returns-in-Some c =
    let low : bit_and c.mask.result c.args.mask < 2 ^ 8 = omega (arith, and_le_l c.mask.result c.args.mask, c.mask.type_inv) in
    within_some _ c.mask.result _ _ c.mask.ensures.value c.mask.type_inv c.if-within-eq0.false low (sym c.get.ensures ∙ c.in-Some.is)

pub returns-in-None : goal.returns-in-None
returns-in-None c =
    let low : bit_and c.mask.result c.args.mask < 2 ^ 8 = omega (arith, and_le_l c.mask.result c.args.mask, c.mask.type_inv) in
    absurd (within_never _ c.mask.result _ c.mask.ensures.value c.if-within-eq0.false low (sym c.get.ensures ∙ c.in-None.is))
