use Rattle.std.proofs.Common.{sym, ◌∙◌}
use Rattle.jm_ere.proofs.derivative.product_part.Goals as goal

pub returns-else-is_product : goal.returns-else-is_product
returns-else-is_product c = λ r formed. rw (sym c.is_product.ensures ∙ c.if-is_product.false) (c.fitting.ensures r formed)
