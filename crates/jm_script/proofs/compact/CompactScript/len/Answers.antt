use Rattle.std.proofs.Common.{length, ap, arith}
use Rattle.jm_script.proofs.CompactLemmas.{length_lines}
use Rattle.jm_script.proofs.compact.CompactScript.len.Goals as goal

pub overflow_mul-result : goal.overflow_mul-result
overflow_mul-result c =
    let count = length_lines c.self.inside.full.items c.self.inside.last c.self.invariant.each in
    omega (arith, count, c.self.invariant.few, c.len.ensures)

pub overflow_add-result : goal.overflow_add-result
overflow_add-result c =
    let count = length_lines c.self.inside.full.items c.self.inside.last c.self.invariant.each in
    omega (arith, count, c.self.invariant.few, c.len.ensures, c.len-2.ensures)

pub returns-clause-value : goal.returns-clause-value
returns-clause-value c =
    let count = length_lines c.self.inside.full.items c.self.inside.last c.self.invariant.each in
    omega (arith, count, c.len.ensures, c.len-2.ensures, ap length c.self.view_is)

pub returns-clause-bounded : goal.returns-clause-bounded
returns-clause-bounded c =
    let count = length_lines c.self.inside.full.items c.self.inside.last c.self.invariant.each in
    omega (arith, count, c.self.invariant.few, c.len.ensures, c.len-2.ensures)
