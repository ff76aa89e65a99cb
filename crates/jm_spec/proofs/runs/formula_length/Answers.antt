use Rattle.std.proofs.Common.{length, sym, ap, ◌∙◌, arith}
use Rattle.std.proofs.lemmas.Slice.{between_to_end}
use Rattle.jm_spec.specs.Runs.{ends_formula}
use Rattle.jm_spec.proofs.ScanLemmas.{further, formula_goes_on}
use Rattle.jm_spec.proofs.runs.formula_length.Goals as goal

-- the formula doesn't end here
pub loop-i-preserved : goal.loop-i-preserved
loop-i-preserved c =
    let bytes = c.args.cursor.now.bytes.now in
    let tokens = c.args.cursor.now.rest.now in
    let rest = between_to_end tokens c.loop-i.i (length tokens) (omega arith) in
    let open_here = ap (ends_formula bytes) (sym rest) ∙ sym c.if-ends_formula.ensures in
    further c.loop-i.i _ _ _ c.loop-i.invariant (formula_goes_on bytes tokens c.loop-i.i c.loop-i-test.true open_here)
