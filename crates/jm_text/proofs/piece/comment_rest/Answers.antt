use Rattle.std.proofs.Common.{length, nat_eq, sym, ap, ◌∙◌, arith}
use Rattle.std.specs.List.{starts_with}
use Rattle.std.specs.Prelude.{codes}
use Rattle.std.proofs.lemmas.Slice.{between_to_end}
use Rattle.jm_text.specs.Pieces.{plus}
use Rattle.jm_text.proofs.Scans.{plus-plus, comment_goes_on}
use Rattle.jm_text.proofs.piece.comment_rest.Goals as goal

-- no comment is closed here
pub loop-i-preserved : goal.loop-i-preserved
loop-i-preserved c =
    let bytes = c.args.bytes.now in
    let rest = between_to_end bytes c.loop-i.i (length bytes) (omega arith) in
    let open_here = ap (λ bs. starts_with nat_eq bs (codes "*/")) (sym rest) ∙ sym c.if-starts_with.ensures.value in
    sym (plus-plus c.loop-i.i 1 _) ∙ ap (plus c.loop-i.i) (sym (comment_goes_on bytes c.loop-i.i c.loop-i-test.true open_here)) ∙ c.loop-i.invariant
