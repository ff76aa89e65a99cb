use Rattle.std.proofs.Common.{◌<◌, ◌≤◌, length, drop, sym, ap, ◌∙◌, arith}
use Rattle.std.proofs.lemmas.Slice.{between_to_end}
use Rattle.jm_text.specs.Pieces.{piece_of}
use Rattle.jm_text.proofs.Cutting.{nothing_before, gap_more, token_more, arrived}
use Rattle.jm_text.proofs.Order.{within_from_order}
use Rattle.jm_text.proofs.lexer.tokens.Goals as goal
use Rattle.jm_text.proofs.lexer.tokens.Goals.{in-Gap, in-Cut+in_ok-push-in-Cut}

pub loop-start-init : goal.loop-start-init
loop-start-init c = nothing_before _ _ c.new-tokens.ensures.items

pub loop-start-preserved : goal.loop-start-preserved
loop-start-preserved c =
    let bytes = c.args.bytes.now in
    let start = c.loop-start.start in
    let before = c.loop-start.invariant in
    let rest = between_to_end bytes start (length bytes) (omega arith) in
    let same_length = ap length rest in
    elim c.match-piece_of.branch [
      | in-Gap w ↦
          let said = w.in-Gap.ensures in
          let some : 0 < w.in-Gap.n = omega (arith, said.fits) in
          let fits : w.in-Gap.n ≤ length (drop start bytes) = omega (arith, said.fits) in
          let is_gap = ap piece_of (sym rest) ∙ sym said.value in
          arrived bytes _ _ start w.in-Gap.n _ _ _ (gap_more before w.in-Gap.n some fits is_gap) (ap (λ v. v.items) w.tokens-is) w.end-is c.line_feeds-line.ensures.value
      | in-Cut+in_ok-push-in-Cut w ↦
          let said = w.in-Cut.ensures in
          let some : 0 < w.in-Cut.n = omega (arith, said.fits) in
          let fits : w.in-Cut.n ≤ length (drop start bytes) = omega (arith, said.fits) in
          let is_token = ap piece_of (sym rest) ∙ sym said.value in
          arrived bytes _ _ start w.in-Cut.n _ _ _ (token_more before w.in-Cut.n some fits w.in-Cut.kind is_token) (ap (λ v. v.items) w.tokens-is ∙ w.in_ok-push-in-Cut.ensures.items) w.end-is c.line_feeds-line.ensures.value
    ]

pub returns-clause-within : goal.returns-clause-within
returns-clause-within c = within_from_order _ _ _ c.loop-start.invariant.in_order c.loop-start.invariant.in_range
