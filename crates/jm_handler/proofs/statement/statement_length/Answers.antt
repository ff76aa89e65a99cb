use Rattle.std.proofs.Common.{get_or, sym, ◌∙◌}
use Rattle.jm_text.specs.declared.token.TokenKind.TheVariants.{Word}
use Rattle.jm_text.specs.declared.token.Token.{Token}
use Rattle.jm_handler.proofs.StatementLemmas.{depth_step, depth_small, EndsAt-here, EndsAt-last, IsStatement-at, none_before}
use Rattle.jm_handler.proofs.statement.statement_length.Goals as goal
use Rattle.jm_handler.proofs.statement.statement_length.Goals.{else-depth-eq0-via-then-depth-eq0+else-may_end, else-depth-eq0-via-else-depth-eq0}

pub returns-then-may_end : goal.returns-then-may_end
returns-then-may_end c =
    let now = depth_step _ _ _ _ _ _ c.loop-i-test.true c.loop-i.invariant.depth c.depth_behind-depth.ensures in
    IsStatement-at _ _ _ c.loop-i-test.true c.loop-i.invariant.first
    (EndsAt-here _ _ _ _ _ c.loop-i-test.true now c.if-depth-eq0.true (sym c.may_end.ensures ∙ c.if-may_end.true))

pub loop-i-preserved : goal.loop-i-preserved
loop-i-preserved c =
    let now = depth_step _ _ _ _ _ _ c.loop-i-test.true c.loop-i.invariant.depth c.depth_behind-depth.ensures in
    let t : Token = get_or c.args.tokens.now c.loop-i.i (record { kind = Word; start = 0; end = 0; line = 0 }) in
    record {
      depth = now;
      few = depth_small c.args.bytes.now _ _ _ t c.loop-i.invariant.few c.depth_behind-depth.ensures;
      first =
          none_before _ _ _ c.loop-i.invariant.first
          (elim c.else-depth-eq0.branch [
            | else-depth-eq0-via-then-depth-eq0+else-may_end w ↦ λ at. let last = EndsAt-last _ _ _ _ c.loop-i-test.true at in absurd (let bad = sym w.if-may_end.false ∙ w.may_end.ensures ∙ last in cc)
            | else-depth-eq0-via-else-depth-eq0 w ↦ λ at. w.if-depth-eq0.false (now ∙ at.0)
          ]);
    }
