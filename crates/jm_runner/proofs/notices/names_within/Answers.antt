use Rattle.std.proofs.Common.{◌≡◌, ◌<◌, get_or, Some, slice_get, subst, arith}
use Rattle.std.specs.Prelude.{All}
use Rattle.std.proofs.lemmas.Option.{slice_get-get_or}
use Rattle.std.proofs.lemmas.List.{take_all}
use Rattle.jm_sync.specs.declared.line.SyncKind.TheVariants.{Post}
use Rattle.jm_sync.specs.declared.line.SyncLine.{SyncLine}
use Rattle.jm_runner.proofs.LineLemmas.{names_more}
use Rattle.jm_runner.proofs.notices.names_within.Goals as goal

pub loop-line-preserved : goal.loop-line-preserved
loop-line-preserved c =
    let lines = c.args.lines.now in
    let i = c.loop-line.line-index in
    let line = get_or lines i (record { line = 0; kind = Post; name = 0 }) in
    let there : slice_get lines i ≡ Some line = slice_get-get_or lines i (record { line = 0; kind = Post; name = 0 }) c.loop-line-test.true in
    record {
      grown = omega (arith, c.loop-line.invariant.grown, c.max-most.ensures);
      above = names_more lines i line c.loop-line.most c.max-most.result there (omega (arith, c.max-most.ensures)) (omega (arith, c.max-most.ensures)) c.loop-line.invariant.above;
    }

pub returns-clause-above : goal.returns-clause-above
returns-clause-above c = subst (λ l. All (λ (x : SyncLine). x.name < c.loop-line.most) l) (take_all c.loop-line.line-index c.args.lines.now c.loop-line-test.false) c.loop-line.invariant.above
