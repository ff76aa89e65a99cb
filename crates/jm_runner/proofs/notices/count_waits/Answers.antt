use Rattle.std.proofs.Common.{◌<◌, List, arith}
use Rattle.std.specs.Prelude.{All, vec_len}
use Rattle.std.proofs.lemmas.List.Elements.{All-weaker}
use Rattle.jm_sync.specs.declared.line.SyncLine.{SyncLine}
use Rattle.jm_runner.proofs.LineLemmas.{cut_at}
use Rattle.jm_runner.proofs.notices.count_waits.Goals as goal

pub add_waits-requires : goal.add_waits-requires
add_waits-requires c =
    let here = cut_at (λ (ls : List SyncLine). All (λ (l : SyncLine). l.name < c.args.names) ls) c.args.cuts.now c.loop-cut.cut-index c.cut-item.result c.requires c.loop-cut-test.true c.cut-item.is in
    rw c.deref.ensures.value
    (All-weaker (λ (l : SyncLine). l.name < c.args.names) (λ (l : SyncLine). l.name < vec_len c.loop-cut.waits) (λ l low. omega (arith, low, c.loop-cut.invariant, c.loop-cut.waits.ok.0)) c.cut-item.result.lines.items here)
