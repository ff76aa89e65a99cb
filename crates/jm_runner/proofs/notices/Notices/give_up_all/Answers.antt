use Rattle.std.proofs.Common.{◌<◌, List}
use Rattle.std.specs.Prelude.{All}
use Rattle.jm_sync.specs.declared.line.SyncLine.{SyncLine}
use Rattle.jm_runner.proofs.LineLemmas.{cut_at}
use Rattle.jm_runner.proofs.notices.Notices.give_up_all.Goals as goal

pub give_up-requires : goal.give_up-requires
give_up-requires g c =
    rw c.deref.ensures.value (cut_at (λ (ls : List SyncLine). All (λ (l : SyncLine). l.name < c.args.self.now) ls) c.args.cuts.now c.loop-cut.cut-index c.cut-item.result c.requires c.loop-cut-test.true c.cut-item.is)
