use Rattle.std.proofs.Common.{◌-◌, ◌<◌, ◌^◌, List, subst}
use Rattle.std.specs.Prelude.{All}
use Rattle.std.proofs.lemmas.List.{take_all}
use Rattle.jm_sync.specs.declared.line.SyncLine.{SyncLine}
use Rattle.jm_sync.specs.Checks.{sync_of}
use Rattle.jm_runner.specs.Notes.{HaveNamesBelow}
use Rattle.jm_runner.proofs.LineLemmas.{cut_at, cuts_more}
use Rattle.jm_runner.proofs.notices.count_names.Goals as goal

pub names_within-names-requires : goal.names_within-names-requires
names_within-names-requires c =
    rw c.deref.ensures.value (cut_at (λ (ls : List SyncLine). All (λ (l : SyncLine). l.name < 2 ^ 32 - 1) ls) c.args.cuts.now c.loop-cut.cut-index c.cut-item.result c.requires c.loop-cut-test.true c.cut-item.is)

pub loop-cut-preserved : goal.loop-cut-preserved
loop-cut-preserved c =
    cuts_more c.args.cuts.now c.loop-cut.cut-index c.cut-item.result c.loop-cut.names c.names_within-names.result c.loop-cut-test.true c.cut-item.is c.names_within-names.ensures.grown c.loop-cut.invariant
    (rw c.deref.ensures.value at c.names_within-names.ensures.above)

pub returns : goal.returns
returns c = subst (λ l. HaveNamesBelow c.loop-cut.names (sync_of l)) (take_all c.loop-cut.cut-index c.args.cuts.now c.loop-cut-test.false) c.loop-cut.invariant
