use Rattle.std.proofs.Common.{◌≡◌}
use Rattle.jm_runner.proofs.NoteLemmas.{HasDoneSoFar}
use Rattle.jm_runner.specs.Work.{FitsWatches}
use Rattle.std.specs.Prelude.{All}
use Rattle.jm_runner.proofs.worker.do_script.Given as goal

abbrev pub invariant-loop-sync : goal.invariant-loop-sync
invariant-loop-sync g l = record {
  counted : l.passed ≡ l.sync-index;
  so_far : HasDoneSoFar g.J.Naming.scripts g.J.Naming.cuts l.caller l.fn.hand.lines l.hand.lines l.cut.lines.items l.watches l.sync-index l.hand.seats.items;
  fits : All (λ line. FitsWatches g.M.Monitor.meaning l.watches line) l.hand.lines;
}
