use Rattle.std.proofs.Common.{map}
use Rattle.jm_sync.specs.Checks.{sync_of}
use Rattle.jm_runner.proofs.run.run_queues.Given as goal

-- the run is the one of these scripts, of what they ask for, and of these watches
abbrev pub ghosts-run_as : goal.ghosts-run_as
ghosts-run_as g a = record { scripts = a.scripts.items; cuts = sync_of a.cuts.now; watches = map (λ r. r.watch) a.watches.items }
