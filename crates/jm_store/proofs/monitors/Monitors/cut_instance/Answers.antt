use Rattle.std.proofs.Common.{refl}
use Rattle.jm_store.proofs.monitors.Monitors.cut_instance.Goals as goal

pub returns-then-is_cut : goal.returns-then-is_cut
returns-then-is_cut g c = record { cut = (c.in_ok-monitor.monitor.now, c.in_ok-monitor.ensures, refl, c.is_cut.ensures.yes c.if-is_cut.true) }
