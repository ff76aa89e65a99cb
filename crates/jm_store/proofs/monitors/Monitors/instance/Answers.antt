use Rattle.std.proofs.Common.{refl}
use Rattle.jm_store.proofs.monitors.Monitors.instance.Goals as goal

pub returns : goal.returns
returns g c = (c.in_ok-monitor.monitor.now, c.in_ok-monitor.ensures, refl)
