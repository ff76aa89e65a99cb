use Rattle.std.proofs.Common.{subst}
use Rattle.jm_core.specs.Cores.{Core, FitsHistory}
use Rattle.jm_core.proofs.FitLemmas.{fits_history}
use Rattle.jm_core.proofs.prop.Prop.history.Goals as goal

pub returns-clause-fits : goal.returns-clause-fits
returns-clause-fits g c =
    subst (λ (core : Core g.row.M-Definition.Denot). FitsHistory (g.M.Monitor.meaning core.definition) core.entries core.stored core.marks) c.self.view_is
    (fits_history (g.M.Monitor.meaning (g.M.Monitor.definition c.self.inside.rules)) (g.M.Monitor.StandsFor c.self.inside.rules) c.self.inside.history c.self.inside.objects c.self.inside.live.store c.self.invariant.0)
