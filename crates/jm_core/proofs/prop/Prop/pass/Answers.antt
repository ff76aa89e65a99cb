use Rattle.std.proofs.Common.{◌<◌, ◌^◌, List, sym, subst}
use Rattle.jm_model.specs.declared.step.Entry.{Entry}
use Rattle.jm_semantics.specs.Histories.{trace_of}
use Rattle.jm_core.specs.Inside.{IsCore}
use Rattle.jm_core.proofs.FitLemmas.{fits_history}
use Rattle.jm_core.proofs.CoreLemmas.{core_after_pass}
use Rattle.jm_core.proofs.prop.Prop.pass.Goals as goal

pub invariant_of-self : goal.invariant_of-self
invariant_of-self g c =
    let m = g.M.Monitor.meaning (g.M.Monitor.definition c.self.inside.rules) in
    let Stands = g.M.Monitor.StandsFor c.self.inside.rules in
    let done = c.dispose-kept.ensures in
    let passed = done.disposed in
    let small : c.dispose-kept.result < 2 ^ 64 = c.dispose-kept.type_inv in
    let core = subst (λ (l : List Entry). IsCore m Stands l c.self.inside.objects c.dispose-kept.new.self) (sym c.push.ensures)
    (core_after_pass m Stands c.self.inside.history c.self.inside.objects c.self.inside.live.store c.dispose-kept.new.self c.args.node c.dispose-kept.result c.self.invariant.0 c.requires (record { thinned = passed.thinned; alive = passed.alive; left_marks = passed.marks }) small done.left done.closed done.fits.fits (passed.keeps (trace_of c.self.inside.history) c.self.invariant.0.holds)) in
    (core, c.settle.ensures c.self.inside.rules c.self.inside.objects c.self.inside.live.store.monitors passed.slots c.self.invariant.1)

pub returns-clause-legal : goal.returns-clause-legal
returns-clause-legal g c = (invariant_of-self g c).0.legal

pub returns-clause-fits : goal.returns-clause-fits
returns-clause-fits g c =
    fits_history (g.M.Monitor.meaning (g.M.Monitor.definition c.self.inside.rules)) (g.M.Monitor.StandsFor c.self.inside.rules) c.push.new.self c.self.inside.objects c.dispose-kept.new.self (invariant_of-self g c).0

pub dispose-kept-requires-clause-fits : goal.dispose-kept-requires-clause-fits
dispose-kept-requires-clause-fits g c = record { fits = c.self.invariant.0.fits; spared = c.self.invariant.0.holds.spared }
