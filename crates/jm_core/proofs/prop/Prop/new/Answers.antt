use Rattle.std.proofs.Common.{Bool, List, [], sym, subst}
use Rattle.jm_model.specs.declared.step.Entry.{Entry}
use Rattle.jm_core.specs.Inside.{IsCore}
use Rattle.jm_core.proofs.FitLemmas.{fits_history}
use Rattle.jm_core.proofs.CoreLemmas.{core_at_start}
use Rattle.jm_store.proofs.ListedLemmas.{none_listed}
use Rattle.jm_core.proofs.prop.Prop.new.Goals as goal

pub invariant_of-result : goal.invariant_of-result
invariant_of-result g c =
    let m = g.M.Monitor.meaning (g.M.Monitor.definition c.args.rules) in
    let Stands = g.M.Monitor.StandsFor c.args.rules in
    let store = c.in_ok-store.store in
    let start = core_at_start m Stands c.args.objects store c.in_ok-store.ensures.closed (λ dead. (c.in_ok-store.ensures.fits dead).fits) c.in_ok-store.ensures.holds in
    let core = subst (λ (h : List Entry). IsCore m Stands h c.in_ok-objects.objects store) (sym c.new-4.ensures)
    (subst (λ (dead : List Bool). IsCore m Stands [] dead store) (sym c.in_ok-objects.ensures) start) in
    (core, none_listed m Stands c.in_ok-objects.objects store.monitors c.new-3.result c.new-3.ensures)

pub returns-clause-fits : goal.returns-clause-fits
returns-clause-fits g c =
    fits_history (g.M.Monitor.meaning (g.M.Monitor.definition c.args.rules)) (g.M.Monitor.StandsFor c.args.rules) c.new-4.result c.in_ok-objects.objects c.in_ok-store.store (invariant_of-result g c).0
