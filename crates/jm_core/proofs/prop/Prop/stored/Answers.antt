use Rattle.std.proofs.Common.{List, ap, subst}
use Rattle.std.specs.Prelude.{IfOk}
use Rattle.std.specs.List.Sorted.{IsPermutation, IsSorted}
use Rattle.jm_model.specs.Bindings.{binding_cmp}
use Rattle.jm_model.specs.declared.binding.Binding.{Binding}
use Rattle.jm_store.specs.Contents.{stored_of}
use Rattle.jm_core.specs.Inside.{instances_of}
use Rattle.jm_core.specs.Cores.{Core, FitsHistory, AreInOrder}
use Rattle.jm_core.proofs.FitLemmas.{fits_history}
use Rattle.jm_core.proofs.ResultLemmas.{both_ok}
use Rattle.jm_core.proofs.prop.Prop.stored.Goals as goal

pub returns-clause-value : goal.returns-clause-value
returns-clause-value g c =
    let kept = instances_of (stored_of c.self.inside.live.store) in
    subst (λ (l : List Binding). IfOk c.stored.result (λ list. AreInOrder l list.items)) (ap (λ core. core.stored) c.self.view_is)
    (both_ok c.stored.result (λ list. IsPermutation kept list.items) (λ list. IsSorted binding_cmp list.items) (λ list. AreInOrder kept list.items)
    (λ list same ordered. record { same = same; ordered = ordered }) c.stored.ensures.permutation c.stored.ensures.ordered)

pub returns-clause-fits : goal.returns-clause-fits
returns-clause-fits g c =
    subst (λ (core : Core g.row.M-Definition.Denot). FitsHistory (g.M.Monitor.meaning core.definition) core.entries core.stored core.marks) c.self.view_is
    (fits_history (g.M.Monitor.meaning (g.M.Monitor.definition c.self.inside.rules)) (g.M.Monitor.StandsFor c.self.inside.rules) c.self.inside.history c.self.inside.objects c.self.inside.live.store c.self.invariant.0)
