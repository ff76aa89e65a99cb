use Rattle.std.proofs.Common.{List, sym, ◌∙◌, subst}
use Rattle.jm_model.specs.declared.firings.Firing.{Firing}
use Rattle.jm_audit.specs.Accounts.{IsReport}
use Rattle.jm_audit.proofs.HitLemmas.{report_of}
use Rattle.jm_audit.proofs.report.report.Goals as goal

pub returns : goal.returns
returns g c =
    let m = g.M.Monitor.meaning (g.M.Monitor.definition c.args.rules.now) in
    let b = c.args.binding.now in
    subst (λ (l : List Firing). IsReport m b c.args.instances.now l) (sym (c.in_ok-firings.ensures ∙ c.as_slice.ensures.value))
    (report_of m b c.args.instances.now _ _ c.put_in_order.ensures.increasing c.put_in_order.ensures.members c.in_ok-list.ensures)
