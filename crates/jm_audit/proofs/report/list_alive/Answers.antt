use Rattle.std.proofs.Common.{◌≡◌, ◌+◌, ◌++◌, List, [], ◌∷◌, take, sym, ap, ◌∙◌, subst}
use Rattle.jm_model.specs.declared.binding.Binding.{Binding}
use Rattle.jm_audit.specs.Slices.{Sliced}
use Rattle.jm_audit.specs.Accounts.{AreAlive}
use Rattle.jm_audit.proofs.HitLemmas.{taken, alive_skip, alive_more, not_both}
use Rattle.jm_audit.proofs.report.list_alive.Goals as goal
use Rattle.jm_audit.proofs.report.list_alive.Goals.{then-not-branch+in_ok-push, else-not-branch}

pub is_cut-requires : goal.is_cut-requires
is_cut-requires g c = c.requires c.instance-item.result (c.loop-instance.instance-index, c.loop-instance-test.true, sym c.instance-item.is)

pub loop-instance-preserved : goal.loop-instance-preserved
loop-instance-preserved g c =
    let m = g.M.Monitor.meaning (g.M.Monitor.definition c.args.rules.now) in
    let flags = c.args.dead.now in
    let i = c.loop-instance.instance-index in
    let xs = c.args.instances.now in
    let x = c.instance-item.result in
    let before = take i xs in
    let old = c.loop-instance.list.items in
    let after : take (i + 1) xs ≡ before ++ x ∷ [] = taken xs i x c.loop-instance-test.true c.instance-item.is in
    elim c.if-not-branch.branch [
      | then-not-branch+in_ok-push w ↦
          let items : c.if-not-branch.list.items ≡ old ++ x.binding ∷ [] =
          ap (λ v. v.items) w.list-is ∙ w.in_ok-push.ensures.items ∙ ap (λ (t : Binding). old ++ t ∷ []) w.binding.ensures in
          subst (λ (ys : List Sliced). AreAlive m flags ys c.if-not-branch.list.items) (sym after)
          (subst (λ (ts : List Binding). AreAlive m flags (before ++ x ∷ []) ts) (sym items)
          (alive_more m flags before x old (λ cut. not_both c.in_ok-is_cut.field-0 (c.in_ok-is_cut.ensures.1 cut) w.if-not-branch.true) c.loop-instance.invariant))
      | else-not-branch w ↦
          let items : c.if-not-branch.list.items ≡ old = ap (λ v. v.items) w.list-is in
          subst (λ (ys : List Sliced). AreAlive m flags ys c.if-not-branch.list.items) (sym after)
          (subst (λ (ts : List Binding). AreAlive m flags (before ++ x ∷ []) ts) (sym items)
          (alive_skip m flags before x old (c.in_ok-is_cut.ensures.0 w.if-not-branch.false) c.loop-instance.invariant))
    ]
