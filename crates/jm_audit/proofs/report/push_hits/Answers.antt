use Rattle.std.proofs.Common.{◌≡◌, ℕ, ◌+◌, sym, ◌∙◌, ap, subst, arith}
use Rattle.jm_model.specs.declared.firings.Firing.{Firing}
use Rattle.jm_audit.specs.Accounts.{IsPushed}
use Rattle.jm_audit.proofs.HitLemmas.{pushed_none, pushed_more, pushed_skip}
use Rattle.jm_audit.proofs.report.push_hits.Goals as goal
use Rattle.jm_audit.proofs.report.push_hits.Goals.{then-hits-handler-eq1+in_ok-push, else-hits-handler-eq1}

pub loop-handler-init : goal.loop-handler-init
loop-handler-init c = pushed_none c.args.instance.now c.args.hits c.args.list.now.items

pub loop-handler-preserved : goal.loop-handler-preserved
loop-handler-preserved c =
    let t = c.args.instance.now in
    let k = c.loop-handler.handler in
    let old = c.args.list.now.items in
    let before = c.loop-handler.list.items in
    let new : Firing = record { instance = t; handler = k } in
    elim c.if-hits-handler-eq1.branch [
      | then-hits-handler-eq1+in_ok-push w ↦
          subst (IsPushed t c.args.hits (k + 1) old) (sym (ap (λ v. v.items) w.list-is ∙ w.in_ok-push.ensures.items))
          (pushed_more t c.args.hits k old before w.if-hits-handler-eq1.true c.loop-handler.invariant)
      | else-hits-handler-eq1 w ↦
          subst (IsPushed t c.args.hits (k + 1) old) (sym (ap (λ v. v.items) w.list-is))
          (pushed_skip t c.args.hits k old before w.if-hits-handler-eq1.false c.loop-handler.invariant)
    ]

pub returns : goal.returns
returns c =
    let last : c.loop-handler.handler ≡ 16 = omega arith in
    subst (λ (n : ℕ). IsPushed c.args.instance.now c.args.hits n c.args.list.now.items c.loop-handler.list.items) last c.loop-handler.invariant
