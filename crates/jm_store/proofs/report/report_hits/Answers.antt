use Rattle.std.proofs.Common.{◌≡◌, ℕ, ◌++◌, List, [], ◌∷◌, sym, ◌∙◌, ap, append-nil, append_assoc, arith}
use Rattle.jm_model.specs.declared.firings.Firing.{Firing}
use Rattle.jm_store.specs.Reports.{firings_below}
use Rattle.jm_store.proofs.ReportLemmas.{hits_none, hits_more, hits_skip, hits_all, no_hits}
use Rattle.jm_store.proofs.report.report_hits.Goals as goal
use Rattle.jm_store.proofs.report.report_hits.Goals.{then-hits-handler-eq1+in_ok-push, else-hits-handler-eq1}

pub loop-handler-init : goal.loop-handler-init
loop-handler-init c =
    sym (append-nil c.args.firings.now) ∙ ap (λ (l : List Firing). c.args.firings.now ++ l) (sym (hits_none c.args.instance.now c.args.hits))

pub loop-handler-preserved : goal.loop-handler-preserved
loop-handler-preserved c =
    let t = c.args.instance.now in
    let k = c.loop-handler.handler in
    let before = firings_below t c.args.hits k in
    elim c.if-hits-handler-eq1.branch [
      | then-hits-handler-eq1+in_ok-push w ↦
          let new : Firing = record { instance = t; handler = k } in
          w.firings-is ∙ w.in_ok-push.ensures.ok ∙ ap (λ (l : List Firing). l ++ new ∷ []) c.loop-handler.invariant ∙ append_assoc c.args.firings.now before (new ∷ [])
          ∙ ap (λ (l : List Firing). c.args.firings.now ++ l) (sym (hits_more t c.args.hits k w.if-hits-handler-eq1.true))
      | else-hits-handler-eq1 w ↦
          w.firings-is ∙ c.loop-handler.invariant ∙ ap (λ (l : List Firing). c.args.firings.now ++ l) (sym (hits_skip t c.args.hits k w.if-hits-handler-eq1.false))
    ]

pub returns : goal.returns
returns c =
    let n = c.room_of-handler-end.result in
    let last : c.loop-handler.handler ≡ n = omega arith in
    c.loop-handler.invariant ∙ ap (λ (k : ℕ). c.args.firings.now ++ firings_below c.args.instance.now c.args.hits k) last
    ∙ ap (λ (l : List Firing). c.args.firings.now ++ l) (sym (hits_all c.args.instance.now c.args.hits n c.room_of-handler-end.ensures.room c.room_of-handler-end.ensures.bounded))

pub returns-then-hits-eq0 : goal.returns-then-hits-eq0
returns-then-hits-eq0 c = rw (c.if-hits-eq0.true, no_hits c.args.instance.now 16) (sym (append-nil c.args.firings.now))
