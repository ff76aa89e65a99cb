use Rattle.std.proofs.Common.{◌≡◌, ◌+◌, List, take, sym, ap, ◌∙◌, subst, arith}
use Rattle.std.specs.Prelude.{bit_and}
use Rattle.std.proofs.lemmas.List.{take_all, length-map, get_or-map}
use Rattle.jm_model.specs.declared.firings.Firing.{Firing}
use Rattle.jm_monitors.specs.declared.stored.Stored.{Stored}
use Rattle.jm_monitors.specs.Steps.{IsFull}
use Rattle.jm_store.specs.declared.moves.Move.{Move}
use Rattle.jm_store.specs.Moves.{reached_by}
use Rattle.jm_store.specs.Reports.{IsAt, AreHitsOf}
use Rattle.jm_store.proofs.ReportLemmas.{hits_of_none, hits_of_skip, hits_of_more}
use Rattle.jm_store.proofs.report.list_hits.Goals as goal
use Rattle.jm_store.proofs.report.list_hits.Goals.{then-must_bind-mask+in_ok-report_hits, else-must_bind-mask}

pub loop-step-init : goal.loop-step-init
loop-step-init g c =
    let m = g.M.Monitor.meaning (g.M.Monitor.definition c.args.rules.now) in
    let Stands = g.M.Monitor.StandsFor c.args.rules.now in
    λ distinct. subst (λ (l : List Firing). AreHitsOf m Stands (take 0 (reached_by c.args.moves.now)) l) (sym c.new-firings.ensures) (hits_of_none m Stands (reached_by c.args.moves.now))

pub loop-step-preserved : goal.loop-step-preserved
loop-step-preserved g c =
    let m = g.M.Monitor.meaning (g.M.Monitor.definition c.args.rules.now) in
    let Stands = g.M.Monitor.StandsFor c.args.rules.now in
    let i = c.loop-step.step-index in
    let step : Move g.row.M-State.Denot = c.step-item.result in
    let s = step.monitor in
    let monitors = reached_by c.args.moves.now in
    let at : IsAt monitors i s = (
      (omega (arith, length-map c.args.moves.now (λ (x : Move g.row.M-State.Denot). x.monitor), c.loop-step-test.true)),
      get_or-map (λ (x : Move g.row.M-State.Denot). x.monitor) c.args.moves.now i step s c.loop-step-test.true ∙ ap (λ (x : Move g.row.M-State.Denot). x.monitor) (sym c.step-item.is),
    ) in
    let full : bit_and c.must_bind-must_bind.result c.mask.result ≡ c.must_bind-must_bind.result → IsFull m s.instance = λ h.
    sym (λ j. bit_and (c.must_bind-must_bind.ensures j) (c.mask.ensures.value j)) ∙ h ∙ c.must_bind-must_bind.ensures in
    let back : IsFull m s.instance → bit_and c.must_bind-must_bind.result c.mask.result ≡ c.must_bind-must_bind.result = λ h.
    (λ j. bit_and (c.must_bind-must_bind.ensures j) (c.mask.ensures.value j)) ∙ h ∙ sym c.must_bind-must_bind.ensures in
    λ distinct. elim c.if-must_bind-mask.branch [
      | then-must_bind-mask+in_ok-report_hits w ↦
          subst (λ (l : List Firing). AreHitsOf m Stands (take (i + 1) monitors) l) (sym (w.firings-is ∙ w.in_ok-report_hits.ensures))
          (hits_of_more m Stands monitors i s c.loop-step.firings w.hits.result distinct at (full w.if-must_bind-mask.true) w.hits.type_inv w.hits.ensures (c.loop-step.invariant distinct))
      | else-must_bind-mask w ↦
          subst (λ (l : List Firing). AreHitsOf m Stands (take (i + 1) monitors) l) (sym w.firings-is)
          (hits_of_skip m Stands monitors i s c.loop-step.firings at (λ h. w.if-must_bind-mask.false (back h)) (c.loop-step.invariant distinct))
    ]

pub returns : goal.returns
returns g c =
    let monitors = reached_by c.args.moves.now in
    λ distinct. subst (λ (l : List (Stored g.row.M-State.Denot)). AreHitsOf (g.M.Monitor.meaning (g.M.Monitor.definition c.args.rules.now)) (g.M.Monitor.StandsFor c.args.rules.now) l c.loop-step.firings)
    (take_all c.loop-step.step-index monitors (omega (arith, length-map c.args.moves.now (λ (x : Move g.row.M-State.Denot). x.monitor), c.loop-step-test.false))) (c.loop-step.invariant distinct)
