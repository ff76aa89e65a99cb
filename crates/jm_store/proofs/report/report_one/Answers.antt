use Rattle.std.proofs.Common.{◌≡◌, ◌≢◌, ℕ, ◌++◌, List, [], ◌∷◌, refl, sym, ◌∙◌, subst, arith}
use Rattle.std.specs.Prelude.{bit_and}
use Rattle.std.specs.List.Sorted.{IsStrictlySortedBy}
use Rattle.jm_model.specs.declared.firings.Firing.{Firing}
use Rattle.jm_semantics.specs.Answers.{firing_cmp}
use Rattle.jm_monitors.specs.declared.stored.Stored.{Stored}
use Rattle.jm_monitors.specs.Steps.{IsReport, IsFull}
use Rattle.jm_store.specs.Reports.{IsAt, firings_below, AreHitsOf}
use Rattle.jm_store.proofs.GivenLemmas.{one_pair}
use Rattle.jm_store.proofs.ListLemmas.{sorted-nil}
use Rattle.jm_store.proofs.ReportLemmas.{firings_below-increasing, hits_of_none, hits_of_skip, hits_of_more, report_of}
use Rattle.jm_store.proofs.report.report_one.Goals as goal
use Rattle.jm_store.proofs.report.report_one.Goals.{then-must_bind-mask+in_ok-report_hits, else-must_bind-mask}

pub returns : goal.returns
returns g c =
    let m = g.M.Monitor.meaning (g.M.Monitor.definition c.args.rules.now) in
    let Stands = g.M.Monitor.StandsFor c.args.rules.now in
    let s : Stored g.row.M-State.Denot = record { instance = c.args.instance.now; state = c.args.state.now } in
    let at : IsAt (s ∷ []) 0 s = (omega arith, refl) in
    let full : bit_and c.must_bind-must_bind.result c.mask.result ≡ c.must_bind-must_bind.result → IsFull m s.instance = λ h.
    sym (λ j. bit_and (c.must_bind-must_bind.ensures j) (c.mask.ensures.value j)) ∙ h ∙ c.must_bind-must_bind.ensures in
    let back : IsFull m s.instance → bit_and c.must_bind-must_bind.result c.mask.result ≡ c.must_bind-must_bind.result = λ h.
    (λ j. bit_and (c.must_bind-must_bind.ensures j) (c.mask.ensures.value j)) ∙ h ∙ sym c.must_bind-must_bind.ensures in
    let before : List Firing = c.new-firings.result in
    let new = λ (hits : ℕ). firings_below s.instance hits 16 in
    let none : AreHitsOf m Stands [] before = subst (λ (l : List Firing). AreHitsOf m Stands [] l) (sym c.new-firings.ensures) (hits_of_none m Stands (s ∷ [])) in
    elim c.if-must_bind-mask.branch [
      | then-must_bind-mask+in_ok-report_hits w ↦
          subst (λ (l : List Firing). IsReport m Stands (s ∷ []) l) (sym (w.firings-is ∙ w.in_ok-report_hits.ensures))
          (report_of m Stands (s ∷ []) (before ++ new w.hits.result)
          (subst (λ (l : List Firing). IsStrictlySortedBy firing_cmp (l ++ new w.hits.result)) (sym c.new-firings.ensures) (firings_below-increasing s.instance w.hits.result 16))
          (hits_of_more m Stands (s ∷ []) 0 s before w.hits.result (one_pair (λ (x y : Stored g.row.M-State.Denot). x.instance ≢ y.instance) s) at (full w.if-must_bind-mask.true) w.hits.type_inv w.hits.ensures none))
      | else-must_bind-mask w ↦
          subst (λ (l : List Firing). IsReport m Stands (s ∷ []) l) (sym w.firings-is)
          (report_of m Stands (s ∷ []) before (subst (λ (l : List Firing). IsStrictlySortedBy firing_cmp l) (sym c.new-firings.ensures) (sorted-nil firing_cmp))
          (hits_of_skip m Stands (s ∷ []) 0 s before at (λ h. w.if-must_bind-mask.false (back h)) none))
    ]
