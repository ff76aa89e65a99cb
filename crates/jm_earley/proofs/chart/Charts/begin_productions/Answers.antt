use Rattle.std.proofs.Common.{List, ◌≡◌, ◌≤◌, length, Some, subst, sym, ap, ◌∙◌, slice_get, refl, arith}
use Rattle.std.proofs.lemmas.Option.{slice_get_read, slice_get_within}
use Rattle.jm_grammar.specs.declared.grammar.Production.{Production}
use Rattle.jm_earley.proofs.GrowthLemmas.{begin_one, begin_none}
use Rattle.jm_earley.proofs.chart.Charts.begin_productions.Goals as goal
use Rattle.jm_earley.proofs.chart.Charts.begin_productions.Goals.{then-production-n+in_ok-add, else-production-n}

pub loop-number-preserved : goal.loop-number-preserved
loop-number-preserved c =
    let g = c.args.self.now.grammar in
    let i = c.loop-number.number in
    let q = c.production-item.result in
    let read : slice_get c.productions-production-items.result.now i ≡ Some q = slice_get_read _ _ i q refl c.loop-number-test.true c.production-item.is in
    let at : slice_get g.productions i ≡ Some q = ap (λ (l : List Production). slice_get l i) (sym c.productions-production-items.ensures.value) ∙ read in
    let h = c.loop-number.invariant in
    elim c.if-production-n.branch [
      | then-production-n+in_ok-add w ↦
          let both = begin_one g c.args.place c.args.n c.args.set.now c.loop-number.set i q at h.grows w.add.new.self h.all w.if-production-n.true w.in_ok-add.ensures in
          rw (w.set-is) (record { grows = both.0; all = both.1 })
      | else-production-n w ↦
          rw (w.set-is) (record {
            grows = h.grows;
            all = begin_none g c.args.place c.args.n c.args.set.now c.loop-number.set i q at h.grows h.all w.if-production-n.false;
          })
    ]

pub returns-clause-all : goal.returns-clause-all
returns-clause-all c = λ number p at left.
    let g = c.args.self.now.grammar in
    let within = slice_get_within g.productions number p at in
    let few = subst (λ (l : List Production). length l ≤ c.loop-number.number) c.productions-production-items.ensures.value c.loop-number-test.false in
    c.loop-number.invariant.all number p (omega (arith, within, few)) at left
