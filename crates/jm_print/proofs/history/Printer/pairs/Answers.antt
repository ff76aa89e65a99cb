use Rattle.std.proofs.Common.{◌≡◌, List, ℕ, false, ◌+◌, ◌/◌, ◌++◌, sym, subst, arith}
use Rattle.std.specs.Prelude.{OnOk}
use Rattle.jm_history.specs.Rows.{placed}
use Rattle.jm_history.proofs.PlacingLemmas.{placing_there}
use Rattle.jm_print.specs.Texts.{binding_text}
use Rattle.jm_print.proofs.PlacedLemmas.{printing_start, printing_here, printing_pair, printing_skip, printing_same, printing_end, placed_dash}
use Rattle.jm_print.proofs.history.Printer.pairs.Goals as goal
use Rattle.jm_print.proofs.history.Printer.pairs.Goals.{then-rest-eq1+in_ok-pair, else-rest-eq1}

pub returns-then-mask-eq0 : goal.returns-then-mask-eq0
returns-then-mask-eq0 c =
    subst (λ (t : List ℕ). OnOk c.byte.result (c.byte.new.self ≡ c.args.page.now ++ t))
    (sym (placed_dash c.args.self.now c.args.objects.now c.args.mask c.if-mask-eq0.true)) c.byte.ensures

pub loop-rest-init : goal.loop-rest-init
loop-rest-init c =
    printing_start c.args.self.now c.args.objects.now c.args.mask c.args.page.now c.requires.objects (omega (arith, c.ranges.mask.fits)) c.if-mask-eq0.false c.requires.names

pub bounds-objects-next : goal.bounds-objects-next
bounds-objects-next c =
    let l = c.loop-rest in
    placing_there c.args.objects.now (placed c.args.mask c.args.objects.now) l.invariant.bound_so_far l.rest l.next l.p l.invariant.placing c.if-rest-eq1.true

pub pair-requires : goal.pair-requires
pair-requires c =
    let l = c.loop-rest in
    printing_here c.args.self.now c.args.objects.now (placed c.args.mask c.args.objects.now) l.first l.rest l.next l.p l.page (c.args.page.now ++ binding_text c.args.self.now (placed c.args.mask c.args.objects.now)) l.invariant c.loop-rest-test.true c.if-rest-eq1.true

pub loop-rest-preserved : goal.loop-rest-preserved
loop-rest-preserved c =
    let l = c.loop-rest in
    let own = c.args.self.now in
    let os = c.args.objects.now in
    let w = placed c.args.mask os in
    let all = c.args.page.now ++ binding_text own w in
    let i = c.if-rest-eq1 in
    elim c.if-rest-eq1.branch [
      | then-rest-eq1+in_ok-pair t ↦
          printing_same own os w false i.first (l.rest / 2) (l.next + 1) i.next (l.p + 1) t.pair.new.page i.page all t.first-is t.next-is t.page-is
          (printing_pair own os w l.first l.rest l.next l.p l.page t.pair.new.page all l.invariant c.loop-rest-test.true t.if-rest-eq1.true t.in_ok-pair.ensures)
      | else-rest-eq1 t ↦
          printing_same own os w l.first i.first (l.rest / 2) l.next i.next (l.p + 1) l.page i.page all t.first-is t.next-is t.page-is
          (printing_skip own os w l.first l.rest l.next l.p l.page all l.invariant c.loop-rest-test.true t.if-rest-eq1.false)
    ]

pub returns : goal.returns
returns c =
    let l = c.loop-rest in
    printing_end c.args.self.now c.args.objects.now (placed c.args.mask c.args.objects.now) l.first l.rest l.next l.p l.page (c.args.page.now ++ binding_text c.args.self.now (placed c.args.mask c.args.objects.now)) l.invariant (omega (arith, c.loop-rest-test.false))
