use Rattle.std.proofs.Common.{List, ℕ, Option, ◌+◌, ◌/◌, get_or, drop, sym, ◌∙◌, subst, arith}
use Rattle.jm_model.specs.Bindings.{bound}
use Rattle.jm_history.specs.Rows.{placed}
use Rattle.jm_history.proofs.PlacingLemmas.{IsPlacing, placing_start, placing_within, placing_free, placing_there, placing_set, placing_skip, placing_end, placing_same}
use Rattle.jm_history.proofs.row.binding.Goals as goal
use Rattle.jm_history.proofs.row.binding.Goals.{then-rest-eq1, else-rest-eq1}

pub loop-rest-init : goal.loop-rest-init
loop-rest-init c =
    let os = c.args.objects.now in
    subst (λ (b : List (Option ℕ)). IsPlacing os (placed c.args.mask (drop c.args.start os)) b c.args.mask c.args.start 0) (sym c.empty-binding.ensures)
    (placing_start os c.args.mask c.args.start c.requires (omega (arith, c.ranges.mask.fits)))

pub bounds-objects-next : goal.bounds-objects-next
bounds-objects-next c =
    let l = c.loop-rest in
    placing_there c.args.objects.now (placed c.args.mask (drop c.args.start c.args.objects.now)) l.binding l.rest l.next l.p l.invariant c.if-rest-eq1.true

pub bind-binding-requires-clause-free : goal.bind-binding-requires-clause-free
bind-binding-requires-clause-free c =
    let l = c.loop-rest in
    placing_free c.args.objects.now (placed c.args.mask (drop c.args.start c.args.objects.now)) l.binding l.rest l.next l.p l.invariant

pub loop-rest-preserved : goal.loop-rest-preserved
loop-rest-preserved c =
    let l = c.loop-rest in
    let os = c.args.objects.now in
    let w = placed c.args.mask (drop c.args.start os) in
    let inside = placing_within os w l.binding l.rest l.next l.p l.invariant c.loop-rest-test.true in
    elim c.if-rest-eq1.branch [
      | then-rest-eq1 t ↦
          placing_same os w (bound l.binding l.p (get_or os l.next 0)) c.if-rest-eq1.binding (l.rest / 2) (l.next + 1) c.if-rest-eq1.next (l.p + 1) (t.binding-is ∙ t.bind-binding.ensures) t.next-is
          (placing_set os w l.binding l.rest l.next l.p l.invariant inside t.if-rest-eq1.true)
      | else-rest-eq1 t ↦
          placing_same os w l.binding c.if-rest-eq1.binding (l.rest / 2) l.next c.if-rest-eq1.next (l.p + 1) t.binding-is t.next-is
          (placing_skip os w l.binding l.rest l.next l.p l.invariant inside t.if-rest-eq1.false)
    ]

pub returns : goal.returns
returns c =
    let l = c.loop-rest in
    placing_end c.args.objects.now (placed c.args.mask (drop c.args.start c.args.objects.now)) l.binding l.rest l.next l.p l.invariant (omega (arith, c.loop-rest-test.false))
