use Rattle.std.proofs.Common.{ℕ, List, ◌+◌, ◌/◌, ◌∙◌, sym, subst, arith}
use Rattle.std.specs.Prelude.{Option}
use Rattle.std.specs.Int.Count.{ones_step}
use Rattle.jm_model.proofs.BindingLemmas.{IsPlaced, placed_set, placed_skip}
use Rattle.jm_model.proofs.binding.Binding.of.Goals as goal
use Rattle.jm_model.proofs.binding.Binding.of.Goals.{then-rest-eq1, else-rest-eq1}

pub bounds-objects-next : goal.bounds-objects-next
bounds-objects-next c = omega (arith, ones_step c.loop-p.rest, c.loop-p.invariant.left)

pub loop-p-preserved : goal.loop-p-preserved
loop-p-preserved c =
    let mask = c.args.mask in
    let objects = c.args.objects.now in
    let half = c.loop-p.rest / 2 in
    let next_place = c.loop-p.p + 1 in
    elim c.if-rest-eq1.branch [
      | then-rest-eq1 w ↦
          let set = placed_set mask objects c.loop-p.binding c.loop-p.rest c.loop-p.next c.loop-p.p c.loop-p-test.true w.if-rest-eq1.true c.loop-p.invariant in
          let at_binding = subst (λ (b : List (Option ℕ)). IsPlaced mask objects b half (c.loop-p.next + 1) next_place) (sym (w.binding-is ∙ w.bind-binding.ensures)) set in
          subst (λ (n : ℕ). IsPlaced mask objects c.if-rest-eq1.binding half n next_place) (sym w.next-is) at_binding
      | else-rest-eq1 w ↦
          let skip = placed_skip mask objects c.loop-p.binding c.loop-p.rest c.loop-p.next c.loop-p.p w.if-rest-eq1.false c.loop-p.invariant in
          let at_binding = subst (λ (b : List (Option ℕ)). IsPlaced mask objects b half c.loop-p.next next_place) (sym w.binding-is) skip in
          subst (λ (n : ℕ). IsPlaced mask objects c.if-rest-eq1.binding half n next_place) (sym w.next-is) at_binding
    ]
