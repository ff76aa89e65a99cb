use Rattle.std.proofs.Common.{◌<◌, ℕ, List, length, All, sym, ◌∙◌, ap, subst, arith}
use Rattle.std.specs.Prelude.{slice_index}
use Rattle.std.proofs.lemmas.List.{take_all}
use Rattle.std.proofs.lemmas.List.Elements.{All-more}
use Rattle.test_core_table.proofs.rig.Rig.step.Goals as goal

pub loop-object-preserved : goal.loop-object-preserved
loop-object-preserved c =
    All-more (λ o. o < 8) c.args.objects.now c.loop-object.object-index 0 c.loop-object-test.true c.loop-object.invariant (omega arith)

pub returns : goal.returns
returns c =
    let own = c.args.self.now.same in (
      (
        omega (arith, ap (λ (l : List ℕ). length l) own, c.from-at.ensures),
        c.of.ensures.eight,
        c.of.ensures.mask ∙ ap (slice_index c.args.self.now.params) c.from-at.ensures ∙ ap (λ (l : List ℕ). slice_index l c.args.letter) (sym own),
      ),
      subst (All (λ o. o < 8)) (take_all c.loop-object.object-index c.args.objects.now c.loop-object-test.false ∙ sym c.of.ensures.objects) c.loop-object.invariant,
    )
