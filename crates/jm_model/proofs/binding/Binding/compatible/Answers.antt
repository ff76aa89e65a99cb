use Rattle.std.proofs.Common.{◌≡◌, ◌%◌, get_or, sym, ◌∙◌, ap, arith}
use Rattle.std.specs.Prelude.{bit_and}
use Rattle.std.specs.Int.{bit_at}
use Rattle.jm_model.specs.Bindings.{is_compatible}
use Rattle.jm_model.proofs.LayoutLemmas.{is_compatible-step, is_compatible-stop, agrees-same, agrees-other, half_more}
use Rattle.jm_model.proofs.binding.Binding.compatible.Goals as goal
use Rattle.jm_model.proofs.binding.Binding.compatible.Goals.{else-rest-eq1-via-then-rest-eq1+else-self-p, else-rest-eq1-via-else-rest-eq1}

pub returns-then-self-p : goal.returns-then-self-p
returns-then-self-p c =
    let m = c.self.inside.mask in
    let a = c.self.inside.objects in
    let n = c.other.inside.mask in
    let b = c.other.inside.objects in
    let p = c.loop-p.p in
    let set : bit_at (bit_and m n) p ≡ 1 = sym (ap (λ k. k % 2) c.loop-p.invariant.rest) ∙ c.if-rest-eq1.true in
    sym (is_compatible-stop m n p a b (omega (arith, c.self.told)) (omega (arith, c.other.told)) (agrees-other m n p a b set c.if-self-p.true))
    ∙ c.loop-p.invariant.same
    ∙ (λ j. is_compatible (c.self.view_is j) (c.other.view_is j))

pub loop-p-preserved : goal.loop-p-preserved
loop-p-preserved c =
    let m = c.self.inside.mask in
    let a = c.self.inside.objects in
    let n = c.other.inside.mask in
    let b = c.other.inside.objects in
    let p = c.loop-p.p in
    let lowest = ap (λ k. k % 2) c.loop-p.invariant.rest in
    let same : bit_at (bit_and m n) p ≡ 1 → get_or a p 0 ≡ get_or b p 0 =
    elim c.else-rest-eq1.branch [
      | else-rest-eq1-via-then-rest-eq1+else-self-p w ↦ (λ _. w.if-self-p.false)
      | else-rest-eq1-via-else-rest-eq1 w ↦ (λ set. absurd (w.if-rest-eq1.false (lowest ∙ set)))
    ] in
    record {
      rest = half_more c.loop-p.rest (bit_and m n) p c.loop-p.invariant.rest;
      same =
          is_compatible-step m n p a b (omega (arith, c.self.told)) (omega (arith, c.other.told)) (agrees-same m n p a b same)
          ∙ c.loop-p.invariant.same;
    }
