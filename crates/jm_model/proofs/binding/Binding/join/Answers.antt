use Rattle.std.proofs.Common.{◌≡◌, ◌%◌, get_or, cond, sym, ◌∙◌, ap, arith, length-set}
use Rattle.std.specs.Prelude.{◌==◌}
use Rattle.std.specs.Int.{bit_at}
use Rattle.std.proofs.lemmas.Bool.{eq-eqb, ne_eqb}
use Rattle.std.proofs.lemmas.Nat.{or_of_8}
use Rattle.jm_model.specs.Bindings.{join}
use Rattle.jm_model.proofs.LayoutLemmas.{join-options, join-unbound, below_set, half_more}
use Rattle.jm_model.proofs.binding.Binding.join.Goals as goal
use Rattle.jm_model.proofs.binding.Binding.join.Goals.{then-rest-eq1, else-rest-eq1}

pub loop-p-preserved : goal.loop-p-preserved
loop-p-preserved c =
    let m = c.self.inside.mask in
    let a = c.self.inside.objects in
    let b = c.other.inside.objects in
    let p = c.loop-p.p in
    let o = c.if-rest-eq1.objects in
    let lowest = ap (λ k. k % 2) c.loop-p.invariant.rest in
    let here : o ≡ cond (bit_at m p == 1) (get_or a p 0) (get_or b p 0) =
    elim c.if-rest-eq1.branch [
      | then-rest-eq1 w ↦ w.objects-is ∙ ap (λ v. cond v (get_or a p 0) (get_or b p 0)) (sym (eq-eqb (bit_at m p) 1 (sym lowest ∙ w.if-rest-eq1.true)))
      | else-rest-eq1 w ↦ w.objects-is ∙ ap (λ v. cond v (get_or a p 0) (get_or b p 0)) (sym (ne_eqb (bit_at m p) 1 (λ set. w.if-rest-eq1.false (lowest ∙ set))))
    ] in
    record {
      long = length-set c.loop-p.objects p o ∙ c.loop-p.invariant.long;
      rest = half_more c.loop-p.rest m p c.loop-p.invariant.rest;
      so_far =
          below_set (λ k. cond (bit_at m k == 1) (get_or a k 0) (get_or b k 0)) c.loop-p.objects p o (omega (arith, c.loop-p.invariant.long)) c.loop-p.invariant.so_far here;
    }

pub invariant_of-result : goal.invariant_of-result
invariant_of-result c =
    record {
      eight = c.loop-p.invariant.long;
      mask_fits = or_of_8 c.self.inside.mask c.other.inside.mask c.self.invariant.mask_fits c.other.invariant.mask_fits;
      unbound =
          join-unbound c.self.inside.mask c.other.inside.mask c.self.inside.objects c.other.inside.objects c.loop-p.objects
          (c.other.told ∙ sym c.loop-p.invariant.long) c.other.invariant.unbound (λ p within. c.loop-p.invariant.so_far p (omega (arith, c.loop-p.invariant.long)));
    }

pub returns : goal.returns
returns c =
    join-options c.self.inside.mask c.other.inside.mask c.self.inside.objects c.other.inside.objects c.loop-p.objects
    (c.self.told ∙ sym c.loop-p.invariant.long) (c.other.told ∙ sym c.loop-p.invariant.long) (λ p within. c.loop-p.invariant.so_far p (omega (arith, c.loop-p.invariant.long)))
    ∙ (λ j. join (c.self.view_is j) (c.other.view_is j))
