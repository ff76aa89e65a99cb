use Rattle.std.proofs.Common.{◌≡◌, ◌%◌, sym, ◌∙◌, ap, cond, arith, get_or, Option, Some, None, ℕ}
use Rattle.std.specs.Prelude.{◌==◌}
use Rattle.std.specs.Option.{option_cmp}
use Rattle.std.specs.Ordering.{nat_cmp}
use Rattle.jm_model.proofs.LayoutLemmas.{binding_cmp-step, is_equal, option_at, half_more}
use Rattle.jm_model.proofs.binding.Binding.cmp.Goals as goal

pub loop-p-preserved : goal.loop-p-preserved
loop-p-preserved c =
    let m = c.self.inside.mask in
    let a = c.self.inside.objects in
    let n = c.other.inside.mask in
    let b = c.other.inside.objects in
    let p = c.loop-p.p in
    let x : c.place-x.result ≡ option_at m p a = c.place-x.ensures ∙ ap (λ k. cond {A = Option ℕ} (k % 2 == 1) (Some (get_or a p 0)) None) c.loop-p.invariant.mine in
    let y : c.place-y.result ≡ option_at n p b = c.place-y.ensures ∙ ap (λ k. cond {A = Option ℕ} (k % 2 == 1) (Some (get_or b p 0)) None) c.loop-p.invariant.theirs in
    let equal = is_equal c.cmp-order.result (sym c.ne.ensures ∙ c.if-ne.false) in
    record {
      mine = half_more c.loop-p.mine m p c.loop-p.invariant.mine;
      theirs = half_more c.loop-p.theirs n p c.loop-p.invariant.theirs;
      same =
          binding_cmp-step m n p a b (omega (arith, c.self.told)) (omega (arith, c.other.told))
          ((λ j. option_cmp nat_cmp (sym x j) (sym y j)) ∙ sym c.cmp-order.ensures ∙ equal)
          ∙ c.loop-p.invariant.same;
    }
