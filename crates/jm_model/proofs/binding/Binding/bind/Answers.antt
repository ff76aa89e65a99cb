use Rattle.std.proofs.Common.{◌≡◌, ◌<◌, ◌%◌, ◌*◌, ◌^◌, ℕ, length, Some, set, sym, ◌∙◌, ap, subst, arith, length-set}
use Rattle.std.specs.Int.RustNames.{bit_or}
use Rattle.std.proofs.lemmas.Nat.{or_of_8, one_shl}
use Rattle.jm_model.specs.Layout.{options_of, stored_of}
use Rattle.jm_model.proofs.LayoutLemmas.{options_of-set, set-unbound}
use Rattle.jm_model.proofs.binding.Binding.bind.Goals as goal

-- the shifted bit
small : (p : ℕ) → p < 8 → 1 * 2 ^ p % 256 ≡ 2 ^ p
small p h = one_shl p 8 h

pub invariant_of-self : goal.invariant_of-self
invariant_of-self c =
    let m = c.self.inside.mask in
    let a = c.self.inside.objects in
    let p = c.args.p in
    let o = c.args.object in
    let within : p < length a = omega (arith, c.self.invariant.eight, c.requires.in_range) in
    record {
      eight = length-set a p o ∙ c.self.invariant.eight;
      mask_fits = or_of_8 m (1 * 2 ^ p % 256) c.self.invariant.mask_fits (omega arith);
      unbound = subst (λ k. stored_of (options_of (bit_or m k) (set a p o)) ≡ set a p o) (sym (small p c.requires.in_range)) (set-unbound m p o a within c.self.invariant.unbound);
    }

pub returns : goal.returns
returns c =
    let m = c.self.inside.mask in
    let a = c.self.inside.objects in
    let p = c.args.p in
    let o = c.args.object in
    let within : p < length a = omega (arith, c.self.invariant.eight, c.requires.in_range) in
    ap (λ k. options_of (bit_or m k) (set a p o)) (small p c.requires.in_range) ∙ options_of-set m p o a within ∙ ap (λ b. set b p (Some o)) c.self.view_is
