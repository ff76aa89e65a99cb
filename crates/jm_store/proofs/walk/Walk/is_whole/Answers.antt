use Rattle.std.proofs.Common.{ℕ, ◌<◌, ◌^◌, bit_and, ap, ◌∙◌, arith}
use Rattle.std.specs.Int.{bit_at}
use Rattle.std.proofs.lemmas.Bool.{not-true}
use Rattle.std.proofs.lemmas.Nat.Bits.{bit_at_and, bit_at-zero}
use Rattle.jm_model.specs.Bindings.{mask_of}
use Rattle.jm_store.proofs.WalkLemmas.{whole_above}
use Rattle.jm_store.proofs.walk.Walk.is_whole.Goals as goal

pub returns-then-free-eq0 : goal.returns-then-free-eq0
returns-then-free-eq0 g c = λ yes.
    let t = c.args.instance.now in
    let fits : mask_of t < 2 ^ 8 = omega (arith, c.mask-mask.ensures.value, c.mask-mask.type_inv) in
    whole_above c.args.self.now.event.now.objects.now c.args.self.now.event.now.binding.now t c.args.free fits c.requires.below c.requires.free
    (λ p o one at.
    let both = bit_at_and (mask_of t) c.args.free p in
    let none = ap (λ (n : ℕ). bit_at n p) c.if-free-eq0.true ∙ bit_at-zero p in
    absurd (omega (arith, both, none, one)))

pub returns : goal.returns
returns g c = λ yes.
    let t = c.args.instance.now in
    let fits : mask_of t < 2 ^ 8 = omega (arith, c.mask-mask.ensures.value, c.mask-mask.type_inv) in
    whole_above c.args.self.now.event.now.objects.now c.args.self.now.event.now.binding.now t c.args.free fits c.requires.below c.requires.free
    (λ p o one at. c.binds_dead.ensures (not-true c.binds_dead.result yes) p o (ap (λ (n : ℕ). bit_at (bit_and n c.args.free) p) c.mask-mask.ensures.value ∙ one) at)
