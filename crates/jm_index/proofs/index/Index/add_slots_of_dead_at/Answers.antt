use Rattle.std.proofs.Common.{ℕ, ◌≡◌, ◌<◌, ◌*◌, ◌+◌, ◌%◌, ◌^◌, ap, ◌∙◌, inl, inr, rules, arith}
use Rattle.std.specs.Int.{w64, bit_at, trailing_zeros}
use Rattle.std.proofs.lemmas.Nat.Bits.{bit_at-zero}
use Rattle.jm_objects.proofs.WordLemmas.{first_left, fewer_left, unset_left}
use Rattle.jm_index.proofs.index.Index.add_slots_of_dead_at.Goals as goal

pub overflow_mul-index : goal.overflow_mul-index
overflow_mul-index c =
    let few : 64 * c.args.index < 2 ^ 32 = omega (arith, c.requires, c.len-len.ensures, c.len-len.type_inv) in
    search (rules, few)

pub overflow_add-index : goal.overflow_add-index
overflow_add-index c =
    let (low, one) = first_left c.loop-left.left c.loop-left-test.true (omega (arith, c.loop-left.auto.left-fits)) in
    let few : 64 * c.args.index + trailing_zeros w64 c.loop-left.left < 2 ^ 32 = omega (arith, c.requires, c.len-len.ensures, c.len-len.type_inv, low) in
    search (rules, few)

pub loop-left-smaller : goal.loop-left-smaller
loop-left-smaller c =
    let (low, one) = first_left c.loop-left.left c.loop-left-test.true (omega (arith, c.loop-left.auto.left-fits)) in
    fewer_left _ _ low one

pub loop-left-preserved : goal.loop-left-preserved
loop-left-preserved c =
    let inv = c.loop-left.invariant in
    let added = c.in_ok-add_slots_of.ensures in
    let t = trailing_zeros w64 c.loop-left.left in
    let (low, one) = first_left c.loop-left.left c.loop-left-test.true (omega (arith, c.loop-left.auto.left-fits)) in
    record {
      kept = λ k there. added.kept k (inv.kept k there);
      all = λ pair o there binds (at, unset, died). elim (unset_left c.loop-left.left t (o % 64) low (omega arith) unset) [
        | inl before ↦ added.kept pair.slot (inv.all pair o there binds (at, before, died))
        | inr is ↦ let same : o ≡ 64 * c.args.index + t = omega (arith, at, is) in added.all pair o there binds (same, died.1)
      ];
      room = added.room ∙ inv.room;
    }

pub returns-clause-all : goal.returns-clause-all
returns-clause-all c = λ pair o there binds (at, died).
    let none : c.loop-left.left ≡ 0 = omega (arith, c.loop-left-test.false) in
    c.loop-left.invariant.all pair o there binds (at, ap (λ (w : ℕ). bit_at w (o % 64)) none ∙ bit_at-zero (o % 64), died)
