use Rattle.std.proofs.Common.{ℕ, ◌≡◌, ◌<◌, ◌↔◌, ◌+◌, bit_and, sym, subst, arith}
use Rattle.std.specs.Prelude.{IsBitSet, slice_index}
use Rattle.jm_earley.proofs.DeadLemmas.{one_more, none_more}
use Rattle.jm_earley.proofs.dead.available.Goals as goal
use Rattle.jm_earley.proofs.dead.available.Goals.{then-mask-dead-eq0, else-mask-dead-eq0}

pub loop-letter-preserved : goal.loop-letter-preserved
loop-letter-preserved c =
    let P : ℕ → Type 0 = λ k. bit_and (slice_index c.args.params.now k) c.args.dead ≡ 0 in
    let Q : ℕ → Type 0 = λ b. (k : ℕ) → IsBitSet b k ↔ ((k < c.loop-letter.letter + 1) × (bit_and (slice_index c.args.params.now k) c.args.dead ≡ 0)) in
    let lt : c.loop-letter.letter < 32 = omega (arith, c.loop-letter-test.true, c.requires) in
    elim c.if-mask-dead-eq0.branch [
      | then-mask-dead-eq0 w ↦ subst Q (sym w.letters-is) (one_more P c.loop-letter.letters c.loop-letter.letter c.loop-letter.invariant lt w.if-mask-dead-eq0.true)
      | else-mask-dead-eq0 w ↦ subst Q (sym w.letters-is) (none_more P c.loop-letter.letters c.loop-letter.letter c.loop-letter.invariant w.if-mask-dead-eq0.false)
    ]
