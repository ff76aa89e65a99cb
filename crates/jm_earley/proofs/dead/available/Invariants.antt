use Rattle.std.proofs.Common.{ℕ, ◌≡◌, ◌<◌, ◌↔◌, bit_and}
use Rattle.std.specs.Prelude.{IsBitSet, slice_index}
use Rattle.jm_earley.proofs.dead.available.Given as goal

abbrev pub invariant-loop-letter : goal.invariant-loop-letter
invariant-loop-letter l = (k : ℕ) → IsBitSet l.letters k ↔ ((k < l.letter) × (bit_and (slice_index l.params k) l.dead ≡ 0))
