use Rattle.std.proofs.Common.{ℕ, ◌≡◌, ◌<◌, Contains, bit_and}
use Rattle.jm_coenable.proofs.mask_set.MaskSet.is_alive.Given as goal

abbrev pub invariant-loop-number : goal.invariant-loop-number
invariant-loop-number l = (mask : ℕ) → mask < l.number → Contains l.self mask → bit_and mask l.dead ≡ 0 → ⊥
