use Rattle.std.proofs.Common.{ℕ, ◌≡◌, ◌<◌, ◌↔◌, ◌⊎◌, Contains, bit_or}
use Rattle.jm_coenable.proofs.mask_set.MaskSet.insert_joined.Given as goal

abbrev pub invariant-loop-number : goal.invariant-loop-number
invariant-loop-number l =
    (mask : ℕ) → Contains l.self mask ↔ (Contains l.initial.self mask ⊎ ((rest : ℕ) × (rest < l.number) × Contains l.rests rest × (mask ≡ bit_or l.params rest)))
