use Rattle.std.proofs.Common.{ℕ, ◌↔◌, Contains}
use Rattle.jm_coenable.specs.Searches.{IsStart}
use Rattle.jm_coenable.proofs.start.start_masks.Given as goal

abbrev pub invariant-loop-letter : goal.invariant-loop-letter
invariant-loop-letter l = (mask : ℕ) → Contains l.start mask ↔ IsStart l.table l.goal l.events l.needed l.letter mask
