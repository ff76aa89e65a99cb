use Rattle.std.proofs.Common.{ℕ, ◌≡◌, ◌<◌, ◌+◌, ◌↔◌}
use Rattle.std.specs.Prelude.{IsBitSet}
use Rattle.jm_machine.proofs.rules.moved.Given as goal

abbrev pub invariant-loop-handler : goal.invariant-loop-handler
invariant-loop-handler l = (k : ℕ) → IsBitSet l.all k ↔ ((i : ℕ) × (i < l.handler) × (k ≡ l.before + i) × IsBitSet l.hits i)
