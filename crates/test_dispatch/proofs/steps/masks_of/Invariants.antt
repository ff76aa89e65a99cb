use Rattle.std.specs.Prelude.{◌≡◌, ℕ, ◌<◌, length, slice_index}
use Rattle.test_dispatch.proofs.steps.masks_of.Given as goal

abbrev pub invariant-loop-e : goal.invariant-loop-e
invariant-loop-e g l = (length l.masks ≡ 32) × ((e : ℕ) → e < l.e → slice_index l.masks e ≡ (g.M.Monitor.meaning (g.M.Monitor.definition l.rules)).params e)
