use Rattle.std.proofs.Common.{ℕ, ◌≡◌, true, ◌↔◌, take}
use Rattle.std.specs.Prelude.{IsBitSet, IsSomeAnd, slice_get, slice_range}
use Rattle.jm_machine.specs.Handlers.{has_reset}
use Rattle.jm_machine.proofs.handlers.resets_of.Given as goal

abbrev pub invariant-loop-place : goal.invariant-loop-place
invariant-loop-place l =
    (k : ℕ) → IsBitSet l.resets k ↔ IsSomeAnd (slice_get (take l.place l.handlers) k) (λ h. has_reset l.bytes (slice_range l.tokens h.first h.last) ≡ true)
