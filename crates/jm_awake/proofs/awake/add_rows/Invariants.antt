use Rattle.std.proofs.Common.{◌≡◌, ◌+◌, ◌-◌, length, map}
use Rattle.std.specs.Prelude.{ℕ}
use Rattle.jm_awake.specs.Awake.{number_at}
use Rattle.jm_awake.proofs.awake.add_rows.Given as goal

abbrev pub invariant-loop-alloc : goal.invariant-loop-alloc
invariant-loop-alloc l = (e p : ℕ) → number_at (map (λ r. r.items) l.rows.items) e p ≡ number_at (map (λ r. r.items) l.initial.rows.items) e p

abbrev pub decreases-loop-alloc : goal.decreases-loop-alloc
decreases-loop-alloc l = l.letter + 1 - length l.rows.items
