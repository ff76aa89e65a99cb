use Rattle.std.proofs.Common.{◌≡◌, ℕ, ◌-◌, ◌+◌, vec_len}
use Rattle.jm_index.specs.Keys.{position_plus_one_at}
use Rattle.jm_index.proofs.rows.Rows.cover.Given as goal

abbrev pub invariant-loop-alloc : goal.invariant-loop-alloc
invariant-loop-alloc l = (m o : ℕ) → position_plus_one_at l.self-inside.rows.items m o ≡ position_plus_one_at l.initial.self-inside.rows.items m o

abbrev pub decreases-loop-alloc : goal.decreases-loop-alloc
decreases-loop-alloc l = l.mask + 1 - vec_len l.self-inside.rows
