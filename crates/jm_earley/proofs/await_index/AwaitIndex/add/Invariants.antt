use Rattle.std.proofs.Common.{ℕ, ◌≡◌, ◌+◌, ◌-◌, [], get_or, map, length}
use Rattle.jm_earley.proofs.await_index.AwaitIndex.add.Given as goal

abbrev pub invariant-lists : goal.invariant-lists
invariant-lists l = (m : ℕ) → get_or (map (λ b. b.items) l.self-inside.lists.items) m [] ≡ get_or (map (λ b. b.items) l.initial.self-inside.lists.items) m []

abbrev pub decreases-lists : goal.decreases-lists
decreases-lists l = l.n + 1 - length l.self-inside.lists.items
