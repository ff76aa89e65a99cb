use Rattle.std.proofs.Common.{◌≡◌}
use Rattle.std.specs.Prelude.{All}
use Rattle.test_sync.proofs.scenes.items.Given as goal

-- each item so far has the name
abbrev pub invariant-loop-value : goal.invariant-loop-value
invariant-loop-value l = All (λ item. item.name ≡ l.name) l.items.items
