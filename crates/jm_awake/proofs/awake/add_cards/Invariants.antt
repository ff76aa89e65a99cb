use Rattle.std.proofs.Common.{◌≡◌, ℕ, ◌+◌, ◌-◌, ◌≤◌, length}
use Rattle.std.specs.Prelude.{slice_index_or}
use Rattle.jm_awake.specs.Awake.{fresh}
use Rattle.jm_awake.proofs.awake.add_cards.Given as goal

abbrev pub invariant-loop-cards : goal.invariant-loop-cards
invariant-loop-cards l = record {
  same : (k : ℕ) → slice_index_or l.cards.items k fresh ≡ slice_index_or l.initial.cards.items k fresh;
  size : length l.initial.cards.items ≤ length l.cards.items;
}

abbrev pub decreases-loop-cards : goal.decreases-loop-cards
decreases-loop-cards l = l.slot + 1 - length l.cards.items
