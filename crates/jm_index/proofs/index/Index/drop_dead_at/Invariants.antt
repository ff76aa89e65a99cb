use Rattle.std.proofs.Common.{◌≡◌, ℕ, ◌/◌, ◌%◌, ◌⊎◌, true}
use Rattle.std.specs.Int.{bit_at}
use Rattle.jm_index.specs.Index.{flag_of, IsKey, IsKeyed}
use Rattle.jm_index.proofs.index.Index.drop_dead_at.Given as goal

abbrev pub invariant-loop-left : goal.invariant-loop-left
invariant-loop-left l = record {
  list : l.self.list ≡ l.fn.self.list;
  gone : (o : ℕ) → o / 64 ≡ l.fn.index → bit_at l.left (o % 64) ≡ 0 → flag_of l.objects o ≡ true → IsKey l.self o → ⊥;
  fewer : (o : ℕ) → IsKey l.self o → IsKey l.fn.self o;
  keyed : IsKeyed l.self;
  only : (o : ℕ) → flag_of l.self.dropped o ≡ true → (flag_of l.fn.self.dropped o ≡ true) ⊎ (flag_of l.objects o ≡ true);
}

abbrev pub decreases-loop-left : goal.decreases-loop-left
decreases-loop-left l = l.left
