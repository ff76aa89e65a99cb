use Rattle.std.proofs.Common.{◌≡◌, ℕ, ◌<◌, ◌≤◌, ◌*◌, ◌/◌, ◌⊎◌, true}
use Rattle.jm_index.specs.Index.{flag_of, IsKey, IsKeyed}
use Rattle.jm_index.proofs.index.Index.drop_dead_in.Given as goal

abbrev pub invariant-loop-index : goal.invariant-loop-index
invariant-loop-index l = record {
  list : l.self.list ≡ l.fn.self.list;
  gone : (o : ℕ) → (64 * l.fn.block ≤ o / 64) × (o / 64 < l.index) → flag_of l.objects o ≡ true → IsKey l.self o → ⊥;
  fewer : (o : ℕ) → IsKey l.self o → IsKey l.fn.self o;
  keyed : IsKeyed l.self;
  only : (o : ℕ) → flag_of l.self.dropped o ≡ true → (flag_of l.fn.self.dropped o ≡ true) ⊎ (flag_of l.objects o ≡ true);
}
