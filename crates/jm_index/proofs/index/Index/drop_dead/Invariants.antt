use Rattle.std.proofs.Common.{◌≡◌, ℕ, ◌<◌, ◌/◌, true}
use Rattle.jm_index.specs.Index.{flag_of, IsKey, IsKeyed}
use Rattle.jm_index.proofs.index.Index.drop_dead.Given as goal

abbrev pub invariant-loop-block : goal.invariant-loop-block
invariant-loop-block l = record {
  list : l.self.list ≡ l.fn.self.list;
  gone : (o : ℕ) → o / 4096 < l.block → flag_of l.objects o ≡ true → IsKey l.self o → ⊥;
  keyed : IsKeyed l.self;
  dead : (o : ℕ) → flag_of l.self.dropped o ≡ true → flag_of l.objects o ≡ true;
}
