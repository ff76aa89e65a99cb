use Rattle.std.proofs.Common.{◌≡◌, ℕ, ◌<◌, slice_index, vec_len}
use Rattle.std.specs.Vec.{vec_capacity}
use Rattle.jm_index.proofs.rows.Row.cover.Given as goal

abbrev pub invariant-loop : goal.invariant-loop
invariant-loop l = record {
  same : (o : ℕ) → slice_index l.self-inside.positions_plus_one.items o ≡ slice_index l.initial.self-inside.positions_plus_one.items o;
  long : vec_len l.self-inside.positions_plus_one ≡ l.counter;
  room : l.object < vec_capacity l.self-inside.positions_plus_one;
}
