use Rattle.std.proofs.Common.{◌≡◌, ℕ, ◌<◌, ◌≤◌, ◌-◌, length, Some}
use Rattle.jm_model.specs.Bindings.{object_at}
use Rattle.jm_index.specs.Index.{flag_of}
use Rattle.jm_index.proofs.flags.Flags.cover.Given as goal

abbrev pub invariant-loop-bound : goal.invariant-loop-bound
invariant-loop-bound l = record {
  within : l.from ≤ 8;
  same : (o : ℕ) → flag_of l.self o ≡ flag_of l.initial.self o;
  longer : length l.initial.self ≤ length l.self;
  there : (p o : ℕ) → p < l.from → object_at l.binding p ≡ Some o → o < length l.self;
}

abbrev pub decreases-loop-bound : goal.decreases-loop-bound
decreases-loop-bound l = 8 - l.from
