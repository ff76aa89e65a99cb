use Rattle.std.proofs.Common.{◌≡◌, ℕ, ◌-◌, ◌+◌, ◌≤◌, length}
use Rattle.jm_index.specs.Index.{flag_of}
use Rattle.jm_index.proofs.flags.Flags.cover_object.Given as goal

abbrev pub invariant-loop-self : goal.invariant-loop-self
invariant-loop-self l = record {
  same : (o : ℕ) → flag_of l.self o ≡ flag_of l.initial.self o;
  longer : length l.initial.self ≤ length l.self;
}

abbrev pub decreases-loop-self : goal.decreases-loop-self
decreases-loop-self l = l.object + 1 - length l.self
