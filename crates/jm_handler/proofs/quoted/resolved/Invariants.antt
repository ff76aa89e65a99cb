use Rattle.std.proofs.Common.{◌≡◌, ◌≤◌, ◌-◌, ◌++◌, length, drop}
use Rattle.jm_handler.specs.Terms.{resolved}
use Rattle.jm_handler.proofs.quoted.resolved.Given as goal

abbrev pub invariant-loop-start : goal.invariant-loop-start
invariant-loop-start l = record { within : l.start ≤ length l.bytes; so_far : l.text ++ resolved (drop l.start l.bytes) ≡ resolved l.bytes }

abbrev pub decreases-loop-start : goal.decreases-loop-start
decreases-loop-start l = length l.bytes - l.start
