use Rattle.std.proofs.Common.{ℕ, ◌<◌, ◌≤◌, ◌+◌}
use Rattle.jm_coenable.specs.Rounds.{IsPart, AreNeeded, IsClosedState}
use Rattle.jm_coenable.proofs.needed.go_back.Given as goal

abbrev pub invariant-loop-done : goal.invariant-loop-done
invariant-loop-done l =
    IsPart (AreNeeded l.table l.goal l.events)
    (λ sets. (state : ℕ) → state < l.table.states → l.table.states ≤ state + l.done → IsClosedState l.table l.goal l.events state sets) l.initial.needed.items l.needed.items l.changed
