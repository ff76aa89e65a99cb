use Rattle.std.specs.Prelude.{◌≡◌, ◌≤◌, ℕ, Some, length, slice_get, vec_len}
use Rattle.jm_runner.specs.Hands.{IsClosed}
use Rattle.jm_runner.proofs.closing.close_all.Given as goal

abbrev pub invariant-loop-watch : goal.invariant-loop-watch
invariant-loop-watch g l = record {
  place : l.s ≡ length l.yielded;
  count : vec_len l.props ≡ length l.yielded;
  width : vec_len l.seats ≡ vec_len l.fn.seats;
  others : (k : ℕ) → l.s ≤ k → slice_get l.seats.items k ≡ slice_get l.fn.seats.items k;
  closed : (k : ℕ) (watch : _) (all : _) (prop : _) → slice_get l.yielded k ≡ Some watch → slice_get l.fn.seats.items k ≡ Some all → slice_get l.props.items k ≡ Some prop
      → IsClosed (g.M.Monitor.meaning watch.fixed.definition) watch all.items prop;
}
