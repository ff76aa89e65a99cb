use Rattle.std.proofs.Common.{◌≡◌, ◌≤◌, ◌-◌, length, take}
use Rattle.jm_port.specs.Sinks.{appended}
use Rattle.jm_port.proofs.sink.put_all.Given as goal

abbrev pub decreases-loop-done : goal.decreases-loop-done
decreases-loop-done g l = length l.text - l.done

abbrev pub invariant-loop-done : goal.invariant-loop-done
invariant-loop-done g l = record {
  within : l.done ≤ length l.text;
  written : g.S.Sink.written l.out ≡ appended (g.S.Sink.written l.initial.out) (take l.done l.text);
  counted : g.S.Sink.faults l.initial.out ≤ g.S.Sink.faults l.out;
}
