use Rattle.std.proofs.Common.{◌≡◌, ◌≤◌, ◌++◌, length, drop, map}
use Rattle.jm_script.specs.Objects.{mentioned}
use Rattle.jm_script.proofs.objects.new_names.Given as goal

abbrev pub invariant-loop-object : goal.invariant-loop-object
invariant-loop-object l = record {
  few : length l.new ≤ l.object-index;
  left : mentioned (l.names ++ l.new) (drop l.object-index (map (λ w. w.now) l.objects)) ≡ mentioned l.names (map (λ w. w.now) l.objects);
}
