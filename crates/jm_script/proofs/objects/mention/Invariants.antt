use Rattle.std.proofs.Common.{◌≡◌, ◌≤◌, ◌+◌, ◌++◌, length, drop, take, map}
use Rattle.jm_script.specs.Objects.{mentioned, numbers_of, IsExtension}
use Rattle.jm_script.proofs.objects.mention.Given as goal

abbrev pub invariant-loop-i : goal.invariant-loop-i
invariant-loop-i l = record {
  few : length l.names ≤ 65536 + l.i;
  eight : length l.numbers ≡ 8;
  extended : IsExtension l.fn.names l.names;
  left : mentioned l.names (drop l.i (map (λ w. w.now) l.objects)) ≡ mentioned l.fn.names (map (λ w. w.now) l.objects);
  numbered : take l.i l.numbers ++ numbers_of l.names (drop l.i (map (λ w. w.now) l.objects)) ≡ numbers_of l.fn.names (map (λ w. w.now) l.objects);
}
