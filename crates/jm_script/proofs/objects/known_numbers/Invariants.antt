use Rattle.std.proofs.Common.{◌≡◌, ◌++◌, length, drop, take, map}
use Rattle.jm_script.specs.Objects.{mentioned, numbers_of}
use Rattle.jm_script.proofs.objects.known_numbers.Given as goal

abbrev pub invariant-loop-i : goal.invariant-loop-i
invariant-loop-i l = record {
  eight : length l.numbers ≡ 8;
  left : mentioned l.names (drop l.i (map (λ w. w.now) l.objects)) ≡ mentioned l.names (map (λ w. w.now) l.objects);
  numbered : take l.i l.numbers ++ numbers_of l.names (drop l.i (map (λ w. w.now) l.objects)) ≡ numbers_of l.names (map (λ w. w.now) l.objects);
}
