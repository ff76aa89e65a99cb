use Rattle.std.proofs.Common.{◌≡◌, ◌++◌, take}
use Rattle.std.specs.Prelude.{vec_capacity}
use Rattle.jm_script.proofs.block.add_first.Given as goal

abbrev pub invariant-loop-place : goal.invariant-loop-place
invariant-loop-place l = record {
  items : l.objects.items ≡ l.fn.objects.items ++ take l.place l.numbers;
  room : vec_capacity l.objects ≡ vec_capacity l.fn.objects;
}
