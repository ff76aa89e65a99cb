use Rattle.std.proofs.Common.{◌≡◌, ◌+◌, ◌≤◌, ◌++◌, drop, vec_len, vec_capacity}
use Rattle.jm_model.specs.Bindings.{objects_of, mask_of}
use Rattle.jm_history.proofs.row.add_objects.Given as goal

abbrev pub invariant-loop-rest : goal.invariant-loop-rest
invariant-loop-rest l = record {
  so_far : l.objects.items ++ objects_of (drop l.p l.binding) ≡ l.initial.objects.items ++ objects_of l.binding;
  left : l.rest ≡ mask_of (drop l.p l.binding);
  capacity : vec_capacity l.objects ≡ vec_capacity l.initial.objects;
  room : vec_len l.objects ≤ vec_len l.initial.objects + l.p;
  within : l.p ≤ 8;
}

abbrev pub decreases-loop-rest : goal.decreases-loop-rest
decreases-loop-rest l = l.rest
