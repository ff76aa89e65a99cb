use Rattle.std.proofs.Common.{◌≡◌, ◌<◌, ◌^◌, length, drop}
use Rattle.jm_spec.specs.Faults.{with_names}
use Rattle.jm_spec.proofs.tree.mask_of.Given as goal

abbrev pub invariant-loop-name : goal.invariant-loop-name
invariant-loop-name l = record {
  value : with_names l.bytes l.table l.mask (drop l.name-index l.names) ≡ with_names l.bytes l.table 0 l.names;
  fits : l.mask < 2 ^ length l.table.parameters;
}
