use Rattle.std.proofs.Common.{◌≡◌, ◌/◌, ◌^◌}
use Rattle.jm_model.specs.Bindings.{binding_cmp}
use Rattle.jm_model.specs.Layout.{options_of}
use Rattle.jm_model.proofs.LayoutLemmas.{options_from}
use Rattle.jm_model.proofs.binding.Binding.cmp.Given as goal

abbrev pub invariant-loop-p : goal.invariant-loop-p
invariant-loop-p l = record {
  mine : l.mine ≡ l.self-inside.mask / 2 ^ l.p;
  theirs : l.theirs ≡ l.other-inside.mask / 2 ^ l.p;
  same : binding_cmp (options_from l.self-inside.mask l.p l.self-inside.objects) (options_from l.other-inside.mask l.p l.other-inside.objects) ≡ binding_cmp (options_of l.self-inside.mask l.self-inside.objects) (options_of l.other-inside.mask l.other-inside.objects);
}
