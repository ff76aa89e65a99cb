use Rattle.jm_model.proofs.BindingLemmas.{IsPlaced}
use Rattle.jm_model.proofs.binding.Binding.of.Given as goal

abbrev pub invariant-loop-p : goal.invariant-loop-p
invariant-loop-p l = IsPlaced l.fn.mask l.objects l.binding l.rest l.next l.p
