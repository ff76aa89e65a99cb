use Rattle.jm_model.proofs.LayoutLemmas.{mask_bits-view, stored_of-view}
use Rattle.jm_model.proofs.binding.BindingPartialEq.eq.Goals as goal

pub returns : goal.returns
returns c =
    rw (
      mask_bits-view _ _ _ c.t1-1.view_is c.t1-1.invariant,
      mask_bits-view _ _ _ c.t2-1.view_is c.t2-1.invariant,
      stored_of-view _ _ _ c.t1-1.view_is c.t1-1.invariant,
      stored_of-view _ _ _ c.t2-1.view_is c.t2-1.invariant,
      c.and_eq.ensures,
      c.eq.ensures,
    )
