use Rattle.jm_model.proofs.LayoutLemmas.{mask_bits-view, stored_of-view}
use Rattle.jm_model.proofs.binding.BindingHash.hash.Goals as goal

pub returns : goal.returns
returns g c =
    rw (
      mask_bits-view _ _ _ c.t1-1.view_is c.t1-1.invariant,
      stored_of-view _ _ _ c.t1-1.view_is c.t1-1.invariant,
      c.hash-2.ensures,
      c.hash.ensures,
    )
