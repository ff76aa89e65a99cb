use Rattle.std.proofs.Common.{sym, ◌∙◌, arith}
use Rattle.jm_store.proofs.VisitLemmas.{popped}
use Rattle.jm_store.proofs.store.Store.only_slot_in.Goals as goal

pub returns : goal.returns
returns g c =
    rw (← c.self.view_is) (sym c.in-Ok.ensures.slots ∙ popped _ _ _ c.pop.result c.pop.ensures.items c.pop.ensures.rest (omega (arith, c.len.ensures, c.if-len-gt1.false)))
