use Rattle.std.proofs.Common.{take}
use Rattle.jm_store.proofs.ShiftedLemmas.{AreEndsOf}
use Rattle.jm_store.proofs.store.Store.ends_above.Given as goal

abbrev pub invariant-loop-domain : goal.invariant-loop-domain
invariant-loop-domain g l = AreEndsOf l.binding l.self.ending l.domain-items l.letters (take l.domain-index l.domain-items)
