use Rattle.std.proofs.Common.{◌∙◌}
use Rattle.std.proofs.lemmas.Result.{err_from_is_err_and}
use Rattle.jm_monitors.proofs.BaseLemmas.{object-among}
use Rattle.jm_store.proofs.PlanLemmas.{plans_untouched}
use Rattle.jm_store.proofs.store.Store.plan_as.Goals as goal

pub reach-reached-requires-clause-live : goal.reach-reached-requires-clause-live
reach-reached-requires-clause-live g c = λ o binds. c.requires.can.event.live o (object-among _ binds.0 o binds.1)

pub reach-reached-requires-clause-known : goal.reach-reached-requires-clause-known
reach-reached-requires-clause-known g c = rw (← c.take_moves-moves.ensures.unchanged, ← c.take_slots-slots.ensures, ← c.self.view_is) at c.requires.known

pub returns-in_err-moves-clause-plans : goal.returns-in_err-moves-clause-plans
returns-in_err-moves-clause-plans g c =
    let same = c.give_slots.ensures ∙ c.take_slots-slots.ensures ∙ c.take_moves-moves.ensures.unchanged in
    let failed = err_from_is_err_and c.from_residual.result c.from_residual.ensures.1 in
    rw (same, failed.1) (plans_untouched _ _ _ _ _ _ _ c.requires.can)
