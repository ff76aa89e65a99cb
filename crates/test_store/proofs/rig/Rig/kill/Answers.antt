use Rattle.std.proofs.Common.{Bool, List, sym, subst}
use Rattle.jm_store.specs.Contents.{IsFitFor}
use Rattle.jm_store.proofs.StoreLemmas.{fit_for_after_death}
use Rattle.test_store.proofs.rig.Rig.kill.Goals as goal

pub invariant_of-self : goal.invariant_of-self
invariant_of-self g c =
    let before = c.self.inside in
    let m = g.M.Monitor.meaning (g.M.Monitor.definition before.rules.now) in
    let Stands = g.M.Monitor.StandsFor before.rules.now in
    record {
      closed = c.self.invariant.closed;
      fits = subst (λ (dead : List Bool). IsFitFor m Stands before.store dead) (sym c.kill.ensures.dead)
          (fit_for_after_death m Stands before.store before.objects _ c.self.invariant.fits);
    }
