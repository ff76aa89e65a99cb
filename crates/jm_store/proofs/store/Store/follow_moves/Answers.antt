use Rattle.jm_store.proofs.ListedLemmas.{for_plan}
use Rattle.jm_store.proofs.store.Store.follow_moves.Goals as goal

pub returns : goal.returns
returns g c = λ rules dead.
    let placed = rw (← c.self.view_is) at c.requires.leads in
    c.follow_all.ensures rules dead c.args.self.now.monitors c.requires.apart
    (λ move has. rw (← c.self.view_is) (for_plan _ _ move c.self.invariant.housed (λ k slot. placed move k has slot)))
