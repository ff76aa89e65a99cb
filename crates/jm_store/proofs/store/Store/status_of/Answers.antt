use Rattle.jm_store.proofs.store.Store.status_of.Goals as goal

pub returns-then-contains : goal.returns-then-contains
returns-then-contains g c = rw (← c.self.view_is) (rw c.if-contains.true at c.contains.ensures)

pub returns-else-contains : goal.returns-else-contains
returns-else-contains g c = rw (← c.self.view_is) (rw c.if-contains.false at c.contains.ensures)
