use Rattle.std.proofs.Common.{sym}
use Rattle.jm_index.proofs.IndexLemmas.{list_distinct, list_found, list_missing}
use Rattle.jm_index.proofs.index.Index.has.Goals as goal

pub returns-in-Some-clause-yes : goal.returns-in-Some-clause-yes
returns-in-Some-clause-yes c = rw (← c.self.view_is) (λ e. list_found _ _ _ _ _ _ c.self.invariant (sym c.in-Some.ensures))

pub returns-in-None-clause-no : goal.returns-in-None-clause-no
returns-in-None-clause-no c = rw (← c.self.view_is) (λ e. list_missing _ _ _ _ _ c.self.invariant (sym c.in-None.ensures))

pub returns-in-Some-clause-distinct : goal.returns-in-Some-clause-distinct
returns-in-Some-clause-distinct c = rw (← c.self.view_is) (list_distinct _ _ _ _ c.self.invariant)

pub returns-in-None-clause-distinct : goal.returns-in-None-clause-distinct
returns-in-None-clause-distinct c = rw (← c.self.view_is) (list_distinct _ _ _ _ c.self.invariant)
