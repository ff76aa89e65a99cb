use Rattle.jm_script.proofs.CatalogLemmas.{names-entries_of, length-entries_of}
use Rattle.jm_script.proofs.catalog.Catalog.find.Goals as goal

pub returns-in-Some-clause-value : goal.returns-in-Some-clause-value
returns-in-Some-clause-value c = rw (← c.self.view_is, names-entries_of _ _ c.self.invariant.0) c.in-Some.ensures.value

pub returns-in-Some-clause-within : goal.returns-in-Some-clause-within
returns-in-Some-clause-within c = rw (← c.self.view_is, length-entries_of _ _ c.self.invariant.0) c.in-Some.ensures.within

pub returns-in-None-clause-value : goal.returns-in-None-clause-value
returns-in-None-clause-value c = rw (← c.self.view_is, names-entries_of _ _ c.self.invariant.0) c.in-None.ensures.value
