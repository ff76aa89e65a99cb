use Rattle.jm_script.proofs.CatalogLemmas.{length-entries_of}
use Rattle.jm_script.proofs.catalog.Catalog.len.Goals as goal

pub returns-clause-value : goal.returns-clause-value
returns-clause-value c = rw (← c.self.view_is, length-entries_of _ _ c.self.invariant.0) c.len.ensures.value
