use Rattle.std.proofs.Common.{arith}
use Rattle.jm_script.proofs.CatalogLemmas.{length-entries_of, name-entries_of}
use Rattle.jm_script.proofs.catalog.Catalog.name.Goals as goal

pub name-requires : goal.name-requires
name-requires c = omega (arith, length-entries_of c.self.inside.names c.self.inside.tables.items c.self.invariant.0, rw (← c.self.view_is) at c.requires)

pub returns : goal.returns
returns c = rw (← c.self.view_is) (name-entries_of _ _ c.args.spec c.name.result.now c.self.invariant.0 c.name.ensures)
