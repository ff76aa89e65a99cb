use Rattle.std.proofs.Common.{◌<◌, length, Some, sym, ap, ◌∙◌, arith}
use Rattle.jm_events.specs.Events.{EventDefinitions}
use Rattle.jm_script.proofs.CatalogLemmas.{length-entries_of, table-entries_of}
use Rattle.jm_script.proofs.catalog.Catalog.table.Goals as goal

pub index-requires : goal.index-requires
index-requires c = omega (arith, length-entries_of c.self.inside.names c.self.inside.tables.items c.self.invariant.0, rw (← c.self.view_is) at c.requires)

pub returns : goal.returns
returns c =
    let lt : c.args.spec < length c.self.inside.names = omega (arith, length-entries_of c.self.inside.names c.self.inside.tables.items c.self.invariant.0, rw (← c.self.view_is) at c.requires) in
    rw (← c.self.view_is) (table-entries_of _ _ c.args.spec c.index.result.now c.self.invariant.0 lt ∙ ap (λ (t : EventDefinitions). Some t) (sym c.index.ensures))
