use Rattle.jm_events.specs.Texts.{texts_from}
use Rattle.jm_events.proofs.NameLemmas.{names_say}
use Rattle.jm_events.proofs.names.Names.find_hashed.Goals as goal

pub returns-clause-at : goal.returns-clause-at
returns-clause-at c =
    let found = rw (c.as_slice.ensures.value, c.as_slice-2.ensures.value, c.as_bytes.ensures.value) at c.search.ensures in
    rw (← c.self.view_is)
    (names_say (texts_from 0 c.self.inside.bytes.items c.self.inside.ends.items) c.args.name.now c.search.result c.self.invariant.distinct found).0

pub returns-clause-absent : goal.returns-clause-absent
returns-clause-absent c =
    let found = rw (c.as_slice.ensures.value, c.as_slice-2.ensures.value, c.as_bytes.ensures.value) at c.search.ensures in
    rw (← c.self.view_is)
    (names_say (texts_from 0 c.self.inside.bytes.items c.self.inside.ends.items) c.args.name.now c.search.result c.self.invariant.distinct found).1
