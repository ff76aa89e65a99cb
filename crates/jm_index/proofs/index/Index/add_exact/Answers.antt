use Rattle.std.proofs.Common.{◌<◌, length, sym, arith}
use Rattle.std.proofs.lemmas.Grind.{common_steps}
use Rattle.jm_index.proofs.AskLemmas.{position_within, exact_slot, no_slots}
use Rattle.jm_index.proofs.IndexLemmas.{list_distinct}
use Rattle.jm_index.proofs.index.Index.add_exact.Goals as goal

pub index-requires : goal.index-requires
index-requires c =
    let there : c.in-Some.position < length c.self.inside.entries.items = position_within _ _ _ _ _ _ c.self.invariant (sym c.in-Some.ensures) in
    grind (arith, common_steps)

pub returns-in_ok-push-in-Some-clause-slots : goal.returns-in_ok-push-in-Some-clause-slots
returns-in_ok-push-in-Some-clause-slots c =
    rw (← c.self.view_is, c.in_ok-push-in-Some.ensures.items, c.requires.none, c.number.ensures)
    (exact_slot _ _ _ _ _ _ _ _ _ c.self.invariant c.requires.common c.requires.all (sym c.in-Some.ensures) c.index.ensures)

pub returns-in_err-push-in-Some-clause-distinct : goal.returns-in_err-push-in-Some-clause-distinct
returns-in_err-push-in-Some-clause-distinct c = rw (← c.self.view_is) (list_distinct _ _ _ _ c.self.invariant)

pub returns-in_ok-push-in-Some-clause-distinct : goal.returns-in_ok-push-in-Some-clause-distinct
returns-in_ok-push-in-Some-clause-distinct c = rw (← c.self.view_is) (list_distinct _ _ _ _ c.self.invariant)

pub returns-in-None-clause-slots : goal.returns-in-None-clause-slots
returns-in-None-clause-slots c =
    rw (← c.self.view_is, c.requires.none)
    (no_slots _ _ _ _ _ _ _ c.self.invariant c.requires.common c.requires.all (sym c.in-None.ensures))

pub returns-in-None-clause-distinct : goal.returns-in-None-clause-distinct
returns-in-None-clause-distinct c = rw (← c.self.view_is) (list_distinct _ _ _ _ c.self.invariant)
