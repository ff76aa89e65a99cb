use Rattle.std.proofs.Common.{List, refl, ap, subst}
use Rattle.std.specs.Prelude.{Contains}
use Rattle.std.proofs.lemmas.Bool.{both_ways}
use Rattle.jm_index.specs.Index.{Pair}
use Rattle.jm_store.specs.Slots.{monitor_in}
use Rattle.jm_store.proofs.SlotLemmas.{stored_in-planned}
use Rattle.jm_store.proofs.HousingLemmas.{from_without, emptied_monitors}
use Rattle.jm_store.proofs.KeptLemmas.{kept_taken_back, filled_unplanned}
use Rattle.jm_store.proofs.store.Store.free.Goals as goal

pub invariant_of-self : goal.invariant_of-self
invariant_of-self g c =
    let to = rw (← c.self.view_is) at c.requires.paired in
    let of = rw (← c.self.view_is) at c.requires.bound in
    let open_now = rw (← c.self.view_is) at c.requires.open in
    rw (c.release.ensures, c.remove.ensures.list) (kept_taken_back _ _ _ _ _ c.args.slot _ c.args.instance.now open_now c.self.invariant to of)

pub returns-then-is_planned-clause-within : goal.returns-then-is_planned-clause-within
returns-then-is_planned-clause-within g c =
    rw (← c.self.view_is, c.remove.ensures.list) (from_without c.args.instance.now c.self.inside.index.list)

pub returns-then-is_planned-clause-gone : goal.returns-then-is_planned-clause-gone
returns-then-is_planned-clause-gone g c =
    let to = rw (← c.self.view_is) at c.requires.paired in
    λ pair within same. absurd (c.remove.ensures.absent pair within (to pair (from_without c.args.instance.now c.self.inside.index.list pair (subst (λ (l : List Pair). Contains l pair) c.remove.ensures.list within)) same))

pub returns-else-is_planned-clause-gone : goal.returns-else-is_planned-clause-gone
returns-else-is_planned-clause-gone g c =
    rw (← c.self.view_is) (λ pair within same. filled_unplanned _ _ c.args.slot c.self.invariant.housed pair within same (λ planned. both_ways c.is_planned.result c.if-is_planned.false (c.is_planned.ensures.1 planned)))

pub returns-then-is_planned-clause-fits : goal.returns-then-is_planned-clause-fits
returns-then-is_planned-clause-fits g c = rw (← c.self.view_is) c.remove.ensures.fits

pub returns-then-is_planned-clause-kept : goal.returns-then-is_planned-clause-kept
returns-then-is_planned-clause-kept g c =
    let planned = ap monitor_in (c.is_planned.ensures.0 c.if-is_planned.true) in
    rw (← c.self.view_is, c.release.ensures)
    (record {
      stored = stored_in-planned c.self.inside.monitors.slots c.args.slot _ refl planned;
      monitors = emptied_monitors c.self.inside.monitors.slots c.args.slot _ planned;
      marks = refl;
      ending = refl;
    })
