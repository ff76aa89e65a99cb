use Rattle.std.proofs.Common.{refl, ◌∙◌}
use Rattle.std.proofs.lemmas.Bool.{false≢true}
use Rattle.jm_store.proofs.VisitLemmas.{settled_monitor}
use Rattle.jm_store.proofs.FitLemmas.{are_paired}
use Rattle.jm_store.proofs.PlacingLemmas.{placed_same, placed_already}
use Rattle.jm_store.proofs.store.Store.open_plan.Goals as goal

pub place_all-requires-clause-settled : goal.place_all-requires-clause-settled
place_all-requires-clause-settled g c =
    let closed = rw (← c.self.view_is) at c.requires.closed in
    settled_monitor _ _ c.self.invariant.housed (c.self.invariant.settled closed)

pub invariant_of-self-in-Err-1 : goal.invariant_of-self-in-Err-1
invariant_of-self-in-Err-1 g c =
    let filled = rw (← c.self-in-Err.view_is) at c.take_back.ensures.filled in
    record {
      housed = c.self-in-Err.invariant.housed;
      domains = c.self-in-Err.invariant.domains;
      settled = λ e pair there. let full = filled pair there in (full.0, full.1);
      room = λ e. absurd (false≢true e);
    }

pub returns-in-Ok-clause-placed : goal.returns-in-Ok-clause-placed
returns-in-Ok-clause-placed g c = rw (← c.self.view_is) (placed_same _ _ _ c.args.moves.items c.args.moves.items _ refl refl c.in-Ok.ensures.placed)

pub returns-in-Err-clause-fits : goal.returns-in-Err-clause-fits
returns-in-Err-clause-fits g c =
    let back = rw (← c.self-in-Err.view_is) at c.take_back.ensures.fits in
    rw (← c.self.view_is) (λ dead fits within. back dead (c.in-Err.ensures.fits dead fits within))

pub returns-in-Ok-clause-housed : goal.returns-in-Ok-clause-housed
returns-in-Ok-clause-housed g c = rw (← c.self-in-Ok.view_is) (are_paired _ _ _ c.self-in-Ok.inside.index _ c.self-in-Ok.invariant.housed)

pub returns-then-have_slots-clause-placed : goal.returns-then-have_slots-clause-placed
returns-then-have_slots-clause-placed g c =
    let closed = rw (← c.self.view_is) at c.requires.closed in
    let leads = rw (← c.self.view_is) at c.requires.ready.leads in
    let slotted = rw c.deref.ensures.value at (c.have_slots.ensures c.if-have_slots.true) in
    rw (← c.self.view_is)
    (placed_same _ _ _ c.args.moves.items c.args.moves.items _ refl refl
    (placed_already _ c.args.moves.items c.requires.ready.apart leads (settled_monitor _ _ c.self.invariant.housed (c.self.invariant.settled closed)) slotted))

pub returns-then-have_slots-clause-housed : goal.returns-then-have_slots-clause-housed
returns-then-have_slots-clause-housed g c = are_paired _ _ _ c.self.inside.index _ c.self.invariant.housed

pub returns-in-Ok-clause-fits : goal.returns-in-Ok-clause-fits
returns-in-Ok-clause-fits g c = rw (← c.self.view_is) (λ dead fits within. c.in-Ok.ensures.fits dead fits within)

pub place_all-requires-clause-ready : goal.place_all-requires-clause-ready
place_all-requires-clause-ready g c =
    let leads = rw (← c.self.view_is) at c.requires.ready.leads in
    record { apart = c.requires.ready.apart; leads = leads }

pub take_back-requires-clause-pending : goal.take_back-requires-clause-pending
take_back-requires-clause-pending g c = rw c.deref-in-Err.ensures.value c.in-Err.ensures.pending

pub returns-in-Err-clause-kept : goal.returns-in-Err-clause-kept
returns-in-Err-clause-kept g c =
    let back = rw (← c.self-in-Err.view_is) at c.take_back.ensures.kept in
    let there = c.in-Err.ensures.kept in
    rw (← c.self.view_is)
    (record {
      stored = back.stored ∙ there.stored;
      monitors = λ k. back.monitors k ∙ there.monitors k;
      marks = back.marks ∙ there.marks ∙ c.reserve.ensures.list;
      ending = back.ending ∙ there.ending;
    })

pub returns-in-Ok-clause-kept : goal.returns-in-Ok-clause-kept
returns-in-Ok-clause-kept g c =
    let there = c.in-Ok.ensures.kept in
    rw (← c.self.view_is) (record { stored = there.stored; monitors = there.monitors; marks = there.marks ∙ c.reserve.ensures.list; ending = there.ending })
