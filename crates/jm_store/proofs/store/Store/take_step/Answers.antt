use Rattle.std.proofs.Common.{◌≡◌, ℕ, inl, inr, List, [], ◌∷◌, refl, sym, ap, ◌∙◌, subst}
use Rattle.std.specs.Prelude.{Option, Some, None, Contains}
use Rattle.jm_monitors.specs.declared.stored.Stored.{Stored}
use Rattle.jm_store.specs.Moves.{is_marked}
use Rattle.jm_store.specs.Listed.{AreListed}
use Rattle.jm_store.proofs.ListedLemmas.{listed_same, for_slots}
use Rattle.jm_model.specs.declared.binding.Binding.{Binding}
use Rattle.jm_semantics.proofs.ListLemmas.{Contains-head}
use Rattle.jm_monitors.specs.Steps.{AreMarksAfter}
use Rattle.jm_store.specs.Contents.{with_ending, KeepsContents}
use Rattle.std.proofs.lemmas.Bool.{not-false}
use Rattle.jm_store.proofs.VisitLemmas.{settled_monitor}
use Rattle.jm_store.proofs.GivenLemmas.{one_pair}
use Rattle.jm_store.proofs.CommitLemmas.{filled_on, unplanned}
use Rattle.jm_store.proofs.PlanningLemmas.{fit_same}
use Rattle.jm_store.proofs.PlacingLemmas.{placed_same}
use Rattle.jm_store.proofs.DirectLemmas.{in_none}
use Rattle.jm_store.proofs.store.Store.take_step.Goals as goal

pub place_one-requires-clause-settled : goal.place_one-requires-clause-settled
place_one-requires-clause-settled g c =
    let closed = rw (← c.self.view_is) at c.requires.closed in
    rw (c.in_ok-open_for.ensures.opened, ← c.self.view_is) (settled_monitor _ _ c.self.invariant.housed (c.self.invariant.settled closed))

pub place_one-requires-clause-leads : goal.place_one-requires-clause-leads
place_one-requires-clause-leads g c = rw c.in_ok-open_for.ensures.opened c.requires.leads

pub carry_out-requires : goal.carry_out-requires
carry_out-requires g c =
    let step = c.place_one.new.step in
    rw c.end_one.ensures.unchanged (λ k slot. c.in_ok-place_one.ensures.placed.placed.leads step k (Contains-head step []) slot)

pub close-requires-clause-settled : goal.close-requires-clause-settled
close-requires-clause-settled g c =
    let p = c.in_ok-place_one.ensures in
    let step = c.place_one.new.step in
    let carried = rw c.end_one.ensures.unchanged at c.carry_out.ensures in
    λ pair there.
    elim (filled_on (with_ending c.place_one.new.self c.end_one.new.self.ending) c.carry_out.new.self [] step carried.bindings carried.slots carried.within
    (one_pair (λ x y. (k : ℕ) → x.slot ≡ Some k → y.slot ≡ Some k → ⊥) step) p.placed.placed.leads carried.done.monitors carried.done.index p.placed.placed.filled pair there) [
      | inl full ↦ full
      | inr planned ↦ absurd (unplanned [] pair refl planned)
    ]

pub returns-in_err-place_one-clause-listed : goal.returns-in_err-place_one-clause-listed
returns-in_err-place_one-clause-listed g c = λ dead listed.
    let m = g.M.Monitor.meaning (g.M.Monitor.definition c.args.call.now.rules.now) in
    let Stands = g.M.Monitor.StandsFor c.args.call.now.rules.now in
    let p = rw c.in_ok-open_for.ensures.opened at c.in_err-place_one.ensures in
    listed_same m Stands dead None c.args.self.now.monitors c.place_one.new.self.monitors c.args.awake.now p.kept.monitors listed

pub returns-clause-listed : goal.returns-clause-listed
returns-clause-listed g c = λ dead listed.
    let m = g.M.Monitor.meaning (g.M.Monitor.definition c.args.call.now.rules.now) in
    let Stands = g.M.Monitor.StandsFor c.args.call.now.rules.now in
    let p = rw c.in_ok-open_for.ensures.opened at c.in_ok-place_one.ensures in
    let carried = rw c.end_one.ensures.unchanged at c.carry_out.ensures in
    let mid = c.place_one.new.self in
    let step = c.place_one.new.step in
    let first = listed_same m Stands dead None c.args.self.now.monitors mid.monitors c.args.awake.now p.kept.monitors listed in
    let is = for_slots mid.monitors mid.index.list step carried.slots p.paired.within p.paired.paired (λ k slot. p.placed.placed.leads step k (Contains-head step []) slot) in
    let moved = c.follow.ensures c.args.call.now.rules.now dead mid.monitors is first in
    subst (λ (l : List (Option (Stored g.row.M-State.Denot))). AreListed m Stands dead l c.follow.new.awake) (sym (c.close.ensures.kept.monitors ∙ carried.done.monitors)) moved

pub place_one-requires-clause-slotted : goal.place_one-requires-clause-slotted
place_one-requires-clause-slotted g c = rw c.in_ok-open_for.ensures.opened (λ closed none. (c.requires.known (not-false (is_marked c.args.status) closed)).1 none)

pub returns-in_err-place_one-clause-unchanged : goal.returns-in_err-place_one-clause-unchanged
returns-in_err-place_one-clause-unchanged g c =
    let p = rw c.in_ok-open_for.ensures.opened at c.in_err-place_one.ensures in
    in_none c.from_residual-in_err-place_one.result (KeepsContents c.args.self.now c.place_one.new.self)
    (record { stored = p.kept.stored; monitors = p.kept.monitors; marks = p.kept.marks; ending = p.kept.ending })

pub returns-in_err-place_one-clause-fits : goal.returns-in_err-place_one-clause-fits
returns-in_err-place_one-clause-fits g c =
    let p = rw c.in_ok-open_for.ensures.opened at c.in_err-place_one.ensures in
    record {
      fits = λ dead fit below mine. fit_same c.args.self.now c.place_one.new.self dead p.kept.stored p.kept.marks (p.fits dead fit.index mine) fit;
      index = λ dead fit mine. p.fits dead fit mine;
    }

pub returns-clause-fits : goal.returns-clause-fits
returns-clause-fits g c =
    let p = rw c.in_ok-open_for.ensures.opened at c.in_ok-place_one.ensures in
    let carried = rw c.end_one.ensures.unchanged at c.carry_out.ensures in
    record {
      fits = λ dead fit below mine.
          c.close.ensures.fits dead (carried.fits dead (p.fits dead fit.index mine))
          (λ t there. fit.marks t (subst (λ (l : List Binding). Contains l t) (carried.done.marks ∙ p.kept.marks) there)) below;
      index = λ dead fits mine. rw c.close.ensures.kept.index (carried.fits dead (p.fits dead fits mine));
    }

pub returns-clause-done : goal.returns-clause-done
returns-clause-done g c =
    let p = rw c.in_ok-open_for.ensures.opened at c.in_ok-place_one.ensures in
    let carried = rw c.end_one.ensures.unchanged at c.carry_out.ensures in
    let step = c.args.step in
    let slotted = c.place_one.new.step in
    let ending = c.close.ensures.kept.ending ∙ c.carry_out.ensures.done.ending in
    record {
      marks = subst (λ (l : List Binding). AreMarksAfter c.args.call.now.binding.now l c.close.new.self.marks) (carried.done.marks ∙ p.kept.marks) c.close.ensures.marks;
      twice = c.in-Ok-copy.ensures;
      taken = record {
        between = c.place_one.new.self;
        slotted = slotted;
        placed = placed_same _ c.args.self.now c.place_one.new.self (step ∷ []) (step ∷ []) (slotted ∷ []) refl refl p.placed.placed;
        paired = p.paired;
        stored = p.kept.stored;
        marks = p.kept.marks;
        same = p.kept.monitors;
        fits = p.fits;
        monitors = c.close.ensures.kept.monitors ∙ carried.done.monitors;
        dropped = ap (λ i. i.dropped) c.close.ensures.kept.index ∙ carried.done.dropped;
        fewer = rw ending (rw p.kept.ending at c.end_one.ensures.fewer);
        ended = rw ending c.end_one.ensures.ended;
        report = c.in-Ok.ensures;
      };
    }
