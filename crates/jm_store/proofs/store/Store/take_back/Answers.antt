use Rattle.std.proofs.Common.{◌∙◌, inl, inr, sym}
use Rattle.std.proofs.lemmas.Option.{same_Some}
use Rattle.jm_store.proofs.HousingLemmas.{pair_by_slot, pair_by_binding}
use Rattle.jm_store.proofs.PlanLemmas.{planned_next, planned_none, filled_same, item_among, contents_kept, contents_still}
use Rattle.jm_store.proofs.store.Store.take_back.Goals as goal
use Rattle.jm_store.proofs.store.Store.take_back.Goals.{in-Some, in_default}

pub loop-step-init : goal.loop-step-init
loop-step-init g c = record {
  open_now = c.requires.«open»;
  kept = contents_kept c.args.self.now;
  fits = λ dead fits. fits;
  within = λ pair there. there;
  filled = c.requires.pending.filled;
}

pub loop-step-preserved : goal.loop-step-preserved
loop-step-preserved g c =
    let inv = c.loop-step.invariant in
    let step = c.step-item.result in
    let i = c.loop-step.step-index in
    let moves = c.args.moves.now in
    elim c.match-step.branch [
      | in-Some w ↦ rw w.self-is (record {
        open_now = w.free.ensures.«open»;
        kept = contents_still c.args.self.now c.loop-step.self w.free.new.self w.free.ensures.kept inv.kept;
        fits = λ dead fits. w.free.ensures.fits dead (inv.fits dead fits);
        within = λ pair there. inv.within pair (w.free.ensures.within pair there);
        filled = λ pair there. elim (inv.filled pair (w.free.ensures.within pair there)) [
          | inl full ↦ inl (filled_same c.loop-step.self w.free.new.self pair (λ k. sym (w.free.ensures.kept.monitors k)) full)
          | inr planned ↦ elim (planned_next moves i step pair c.loop-step-test.true c.step-item.is planned) [
            | inl here ↦ inl (w.free.ensures.gone pair there (same_Some pair.slot w.in-Some.slot (sym here.0 ∙ w.in-Some.is)))
            | inr later ↦ inr later
          ]
        ];
      })
      | in_default w ↦ rw w.self-is (record {
        open_now = inv.open_now;
        kept = inv.kept;
        fits = inv.fits;
        within = inv.within;
        filled = λ pair there. elim (inv.filled pair there) [
          | inl full ↦ inl full
          | inr planned ↦ elim (planned_next moves i step pair c.loop-step-test.true c.step-item.is planned) [
            | inl here ↦ absurd (w.in_default.not-Some pair.slot here.0)
            | inr later ↦ inr later
          ]
        ];
      })
    ]

pub free-requires : goal.free-requires
free-requires g c =
    let inv = c.loop-step.invariant in
    let step = c.step-item.result in
    let there = rw (← c.self.view_is) at (c.requires.pending.leads step c.in-Some.slot (item_among c.args.moves.now c.loop-step.step-index step c.loop-step-test.true c.step-item.is) c.in-Some.is) in
    record {
      «open» = inv.open_now;
      paired = λ pair within same. pair_by_slot _ _ c.in-Some.slot step.monitor.instance c.self.invariant.housed there pair (rw (← c.self.view_is) at (inv.within pair within)) same;
      bound = λ pair within same. pair_by_binding _ _ c.in-Some.slot step.monitor.instance c.self.invariant.housed there pair (rw (← c.self.view_is) at (inv.within pair within)) same;
    }

pub returns-clause-filled : goal.returns-clause-filled
returns-clause-filled g c =
    λ pair there. elim (c.loop-step.invariant.filled pair there) [
      | inl full ↦ full
      | inr planned ↦ absurd (planned_none c.args.moves.now c.loop-step.step-index pair c.loop-step-test.false planned)
    ]

pub returns-clause-kept : goal.returns-clause-kept
returns-clause-kept g c = c.loop-step.invariant.kept
