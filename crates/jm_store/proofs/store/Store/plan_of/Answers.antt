use Rattle.std.proofs.Common.{◌≢◌, ◌++◌, List, refl, sym, subst, length}
use Rattle.std.specs.Prelude.{Contains, IsTrue}
use Rattle.jm_model.specs.declared.binding.Binding.{Binding}
use Rattle.std.proofs.lemmas.Result.{err_from_is_err_and}
use Rattle.std.proofs.lemmas.List.Sorted.{IsPermutation-refl}
use Rattle.std.proofs.lemmas.List.Elements.{Contains-append_left}
use Rattle.jm_semantics.specs.Traces.{ParametricEvent}
use Rattle.jm_store.specs.declared.moves.Move.{Move}
use Rattle.jm_store.specs.Moves.{is_marked, EndsFewer, asks_by}
use Rattle.jm_store.specs.Contents.{stored_of, with_ending, IsFit, IsStoreAfter}
use Rattle.jm_store.proofs.FitLemmas.{fit_ending}
use Rattle.jm_store.proofs.EndingLemmas.{fewer-refl}
use Rattle.jm_store.proofs.PlanningLemmas.{apart_moves, leads_moves, moves_within, fit_same, sorted_distinct, plan_works, plan_for_ending, may_reach, spared_placed, plan_leaves}
use Rattle.jm_store.proofs.RestingLemmas.{completed, apart_left, distinct_left, report_still, ending_still, after_resting, placed_or_resting, placed_resting}
use Rattle.jm_store.proofs.SparedLemmas.{opened_fewer}
use Rattle.jm_store.proofs.StoreLemmas.{store_same, spared_same}
use Rattle.jm_store.proofs.GivenLemmas.{pairs_map}
use Rattle.jm_store.proofs.store.Store.plan_of.Goals as goal

pub open_plan-requires-clause-ready : goal.open_plan-requires-clause-ready
open_plan-requires-clause-ready g c =
    let m = g.M.Monitor.meaning (g.M.Monitor.definition c.args.call.now.rules.now) in
    let Stands = g.M.Monitor.StandsFor c.args.call.now.rules.now in
    let read = rw (← c.self.view_is) at c.requires.read in
    let whole = completed m Stands _ _ _ _ _ _ _ read in
    rw (← c.self.view_is)
    (record {
      apart = apart_left c.args.moves.items whole.resting (apart_moves m Stands _ _ _ _ _ _ _ whole.all);
      leads = λ move k there slot.
          leads_moves m Stands _ _ _ _ _ _ _ whole.all _ c.self.invariant.housed.paired move k (Contains-append_left c.args.moves.items whole.resting move there) slot;
    })

pub returns-in_err-moves : goal.returns-in_err-moves
returns-in_err-moves g c =
    let m = g.M.Monitor.meaning (g.M.Monitor.definition c.args.call.now.rules.now) in
    let Stands = g.M.Monitor.StandsFor c.args.call.now.rules.now in
    let opened = c.in_err-moves.ensures in
    let whole = completed m Stands _ _ _ _ _ _ _ c.requires.read in
    let within = λ (move : Move g.row.M-State.Denot) (there : Contains c.args.moves.items move).
    moves_within m Stands _ _ _ _ _ _ _ whole.all (length c.args.call.now.objects.now) c.requires.can.fits.instances c.requires.can.there move
    (Contains-append_left c.args.moves.items whole.resting move there) in
    let fewer : EndsFewer c.args.self.now.ending c.open_plan.new.self.ending = rw opened.kept.ending (fewer-refl _) in
    let failed = err_from_is_err_and c.from_residual-in_err-moves.result c.from_residual-in_err-moves.ensures.1 in
    rw failed.1
    (record {
      stored = opened.kept.stored;
      monitors = opened.kept.monitors;
      marks = opened.kept.marks;
      fewer = fewer;
      fits = fit_same c.args.self.now c.open_plan.new.self c.args.call.now.objects.now opened.kept.stored opened.kept.marks (opened.fits c.args.call.now.objects.now c.requires.can.fits.index within) c.requires.can.fits;
      closed = opened.closed;
      opened = tt;
      binding = tt;
      plan = tt;
      keeps = λ trace.
          store_same m Stands trace c.args.call.now.objects.now c.args.self.now c.open_plan.new.self opened.kept.stored opened.kept.marks fewer
          (opened_fewer c.args.self.now.index c.open_plan.new.self.index c.args.call.now.objects.now c.args.moves.items c.requires.can.fits.index within opened.fits);
      spares = spared_same m Stands c.args.self.now c.open_plan.new.self opened.kept.stored
          (opened_fewer c.args.self.now.index c.open_plan.new.self.index c.args.call.now.objects.now c.args.moves.items c.requires.can.fits.index within opened.fits);
      leaves = tt;
      works = tt;
    })

pub returns : goal.returns
returns g c =
    let m = g.M.Monitor.meaning (g.M.Monitor.definition c.args.call.now.rules.now) in
    let Stands = g.M.Monitor.StandsFor c.args.call.now.rules.now in
    let old = c.args.self.now in
    let new = c.open_plan.new.self in
    let opened = c.in_ok-moves.ensures in
    let placed = opened.placed in
    let whole = completed m Stands _ _ _ _ _ _ _ c.requires.read in
    let within = λ (move : Move g.row.M-State.Denot) (there : Contains c.args.moves.items move).
    moves_within m Stands _ _ _ _ _ _ _ whole.all (length c.args.call.now.objects.now) c.requires.can.fits.instances c.requires.can.there move
    (Contains-append_left c.args.moves.items whole.resting move there) in
    let fewer : EndsFewer old.ending c.end_fewer.new.self.ending = rw opened.kept.ending at c.end_fewer.ensures.fewer in
    let known : IsTrue (is_marked c.args.status) → Contains new.marks c.args.call.now.binding.now = λ e.
    subst (λ (l : List Binding). Contains l c.args.call.now.binding.now) (sym opened.kept.marks) (c.requires.known.0 e) in
    let fits : IsFit c.end_fewer.new.self c.args.call.now.objects.now = rw c.end_fewer.ensures.unchanged
    (fit_ending new _ c.args.call.now.objects.now
    (fit_same old new c.args.call.now.objects.now opened.kept.stored opened.kept.marks (opened.fits c.args.call.now.objects.now c.requires.can.fits.index within) c.requires.can.fits)) in
    let keeps : (trace : List ParametricEvent) → IsStoreAfter m Stands trace c.args.call.now.objects.now old → IsStoreAfter m Stands trace c.args.call.now.objects.now c.end_fewer.new.self = λ trace.
    rw c.end_fewer.ensures.unchanged
    (store_same m Stands trace c.args.call.now.objects.now old (with_ending new c.end_fewer.new.self.ending) opened.kept.stored opened.kept.marks fewer
    (opened_fewer old.index new.index c.args.call.now.objects.now c.args.moves.items c.requires.can.fits.index within opened.fits)) in
    let spares = spared_same m Stands old new opened.kept.stored (opened_fewer old.index new.index c.args.call.now.objects.now c.args.moves.items c.requires.can.fits.index within opened.fits) in
    let asks = asks_by (is_marked c.args.status) old.ending c.args.call.now.letter.0 c.args.call.now.binding.now in
    let letter = c.args.call.now.letter.0 in
    let b = c.args.call.now.binding.now in
    let dead = c.args.call.now.objects.now in
    let moves = c.args.moves.items in
    let slotted = c.in_ok-moves.moves.items in
    let full = completed m Stands letter b dead old.monitors old.marks asks moves c.requires.read in
    let resting = full.resting in
    let apart = apart_moves m Stands letter b dead old.marks asks old.monitors (moves ++ resting) full.all in
    let all_placed = placed_resting m Stands letter b dead old new moves slotted resting full.each opened.kept.monitors placed apart opened.housed in
    let report = rw c.deref.ensures.value at c.in_ok-answer.ensures in
    let moved = rw c.deref-2.ensures.value at c.end_fewer.ensures.ended in
    record {
      stored = rw c.end_fewer.ensures.unchanged opened.kept.stored;
      monitors = rw c.end_fewer.ensures.unchanged opened.kept.monitors;
      marks = rw c.end_fewer.ensures.unchanged opened.kept.marks;
      fewer = fewer;
      fits = fits;
      closed = tt;
      opened = rw c.end_fewer.ensures.unchanged opened.opened;
      binding = refl;
      plan = rw c.end_fewer.ensures.unchanged
          (plan_for_ending new _ _ (record { twice = c.in_ok-copy.ensures; known = known; apart = placed.apart; placed = placed.leads; filled = placed.filled }));
      keeps = keeps;
      spares = rw c.end_fewer.ensures.unchanged spares;
      leaves = rw c.end_fewer.ensures.unchanged
          (λ spared after done.
          plan_leaves m Stands new after _ (slotted ++ resting) _
          (spared_placed m Stands letter b dead asks old new (moves ++ resting) (moves ++ resting) (slotted ++ resting) full.all (IsPermutation-refl _) all_placed (spares spared)
          (rw c.end_fewer.ensures.unchanged at fits.index.reached))
          (after_resting m Stands letter b dead old new moves slotted resting full.each opened.kept.monitors) done);
      works = λ trace holds.
          let may = may_reach m Stands c.args.call.now.letter.0 c.args.call.now.binding.now c.args.call.now.objects.now old.marks (is_marked c.args.status) old.ending (stored_of old) c.requires.known.0 holds.ended in
          let distinct = sorted_distinct m Stands letter b dead asks old new (moves ++ resting) (moves ++ resting) (slotted ++ resting)
          full.all may (IsPermutation-refl _) all_placed opened.housed opened.kept.monitors opened.kept.stored opened.kept.marks trace holds.monitors c.requires.can.event in
          let reported = report (pairs_map (λ r s. r.instance ≢ s.instance) (λ (x : Move g.row.M-State.Denot). x.monitor) moves (distinct_left moves resting distinct)) in
          rw c.end_fewer.ensures.unchanged
          (plan_works m Stands letter b dead asks old new (moves ++ resting) (moves ++ resting) (slotted ++ resting)
          full.all may (IsPermutation-refl _) all_placed opened.housed opened.kept.monitors opened.kept.stored opened.kept.marks trace holds.monitors c.requires.can.event
          _ (report_still m Stands letter b dead old.monitors moves resting _ full.each reported) _ refl
          (after_resting m Stands letter b dead old new moves slotted resting full.each opened.kept.monitors)
          (placed_or_resting m Stands letter b dead old new moves slotted resting full.each opened.kept.monitors) refl _ fewer holds.ended
          (ending_still m Stands letter b dead old.monitors slotted resting old.ending _ full.each fewer holds.ended moved)
          (rw c.end_fewer.ensures.unchanged at (keeps trace holds).spared) (rw c.end_fewer.ensures.unchanged at fits.index.reached));
    }
