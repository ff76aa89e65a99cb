use Rattle.std.proofs.Common.{◌≡◌, ℕ, List, [], ◌∷◌, sym, ap, ◌∙◌, subst}
use Rattle.std.specs.Prelude.{Option, Some, Contains}
use Rattle.jm_model.specs.declared.binding.Binding.{Binding}
use Rattle.jm_semantics.specs.Traces.{ParametricEvent}
use Rattle.jm_index.specs.Index.{Pair}
use Rattle.jm_monitors.proofs.BaseLemmas.{object-among}
use Rattle.jm_monitors.specs.declared.stored.Stored.{Stored}
use Rattle.jm_monitors.specs.Steps.{AreMarksAfter}
use Rattle.jm_store.specs.declared.store.advance.Done.{Done}
use Rattle.jm_store.specs.Slots.{monitor_at}
use Rattle.jm_store.specs.Listed.{AreListed}
use Rattle.jm_store.specs.Moves.{is_marked, AreMovesRead, asks_by}
use Rattle.jm_store.specs.Contents.{Contents, stored_of, IsSpared, IsStoreAfter, IsEventDone, IsFilled, ArePaired, KeepsContents}
use Rattle.jm_store.specs.Plans.{IsSilent, IsStepDone}
use Rattle.jm_store.proofs.VisitLemmas.{settled_monitor}
use Rattle.jm_store.proofs.FitLemmas.{are_paired}
use Rattle.jm_store.proofs.DirectLemmas.{none_map, some_map, if_some, either_way, step_within, step_slotted, step_leads, step_kept, step_still, step_spared, step_done, none_done}
use Rattle.jm_store.proofs.store.Store.advance_only.Goals as goal

pub find_only-requires-clause-known : goal.find_only-requires-clause-known
find_only-requires-clause-known g c = rw (← c.self.view_is) at c.requires.known

pub find_only-requires-clause-live : goal.find_only-requires-clause-live
find_only-requires-clause-live g c = λ o binds. c.requires.can.event.live o (object-among _ binds.0 o binds.1)

pub take_step-requires-clause-known : goal.take_step-requires-clause-known
take_step-requires-clause-known g c =
    let m = g.M.Monitor.meaning (g.M.Monitor.definition c.args.asked.now.call.now.rules.now) in
    let Stands = g.M.Monitor.StandsFor c.args.asked.now.call.now.rules.now in
    let old = c.args.self.now in
    let asks = asks_by (is_marked c.args.asked.now.status) old.ending c.args.asked.now.call.now.letter.0 c.args.asked.now.call.now.binding.now in
    let marks : c.self.inside.marks.list ≡ old.marks = ap (λ v. v.marks) c.self.view_is in
    let is = rw c.in-Some.is at c.in_ok-step.ensures.read in
    let read = subst (λ (l : List Binding). AreMovesRead m Stands c.args.asked.now.call.now.letter.0 c.args.asked.now.call.now.binding.now c.args.asked.now.call.now.objects.now l asks old.monitors (c.in-Some.step ∷ [])) marks is in
    λ e. (c.requires.known.0 e, step_slotted m Stands c.args.asked.now.call.now.letter.0 c.args.asked.now.call.now.binding.now c.args.asked.now.call.now.objects.now (is_marked c.args.asked.now.status) old old c.in-Some.step [] c.requires.known.0 read c.requires.can.fits c.requires.can.there e)

pub take_step-requires-clause-leads : goal.take_step-requires-clause-leads
take_step-requires-clause-leads g c =
    let m = g.M.Monitor.meaning (g.M.Monitor.definition c.args.asked.now.call.now.rules.now) in
    let Stands = g.M.Monitor.StandsFor c.args.asked.now.call.now.rules.now in
    let old = c.args.self.now in
    let asks = asks_by (is_marked c.args.asked.now.status) old.ending c.args.asked.now.call.now.letter.0 c.args.asked.now.call.now.binding.now in
    let marks : c.self.inside.marks.list ≡ old.marks = ap (λ v. v.marks) c.self.view_is in
    let is = rw c.in-Some.is at c.in_ok-step.ensures.read in
    let read = subst (λ (l : List Binding). AreMovesRead m Stands c.args.asked.now.call.now.letter.0 c.args.asked.now.call.now.binding.now c.args.asked.now.call.now.objects.now l asks old.monitors (c.in-Some.step ∷ [])) marks is in
    let paired : (k : ℕ) (s : Stored g.row.M-State.Denot) → monitor_at old.monitors k ≡ Some s → Contains {X = Pair} old.index.list (record { binding = s.instance; slot = k }) = rw (← c.self.view_is) c.self.invariant.housed.paired in
    step_leads m Stands c.args.asked.now.call.now.letter.0 c.args.asked.now.call.now.binding.now c.args.asked.now.call.now.objects.now (is_marked c.args.asked.now.status) old old c.in-Some.step [] c.requires.known.0 read c.requires.can.fits c.requires.can.there paired

pub returns-in_ok-room_for-in-Some-clause-advances : goal.returns-in_ok-room_for-in-Some-clause-advances
returns-in_ok-room_for-in-Some-clause-advances g c =
    let m = g.M.Monitor.meaning (g.M.Monitor.definition c.args.asked.now.call.now.rules.now) in
    let Stands = g.M.Monitor.StandsFor c.args.asked.now.call.now.rules.now in
    let old = c.args.self.now in
    let new = c.take_step.new.self in
    let letter = c.args.asked.now.call.now.letter.0 in
    let b = c.args.asked.now.call.now.binding.now in
    let dead = c.args.asked.now.call.now.objects.now in
    let step = c.in-Some.step in
    let asks = asks_by (is_marked c.args.asked.now.status) old.ending letter b in
    let marks : c.self.inside.marks.list ≡ old.marks = ap (λ v. v.marks) c.self.view_is in
    let is = rw c.in-Some.is at c.in_ok-step.ensures.read in
    let read = subst (λ (l : List Binding). AreMovesRead m Stands letter b dead l asks old.monitors (step ∷ [])) marks is in
    let t = c.take_step.ensures in
    let result = c.take_step.result in
    let mine = step_within m Stands letter b dead (is_marked c.args.asked.now.status) old new step [] c.requires.known.0 read c.requires.can.fits c.requires.can.there in
    let Kept = KeepsContents old new in
    let Did : Done → Type 0 = λ (done : Done). IsStepDone m Stands b step old new done in
    record {
      stored = none_map result Kept (stored_of new ≡ stored_of old) (λ kept. kept.stored) t.unchanged;
      unmarked = none_map result Kept (new.marks ≡ old.marks) (λ kept. kept.marks) t.unchanged;
      keeps = none_map result Kept ((trace : List ParametricEvent) → IsStoreAfter m Stands trace dead old → IsStoreAfter m Stands trace dead new)
          (λ kept. step_kept m Stands letter b dead (is_marked c.args.asked.now.status) old new step [] c.requires.known.0 read c.requires.can.fits c.requires.can.there kept.stored kept.marks kept.ending t.fits.index) t.unchanged;
      fits = t.fits.fits dead c.requires.can.fits c.requires.can.there mine;
      spares = either_way result (IsSpared m Stands old → IsSpared m Stands new)
          (none_map result Kept (IsSpared m Stands old → IsSpared m Stands new)
          (λ kept. step_still m Stands letter b dead (is_marked c.args.asked.now.status) old new step [] c.requires.known.0 read c.requires.can.fits c.requires.can.there kept.stored t.fits.index) t.unchanged)
          (some_map result Did (λ (done : Done). IsSpared m Stands old → IsSpared m Stands new)
          (λ done did. step_spared m Stands letter b dead (is_marked c.args.asked.now.status) old new step done.answer c.requires.known.0 read c.requires.can.fits c.requires.can.there did.taken) t.done);
      closed = t.closed;
      marks = some_map result Did (λ (done : Done). AreMarksAfter b old.marks new.marks) (λ done did. did.marks) t.done;
      twice = some_map result Did (λ (done : Done). done.copy ≡ done.answer) (λ done did. did.twice) t.done;
      works = some_map result Did (λ (done : Done). (trace : List ParametricEvent) → IsStoreAfter m Stands trace dead old → IsEventDone m Stands trace dead letter b new done.answer)
          (λ done did trace holds. step_done m Stands letter b dead (is_marked c.args.asked.now.status) old new step done.answer c.requires.known.0 read c.requires.can.fits c.requires.can.there did.taken did.marks trace c.requires.can.event holds) t.done;
    }

pub returns-in-None-clause-advances : goal.returns-in-None-clause-advances
returns-in-None-clause-advances g c =
    let m = g.M.Monitor.meaning (g.M.Monitor.definition c.args.asked.now.call.now.rules.now) in
    let Stands = g.M.Monitor.StandsFor c.args.asked.now.call.now.rules.now in
    let old = c.args.self.now in
    let new = c.take_none.new.self in
    let letter = c.args.asked.now.call.now.letter.0 in
    let b = c.args.asked.now.call.now.binding.now in
    let dead = c.args.asked.now.call.now.objects.now in
    let asks = asks_by (is_marked c.args.asked.now.status) old.ending letter b in
    let marks : c.self.inside.marks.list ≡ old.marks = ap (λ v. v.marks) c.self.view_is in
    let is = rw c.in-None.is at c.in_ok-step.ensures.read in
    let read = subst (λ (l : List Binding). AreMovesRead m Stands letter b dead l asks old.monitors []) marks is in
    let closed = rw (← c.self.view_is) at c.requires.can.closed in
    let paired : ArePaired old = rw (← c.self.view_is) (are_paired _ _ _ c.self.inside.index _ c.self.invariant.housed) in
    let filled : (pair : Pair) → Contains old.index.list pair → IsFilled old pair = rw (← c.self.view_is) (settled_monitor _ _ c.self.invariant.housed (c.self.invariant.settled closed)) in
    let t = c.take_none.ensures in
    let result = c.take_none.result in
    record {
      stored = none_map result (new ≡ old) (stored_of new ≡ stored_of old) (λ same. ap (λ (s : Contents g.row.M-State.Denot). stored_of s) same) t.unchanged;
      unmarked = none_map result (new ≡ old) (new.marks ≡ old.marks) (λ same. ap (λ (s : Contents g.row.M-State.Denot). s.marks) same) t.unchanged;
      keeps = none_map result (new ≡ old) ((trace : List ParametricEvent) → IsStoreAfter m Stands trace dead old → IsStoreAfter m Stands trace dead new)
          (λ same trace holds. subst (λ (s : Contents g.row.M-State.Denot). IsStoreAfter m Stands trace dead s) (sym same) holds) t.unchanged;
      fits = t.fits dead c.requires.can.fits c.requires.can.there;
      spares = λ spared. rw (t.kept.monitors, t.kept.index) spared;
      closed = t.closed;
      marks = t.marks;
      twice = some_map result IsSilent (λ (done : Done). done.copy ≡ done.answer) (λ done silent. silent.1 ∙ sym silent.0) t.silent;
      works = if_some result (λ (done : Done). AreMarksAfter b old.marks new.marks) IsSilent
          (λ (done : Done). (trace : List ParametricEvent) → IsStoreAfter m Stands trace dead old → IsEventDone m Stands trace dead letter b new done.answer)
          (λ done added silent. rw silent.0 (none_done m Stands letter b dead (is_marked c.args.asked.now.status) old new c.requires.known.0 read paired filled c.requires.can.fits t.kept.monitors t.kept.index t.kept.ending added
          c.requires.can.event)) t.marks t.silent;
    }

pub returns-in_ok-room_for-in-Some-clause-listed : goal.returns-in_ok-room_for-in-Some-clause-listed
returns-in_ok-room_for-in-Some-clause-listed g c = c.take_step.ensures.listed c.args.asked.now.call.now.objects.now

pub returns-in-None-clause-listed : goal.returns-in-None-clause-listed
returns-in-None-clause-listed g c = λ listed.
    let m = g.M.Monitor.meaning (g.M.Monitor.definition c.args.asked.now.call.now.rules.now) in
    let Stands = g.M.Monitor.StandsFor c.args.asked.now.call.now.rules.now in
    subst (λ (l : List (Option (Stored g.row.M-State.Denot))). AreListed m Stands c.args.asked.now.call.now.objects.now l c.args.awake.now) (sym c.take_none.ensures.kept.monitors) listed
