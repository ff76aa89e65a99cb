use Rattle.std.proofs.Common.{◌≡◌, ◌≤◌, ◌+◌, ℕ, Bool, List, ◌++◌, Option, Some, None, refl, sym, ◌∙◌, subst, get_or, append-nil, arith}
use Rattle.std.specs.Option.{option_to_list}
use Rattle.std.proofs.lemmas.List.{take_all, get_or_default}
use Rattle.jm_model.specs.Meanings.{Meaning}
use Rattle.jm_model.specs.declared.binding.Binding.{Binding}
use Rattle.jm_monitors.specs.declared.stored.Stored.{Stored}
use Rattle.jm_store.specs.declared.moves.Move.{Move}
use Rattle.jm_store.specs.Slots.{monitor_at, monitors_of}
use Rattle.jm_store.specs.Moves.{IsPushed, IsRead, IsReadIn, IsReadAt, IsCompatibleAt}
use Rattle.jm_store.proofs.GivenLemmas.{pushed_next}
use Rattle.jm_store.proofs.store.Store.reach_slots.Goals as goal
use Rattle.jm_store.proofs.store.Store.reach_slots.Goals.{in-Some+in_ok-step+in-Some-2+in_ok-push, in-Some+in_ok-step+in_default-2, in_default}

module _ (m : Meaning) {S : Type 0} (Stands : S → List ℕ → Type 0) (letter : ℕ) (b : Binding) (dead : List Bool) (marks : List Binding) (monitors : List (Option (Stored S))) where
  -- what is read of the monitor of a slot stands behind the moves that there were
  pushed_read : (k : ℕ) (s : Stored S) (o : Option (Move S)) (old new : List (Move S)) → monitor_at monitors k ≡ Some s → IsRead m Stands letter b dead marks k s o → new ≡ old ++ option_to_list o
      → IsPushed (IsReadAt m Stands letter b dead marks monitors) k old new
  pushed_read k s o old new at read is = (o, subst (λ (held : Option (Stored S)). IsReadIn m Stands letter b dead marks k held o) (sym at) read, is)

  -- nothing is read where there is no monitor
  pushed_vacant : (k : ℕ) (old new : List (Move S)) → monitor_at monitors k ≡ None → new ≡ old → IsPushed (IsReadAt m Stands letter b dead marks monitors) k old new
  pushed_vacant k old new at is = (None, subst (λ (held : Option (Stored S)). IsReadIn m Stands letter b dead marks k held None) (sym at) refl, is ∙ sym (append-nil old))

pub loop-slot-preserved : goal.loop-slot-preserved
loop-slot-preserved g c =
    let m = g.M.Monitor.meaning (g.M.Monitor.definition c.args.event.now.rules.now) in
    let Stands = g.M.Monitor.StandsFor c.args.event.now.rules.now in
    let letter = c.args.event.now.letter.0 in
    let b = c.args.event.now.binding.now in
    let dead = c.args.event.now.objects.now in
    let marks = c.args.event.now.marks.now.list in
    let monitors = monitors_of c.self.inside.monitors.slots in
    let k = get_or c.args.slots.now c.loop-slot.slot-index 0 in
    let old = c.loop-slot.moves.items in
    let new = c.match-lend.moves.items in
    let read : IsPushed (IsReadAt m Stands letter b dead marks monitors) k old new = elim c.match-lend.branch [
      | in-Some+in_ok-step+in-Some-2+in_ok-push w ↦
          pushed_read m Stands letter b dead marks monitors k w.in-Some.base.now (Some w.in-Some-2.step) old new w.in-Some.ensures.value
          (subst (IsRead m Stands letter b dead marks k w.in-Some.base.now) w.in-Some-2.is w.in_ok-step.ensures) (rw w.moves-is w.in_ok-push.ensures.items)
      | in-Some+in_ok-step+in_default-2 w ↦
          pushed_read m Stands letter b dead marks monitors k w.in-Some.base.now None old new w.in-Some.ensures.value
          (subst (IsRead m Stands letter b dead marks k w.in-Some.base.now) w.in_default-2.is w.in_ok-step.ensures) (rw w.moves-is (sym (append-nil old)))
      | in_default w ↦ pushed_vacant m Stands letter b dead marks monitors k old new w.in_default.ensures.value (rw w.moves-is refl)
    ] in
    let step : c.lend.new.steps ≤ c.loop-slot.steps + 1 = elim c.match-lend.branch [
      | in-Some+in_ok-step+in-Some-2+in_ok-push w ↦ omega (arith, w.in-Some.ensures.steps)
      | in-Some+in_ok-step+in_default-2 w ↦ omega (arith, w.in-Some.ensures.steps)
      | in_default w ↦ omega (arith, w.in_default.ensures.steps)
    ] in
    let inv = rw (← c.self.view_is) at c.loop-slot.invariant in
    rw (← c.self.view_is) (record {
      moves = λ before given. pushed_next _ before c.args.slots.now c.loop-slot.slot-index 0 old new c.loop-slot-test.true (inv.moves before given) read;
      steps = omega (arith, inv.steps, step);
    })

pub outcome-requires-clause-compatible : goal.outcome-requires-clause-compatible
outcome-requires-clause-compatible g c =
    let i = c.loop-slot.slot-index in
    let slots = c.args.slots.now in
    let each = rw (← c.self.view_is) at c.requires.compatible in
    subst (IsCompatibleAt c.args.event.now.binding.now) c.in-Some.ensures.value (each (get_or slots i 0) (i, c.loop-slot-test.true, get_or_default slots i (get_or slots i 0) 0 c.loop-slot-test.true))

pub returns : goal.returns
returns g c =
    let whole = take_all c.loop-slot.slot-index c.args.slots.now c.loop-slot-test.false in
    record {
      moves = λ before given. rw whole at (c.loop-slot.invariant.moves before given);
      steps = omega (arith, c.loop-slot.invariant.steps, c.loop-slot.auto.slot-index-end);
    }
