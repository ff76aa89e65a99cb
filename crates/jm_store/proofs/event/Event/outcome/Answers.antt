use Rattle.std.proofs.Common.{◌≡◌, ℕ, Bool, List, inl, inr, sym, subst, ◌∙◌}
use Rattle.std.specs.Prelude.{Some, None, IsTrue, ◌↔◌, not}
use Rattle.std.proofs.lemmas.Bool.{both_ways, not-true, not-false}
use Rattle.jm_model.specs.declared.binding.Binding.{Binding}
use Rattle.jm_model.specs.Meanings.{Meaning, IsCutWord}
use Rattle.jm_marks.specs.Marks.{dead_mask_of}
use Rattle.jm_monitors.specs.Steps.{Follows}
use Rattle.jm_store.specs.Moves.{IsNext, is_marked}
use Rattle.jm_store.specs.declared.moves.Move.{Move}
use Rattle.jm_store.proofs.EventLemmas.{advanced_next, left_known, left_uncovered, left_lost, moved_above, moved_made}
use Rattle.jm_store.proofs.MoveLemmas.{join_above}
use Rattle.jm_store.proofs.VisitLemmas.{below_by_mask, apart_by_mask}
use Rattle.jm_store.proofs.event.Event.outcome.Goals as goal
use Rattle.jm_store.proofs.event.Event.outcome.Goals.{then-is_marked-via-then-is_marked, then-is_marked-via-else-is_marked+then-not-covers}

-- a state that follows, and is asked whether the dead parameters of its instance cut it
next_of : (m : Meaning) {S : Type 0} (Stands : S → List ℕ → Type 0) (letter : ℕ) (dead : List Bool) (t : Binding) (base state : S) (mask : ℕ) (cut : Bool) → Follows Stands letter base state → mask ≡ dead_mask_of dead t
    → ((w : List ℕ) → Stands state w → IsTrue cut ↔ IsCutWord m w mask) → IsNext m Stands letter dead t base state (not cut)
next_of m Stands letter dead t base state mask cut next is asked = record {
  next = next;
  alive = λ stays w stands gone. both_ways cut (not-true cut stays) ((asked w stands).1 (subst (λ (d : ℕ). IsCutWord m w d) (sym is) gone));
  cut = λ goes w stands. subst (λ (d : ℕ). IsCutWord m w d) is ((asked w stands).0 (not-false cut goes));
}

pub returns-then-is_marked : goal.returns-then-is_marked
returns-then-is_marked g c =
    let m = g.M.Monitor.meaning (g.M.Monitor.definition c.args.self.now.rules.now) in
    let Stands = g.M.Monitor.StandsFor c.args.self.now.rules.now in
    let apart = apart_by_mask _ _ (rw (c.mask-mask.ensures.value, c.mask.ensures.value) at c.if-mask.false) in
    elim c.then-is_marked.branch [
      | then-is_marked-via-then-is_marked w ↦ inl (left_known m Stands _ _ _ _ c.args.base.now apart (c.requires.known.0 (sym c.is_marked.ensures ∙ w.if-is_marked.true)))
      | then-is_marked-via-else-is_marked+then-not-covers w ↦
          inl (left_uncovered m Stands _ _ _ _ c.args.base.now c.join-instance.result c.join-instance.ensures apart
          (λ covered. both_ways w.covers.result w.if-not-covers.true (w.covers.ensures.1 covered)))
    ]

pub returns-then-can_never_fire : goal.returns-then-can_never_fire
returns-then-can_never_fire g c =
    let m = g.M.Monitor.meaning (g.M.Monitor.definition c.args.self.now.rules.now) in
    let Stands = g.M.Monitor.StandsFor c.args.self.now.rules.now in
    let apart = apart_by_mask _ _ (rw (c.mask-mask.ensures.value, c.mask.ensures.value) at c.if-mask.false) in
    let made : Move g.row.M-State.Denot = record { slot = None; monitor = record { instance = c.join-instance.result; state = c.in_ok-state-2.state }; stays = not c.cut-stays-2.result } in
    inl (left_lost m Stands _ _ _ _ c.args.base.now c.join-instance.result made c.join-instance.ensures apart (advanced_next m Stands _ _ None _ _ _ _ (next_of m Stands _ _ _ _ _ _ c.cut-stays-2.result c.in_ok-state-2.ensures c.dead_mask-dead-2.ensures c.cut-stays-2.ensures)) (c.can_never_fire.ensures.cut c.if-can_never_fire.true)
    (c.can_never_fire.ensures.quiet c.if-can_never_fire.true))

pub returns-then-mask : goal.returns-then-mask
returns-then-mask g c =
    let m = g.M.Monitor.meaning (g.M.Monitor.definition c.args.self.now.rules.now) in
    let Stands = g.M.Monitor.StandsFor c.args.self.now.rules.now in
    let below = below_by_mask _ _ c.requires.compatible (rw (c.mask-mask.ensures.value, c.mask.ensures.value) at c.if-mask.true) in
    let moved : Move g.row.M-State.Denot = record { slot = Some c.args.slot; monitor = record { instance = c.args.base.now.instance; state = c.in_ok-state.state }; stays = not c.cut-stays.result } in
    moved_above m Stands _ _ _ _ c.args.slot c.args.base.now _ moved (sym (join_above _ _ c.requires.compatible below)) c.requires.compatible below
    (advanced_next m Stands _ _ (Some c.args.slot) _ _ _ _ (next_of m Stands _ _ _ _ _ _ c.cut-stays.result c.in_ok-state.ensures c.dead_mask-dead.ensures c.cut-stays.ensures))

pub returns : goal.returns
returns g c =
    let m = g.M.Monitor.meaning (g.M.Monitor.definition c.args.self.now.rules.now) in
    let Stands = g.M.Monitor.StandsFor c.args.self.now.rules.now in
    let apart = apart_by_mask _ _ (rw (c.mask-mask.ensures.value, c.mask.ensures.value) at c.if-mask.false) in
    let made : Move g.row.M-State.Denot = record { slot = None; monitor = record { instance = c.join-instance.result; state = c.in_ok-state-2.state }; stays = not c.cut-stays-2.result } in
    moved_made m Stands _ _ _ _ c.args.slot c.args.base.now c.join-instance.result made c.join-instance.ensures c.requires.compatible apart
    (λ there. both_ways (is_marked c.args.self.now.status) (sym c.is_marked.ensures ∙ c.if-is_marked.false) (c.requires.known.1 there)) (c.covers.ensures.0 c.if-not-covers.false) (advanced_next m Stands _ _ None _ _ _ _ (next_of m Stands _ _ _ _ _ _ c.cut-stays-2.result c.in_ok-state-2.ensures c.dead_mask-dead-2.ensures c.cut-stays-2.ensures))

pub returns-then-rests : goal.returns-then-rests
returns-then-rests g c =
    let below = below_by_mask _ _ c.requires.compatible (rw (c.mask-mask.ensures.value, c.mask.ensures.value) at c.if-mask.true) in
    inr (below, c.rests.ensures.resting c.if-rests.true, c.rests.ensures.alive c.if-rests.true)
