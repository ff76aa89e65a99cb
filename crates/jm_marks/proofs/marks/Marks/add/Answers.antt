use Rattle.std.proofs.Common.{sym, ◌∙◌}
use Rattle.std.proofs.lemmas.List.Elements.{Contains-append_right}
use Rattle.std.specs.Prelude.{Contains}
use Rattle.jm_model.proofs.EqLemmas.{found-Contains}
use Rattle.jm_marks.specs.Singles.{singles_of}
use Rattle.jm_marks.proofs.SetLemmas.{AreMarks-more, put_within, put_apart, put_known, put_unknown, insert_within, insert_apart, insert_known, insert_unknown, unfound, true_false}
use Rattle.jm_marks.proofs.WatchLemmas.{spot_watched, watched_added, watched_known}
use Rattle.jm_marks.proofs.marks.Marks.add.Goals as goal
use Rattle.jm_marks.proofs.marks.Marks.add.Goals.{then-not-self-via-then-not-self, then-not-self-via-else-not-self+then-not-contains, then-self, else-self}

-- the binding isn't in the set
stranger : (c : goal.After-put) → Contains c.self.inside.bindings.keys c.args.binding → ⊥
stranger c = elim c.then-not-self.branch [
  | then-not-self-via-then-not-self w ↦
      let place = c.in-Some.ensures.some in
      λ key. c.self.invariant.1.none w.if-not-self.true c.args.binding key (c.in-Some.single.p, c.in-Some.single.object, place.few, place.is)
  | then-not-self-via-else-not-self+then-not-contains w ↦ unfound _ _ _ w.contains.ensures w.if-not-contains.true
]

pub invariant_of-self-then-not-self : goal.invariant_of-self-then-not-self
invariant_of-self-then-not-self c = (
  AreMarks-more _ _ _ _ _ _ c.args.binding _ c.self.invariant.0 c.raised-self-inside.ensures.more c.raised-self-inside.ensures.within c.list_mask.ensures.kept c.list_mask.ensures.present c.mask.ensures.value
      (put_within _ _ _ _ c.put.ensures),
  put_apart _ _ _ c.args.binding _ c.put.ensures (stranger c) c.self.invariant.1,
  c.self.invariant.2,
)

pub returns-then-not-self-clause-known : goal.returns-then-not-self-clause-known
returns-then-not-self-clause-known c = rw (← c.self.view_is) (put_known _ _ _ c.args.binding c.put.ensures (stranger c))

pub returns-then-not-self-clause-unknown : goal.returns-then-not-self-clause-unknown
returns-then-not-self-clause-unknown c = rw (← c.self.view_is) (put_unknown _ _ _ c.args.binding c.put.ensures)

pub returns-else-not-contains-clause-unknown : goal.returns-else-not-contains-clause-unknown
returns-else-not-contains-clause-unknown c =
    let key = found-Contains c.self.inside.bindings.keys c.args.binding (sym c.contains.ensures ∙ c.if-not-contains.false) in
    rw (← c.self.view_is) (λ no. absurd (no (Contains-append_right (singles_of c.self.inside.singles) c.self.inside.bindings.keys c.args.binding key)))

pub invariant_of-self-in-Ok-true : goal.invariant_of-self-in-Ok-true
invariant_of-self-in-Ok-true c =
    let done = c.in-Ok-true.ensures in (
      AreMarks-more _ _ _ _ _ _ c.args.binding _ c.self.invariant.0 c.raised-self-inside.ensures.more c.raised-self-inside.ensures.within c.list_mask.ensures.kept c.list_mask.ensures.present c.mask.ensures.value
          (insert_within _ _ _ _ done.keys),
      insert_apart _ _ _ c.args.binding _ _ done.keys done.unique c.in_default.ensures.none
          (elim c.if-self.branch [
            | then-self w ↦ λ no. absurd (true_false (sym w.if-self.true ∙ sym w.self-is ∙ no))
            | else-self w ↦ λ no. (w.if-self.false, w.is_single-self-inside.ensures.no (sym w.self-is ∙ no))
          ])
          c.self.invariant.1,
      rw c.push.ensures.spots (watched_added _ _ _ _ _ c.self.invariant.2 (spot_watched _ _ _ c.first_object.ensures) done.keys (sym c.in-Ok-true.field-0-test ∙ done.added)),
    )

pub invariant_of-self-else-insert : goal.invariant_of-self-else-insert
invariant_of-self-else-insert c =
    let done = c.in-Ok-false.ensures in (
      AreMarks-more _ _ _ _ _ _ c.args.binding _ c.self.invariant.0 c.raised-self-inside.ensures.more c.raised-self-inside.ensures.within c.list_mask.ensures.kept c.list_mask.ensures.present c.mask.ensures.value
          (insert_within _ _ _ _ done.keys),
      insert_apart _ _ _ c.args.binding _ _ done.keys done.unique c.in_default.ensures.none
          (elim c.if-self.branch [
            | then-self w ↦ λ no. absurd (true_false (sym w.if-self.true ∙ sym w.self-is ∙ no))
            | else-self w ↦ λ no. (w.if-self.false, w.is_single-self-inside.ensures.no (sym w.self-is ∙ no))
          ])
          c.self.invariant.1,
      watched_known _ _ _ _ c.self.invariant.2 done.keys (sym c.in-Ok-false.field-0-test ∙ done.added),
    )

pub returns-in-Ok-true-clause-known : goal.returns-in-Ok-true-clause-known
returns-in-Ok-true-clause-known c = rw (← c.self.view_is) (insert_known _ _ _ c.args.binding c.in-Ok-true.ensures.keys c.in_default.ensures.none)

pub returns-in-Ok-true-clause-unknown : goal.returns-in-Ok-true-clause-unknown
returns-in-Ok-true-clause-unknown c = rw (← c.self.view_is) (insert_unknown _ _ _ c.args.binding c.in-Ok-true.ensures.keys)

pub returns-in-Ok-false-clause-unknown : goal.returns-in-Ok-false-clause-unknown
returns-in-Ok-false-clause-unknown c = rw (← c.self.view_is) (insert_unknown _ _ _ c.args.binding c.in-Ok-false.ensures.keys)
