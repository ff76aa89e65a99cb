use Rattle.std.proofs.Common.{length, refl, ◌∙◌, sym, subst}
use Rattle.std.proofs.lemmas.Bool.{false≢true}
use Rattle.std.proofs.lemmas.Option.{slice_get_read}
use Rattle.std.proofs.lemmas.List.Elements.{All-more}
use Rattle.jm_audit.proofs.ChoiceLemmas.{IsUnmarked, choice_marked, choice_unmarked}
use Rattle.jm_audit.proofs.pending.choose_marked.Goals as goal

pub returns-then-is_marked-clause-choice : goal.returns-then-is_marked-clause-choice
returns-then-is_marked-clause-choice c =
    let pending = c.args.pending.now in
    let next = c.index-pending-place.result in
    let at = slice_get_read pending (length pending) c.loop-place.place next refl c.loop-place-test.true c.index-pending-place.is in
    choice_marked pending c.args.rest.now c.loop-place.place next at c.loop-place.invariant (c.is_marked.ensures.0 c.if-is_marked.true)

pub loop-place-preserved : goal.loop-place-preserved
loop-place-preserved c =
    let next = c.index-pending-place.result in
    let other : IsUnmarked c.args.rest.now next = λ m. absurd (false≢true (sym c.if-is_marked.false ∙ c.is_marked.ensures.1 m)) in
    All-more (IsUnmarked c.args.rest.now) c.args.pending.now c.loop-place.place next c.loop-place-test.true c.loop-place.invariant
    (subst (IsUnmarked c.args.rest.now) c.index-pending-place.is other)

pub returns-clause-choice : goal.returns-clause-choice
returns-clause-choice c =
    choice_unmarked c.args.pending.now c.args.rest.now c.loop-place.place c.requires c.loop-place-test.false c.loop-place.invariant
