use Rattle.std.proofs.Common.{List, ◌<◌, ◌≤◌, ◌+◌, ◌++◌, ◌∷◌, [], length, sym, subst, arith, length-append, get_or}
use Rattle.std.proofs.lemmas.Option.{slice_get-get_or}
use Rattle.jm_earley.specs.declared.letter_set.LetterSet.{LetterSet}
use Rattle.jm_earley.specs.declared.continuation.Continuation.{Continuation}
use Rattle.jm_earley.specs.EarleySets.{IsFutureOf}
use Rattle.jm_earley.proofs.AnswerLemmas.{AreFuturesOf, one_more_future, all_futures}
use Rattle.jm_earley.proofs.continuation.Continuations.new.Goals as goal

pub loop-number-preserved : goal.loop-number-preserved
loop-number-preserved c =
    let g = c.args.grammar.now in
    let n = c.loop-number.number in
    let sets = c.args.sets.now.sets.items in
    let items = c.args.items.now in
    let earlier = c.args.earlier.now in
    let none : LetterSet = record { letters = 0; spells = 0; goes_on = 0 } in
    let set = get_or sets n none in
    let one : IsFutureOf g set n items earlier c.in_ok-future.future =
    subst (λ (l : List LetterSet). IsFutureOf g (get_or l n none) n items earlier c.in_ok-future.future) c.sets-set-items.ensures c.in_ok-future.ensures in
    let lt : n < length sets = rw (sym c.sets-set-items.ensures) c.loop-number-test.true in
    let more : AreFuturesOf g sets items earlier (c.loop-number.futures.items ++ c.in_ok-future.future ∷ []) (n + 1) =
    one_more_future g sets items earlier c.loop-number.futures.items n set c.in_ok-future.future c.loop-number.invariant.0 c.loop-number.invariant.1 (slice_get-get_or sets n none lt) one in (
      rw c.in_ok-push.ensures.items (simp length-append (omega (arith, c.loop-number.invariant.0))),
      subst (λ (l : List Continuation). AreFuturesOf g sets items earlier l (n + 1)) (sym c.in_ok-push.ensures.items) more,
    )

pub returns : goal.returns
returns c = λ exact word all are.
    let g = c.args.grammar.now in
    let sets = c.args.sets.now.sets.items in
    let earlier = c.args.earlier.now in
    let whole : length sets ≤ c.loop-number.number = rw (sym c.sets-set-items.ensures) (omega (arith, c.loop-number-test.false)) in
    let each : AreFuturesOf g sets c.args.items.now earlier c.loop-number.futures.items (length sets) = λ number set lt at. c.loop-number.invariant.1 number set (omega (arith, lt, whole)) at in
    all_futures g sets c.args.items.now earlier (record { futures = c.loop-number.futures }) each exact word all are
