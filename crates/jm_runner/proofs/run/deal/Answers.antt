use Rattle.std.proofs.Common.{◌≡◌, ◌++◌, ◌∙◌, [], length, map, sym, ap, arith, append-nil, length-append}
use Rattle.std.proofs.lemmas.List.{length-map}
use Rattle.jm_runner.proofs.ThreadLemmas.{none_left, ends}
use Rattle.jm_runner.proofs.run.deal.Goals as goal

pub returns-clause-seats : goal.returns-clause-seats
returns-clause-seats g c =
    let was = c.loop-seats.invariant in
    let rest = c.loop-seats.seats-iterator.rest in
    let none : rest.items ≡ [] = none_left rest.items (omega (arith, rest.ok.0, c.in-None.ensures.steps.0)) in
    was.seats ∙ ends c.loop-seats.yielded _ _ was.all none ∙ c.into_iter-seats-iterator.ensures.into_iter_gives.0

pub returns-clause-lines : goal.returns-clause-lines
returns-clause-lines g c =
    let hands = c.loop-seats.hands.items in
    let rest = c.loop-seats.scripts.rest.items in
    let first = map (λ h. h.lines) hands in
    let whole : first ++ rest ≡ c.args.scripts.items = c.loop-seats.invariant.lines in
    let size : length hands ≡ length c.args.seats.items = sym (length-map hands (λ h. h.seats)) ∙ ap length (returns-clause-seats g c) in
    let none : rest ≡ [] = none_left rest (omega (arith, size, length-map hands (λ h. h.lines), length-append first rest, ap length whole, c.requires, c.args.seats.ok.0, c.args.scripts.ok.0)) in
    sym (append-nil first) ∙ ap (λ l. first ++ l) (sym none) ∙ whole
