use Rattle.std.proofs.Common.{Some, ap, ◌∙◌}
use Rattle.std.proofs.lemmas.List.Elements.{All-pop}
use Rattle.jm_turn.specs.Seats.{IsSeatOf}
use Rattle.test_turn.specs.Runners.{IsRunnerOf}
use Rattle.test_turn.proofs.Pushes.{all_pushed}
use Rattle.test_turn.proofs.rounds.passed_round.Goals as goal

pub returns-clause-each : goal.returns-clause-each
returns-clause-each c =
    let i = c.loop-seat.invariant in
    let last = (All-pop (λ s. IsSeatOf c.args.lock.now s) c.args.seats.items c.pop.new.self.items (Some c.in_ok-last.last) c.in_ok-last.ensures.items c.requires).1 in
    all_pushed (λ r. IsRunnerOf c.args.lock.now r) c.loop-seat.runners.items _ _ _ c.push-2.ensures.items i.each (ap (λ s. s.lock) c.note-note.ensures.unchanged ∙ last, i.note)
