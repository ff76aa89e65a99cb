use Rattle.std.proofs.Common.{◌<◌, length}
use Rattle.std.proofs.lemmas.List.Elements.{All-push}
use Rattle.jm_machine.proofs.PlaceLemmas.{state_next}
use Rattle.jm_machine.proofs.prepared_engine.PreparedEngine.next.Goals as goal

pub returns-in-Table-State : goal.returns-in-Table-State
returns-in-Table-State c =
    let letter = rw c.in-Table-State.is-0 at c.requires in
    rw (c.in-Table-State.is-0, c.in-Table-State.is-1)
    (λ word place. state_next c.in-Table-State.table c.in-Table-State.state c.next_state.result c.args.letter.0 word c.next_state.ensures.table letter c.next_state.ensures.next place)

pub returns-in_ok-next-in-Grammar-Parse : goal.returns-in_ok-next-in-Grammar-Parse
returns-in_ok-next-in-Grammar-Parse c =
    let letter = rw c.in-Grammar-Parse.is-0 at c.requires in
    rw (c.in-Grammar-Parse.is-0, c.in-Grammar-Parse.is-1)
    (λ word place. (All-push (λ x. x < length c.in-Grammar-Parse.charts.params) word c.args.letter.0 place.0 letter, c.in_ok-next-in-Grammar-Parse.ensures word place.1))
