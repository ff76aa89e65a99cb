use Rattle.std.proofs.Common.{refl, sym, ◌∙◌, arith}
use Rattle.jm_machine.proofs.table_liveness.plain_state.Goals as goal

pub returns-then-reached-state : goal.returns-then-reached-state
returns-then-reached-state c = record {
  moves = λ some moves. absurd (moves refl);
  rests = λ _. record {
    letter = c.requires.letter;
    next = sym c.if-reached-state.true ∙ c.step-reached.ensures.value;
    quiet = rw (← c.if-reached-state.true) c.if-hits-reached-eq0.true;
    goes_on = λ u g v needs. rw (← c.if-reached-state.true) (((c.alive.ensures u g v needs).0 c.if-alive.true).1);
  };
}

pub returns-else-reached-state : goal.returns-else-reached-state
returns-else-reached-state c = record {
  moves = λ some moves. record {
    letter = c.requires.letter;
    next = c.step-reached.ensures.value;
    quiet = c.if-hits-reached-eq0.true;
    goes_on = λ u g v needs. ((c.alive.ensures u g v needs).0 c.if-alive.true).1;
  };
  rests = λ is. absurd (omega (arith, is, c.step-reached.ensures.within, c.len-states.ensures.table.few_states));
}
