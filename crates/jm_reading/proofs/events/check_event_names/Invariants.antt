use Rattle.std.proofs.Common.{◌≡◌, drop}
use Rattle.jm_reading.specs.Events.{reserved_event_fault}
use Rattle.jm_reading.proofs.events.check_event_names.Given as goal

abbrev pub invariant-loop-letter : goal.invariant-loop-letter
invariant-loop-letter g l = reserved_event_fault g.W.GrammarWords.reserved (drop l.letter l.table.events) ≡ reserved_event_fault g.W.GrammarWords.reserved l.table.events
