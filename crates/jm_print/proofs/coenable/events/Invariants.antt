use Rattle.std.proofs.Common.{◌≡◌, ◌++◌, take, map}
use Rattle.jm_events.specs.Events.{event_names}
use Rattle.jm_print.specs.Coenables.{family_lines}
use Rattle.jm_print.proofs.coenable.events.Given as goal

abbrev pub invariant-loop-letter : goal.invariant-loop-letter
invariant-loop-letter l =
    l.page
    ≡ l.initial.page
    ++ family_lines l.table.parameters (take l.letter (event_names l.table)) (take l.letter (map (λ family. family.items) l.families))
