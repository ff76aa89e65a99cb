use Rattle.std.proofs.Common.{◌∙◌}
use Rattle.jm_machine.proofs.NamingLemmas.{names_several, none_of_empty, some_of_more}
use Rattle.jm_machine.proofs.rules.Rules.new.Goals as goal
use Rattle.jm_machine.proofs.rules.Rules.new.Goals.{then-is_empty, else-is_empty+in_ok-numbered_names}

pub invariant_of-result : goal.invariant_of-result
invariant_of-result c =
    let first = c.args.first in
    let others = c.args.others.items in
    record {
      alike = c.requires.alike;
      properties = c.requires.properties;
      handlers = c.requires.handlers;
      names = elim c.if-is_empty.branch [
        | then-is_empty w ↦ rw w.names-is (none_of_empty others c.args.others.len c.args.others.ok.0 w.if-is_empty.ensures)
        | else-is_empty+in_ok-numbered_names w ↦ rw w.names-is
            (rw w.as_slice.ensures.value at w.in_ok-numbered_names.ensures ∙ names_several first others (some_of_more others c.args.others.len c.args.others.ok.0 w.if-is_empty.ensures))
      ];
    }
