use Rattle.std.proofs.Common.{length, ap, ◌∙◌, arith}
use Rattle.jm_machine.proofs.RuleLemmas.{count_names}
use Rattle.test_machine.proofs.rules.add_handlers.Goals as goal

pub handler_name-requires : goal.handler_name-requires
handler_name-requires c =
    let count = ap length c.handlers.ensures ∙ count_names c.args.rules.now.definition in
    omega (arith, c.if-from-len.true, c.from.ensures, c.len.ensures.value, count)
