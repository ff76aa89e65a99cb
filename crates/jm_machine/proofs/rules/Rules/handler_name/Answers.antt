use Rattle.std.proofs.Common.{length, ap, ◌∙◌, arith}
use Rattle.jm_machine.proofs.RuleLemmas.{count_names}
use Rattle.jm_machine.proofs.rules.Rules.handler_name.Goals as goal

pub name-requires : goal.name-requires
name-requires c =
    let count = ap length c.handlers.ensures ∙ count_names c.args.self.now.definition in
    omega (arith, c.requires, count)
