use Rattle.std.proofs.Common.{refl, sym, ◌∙◌}
use Rattle.jm_machine.specs.declared.formula.Formula.TheVariants.{Machine}
use Rattle.jm_machine.proofs.FormulaLemmas.{machine_count, machine_compiled, table_engine, any_ok, never_bad}
use Rattle.jm_machine.proofs.formula.runs_machine.Goals as goal

pub returns-clause-engine : goal.returns-clause-engine
returns-clause-engine c =
    let formula = c.args.machine.now in
    let made = c.in_ok-compile in
    table_engine c.args.events.now.events (Machine formula) made.field-0 c.minimal.result refl made.ensures.letters (made.ensures.groups ∙ sym (machine_count formula)) (machine_compiled formula made.field-0 (machine_count formula) made.ensures.compiled) c.minimal.ensures.minimised

pub returns-clause-settled : goal.returns-clause-settled
returns-clause-settled c = any_ok _ c.minimal.result (λ fault bad. bad)

pub returns-clause-err : goal.returns-clause-err
returns-clause-err c = never_bad _ c.minimal.result c.minimal.ensures.err
