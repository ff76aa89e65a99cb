use Rattle.std.proofs.Common.{inl, inr, refl}
use Rattle.jm_machine.specs.declared.formula.Formula.TheVariants.{Regular}
use Rattle.jm_machine.proofs.FormulaLemmas.{regular_compiled, table_engine, any_ok, never_bad}
use Rattle.jm_machine.proofs.formula.runs_regular.Goals as goal

pub returns-clause-engine : goal.returns-clause-engine
returns-clause-engine c =
    let formula = c.args.expression.now in
    let made = c.in_ok-compile in
    table_engine c.args.events.now.events (Regular formula) made.field-0 c.minimal.result refl made.ensures.letters made.ensures.groups (regular_compiled formula made.field-0 made.ensures.compiled) c.minimal.ensures.minimised

pub returns-clause-settled : goal.returns-clause-settled
returns-clause-settled c = any_ok _ c.minimal.result (λ fault bad. elim (c.in_ok-compile.ensures.refused fault bad) [ inl h ↦ absurd cc | inr h ↦ absurd cc ])

pub returns-clause-err : goal.returns-clause-err
returns-clause-err c = never_bad _ c.minimal.result c.minimal.ensures.err
