use Rattle.std.proofs.Common.{ℕ, List, refl, subst}
use Rattle.std.specs.Prelude.{◌↔◌}
use Rattle.jm_ere.specs.Expressions.{Expression}
use Rattle.jm_ere.specs.Meanings.{InLanguage}
use Rattle.jm_ere.specs.Suffixes.{EndsIn}
use Rattle.jm_machine.specs.declared.formula.Formula.TheVariants.{RegularSuffix}
use Rattle.jm_machine.proofs.FormulaLemmas.{suffix_compiled, table_engine, never_bad}
use Rattle.jm_machine.proofs.formula.runs_suffixes.Goals as goal

pub returns-clause-engine : goal.returns-clause-engine
returns-clause-engine c =
    let formula = c.args.expression.now in
    let made = c.in_ok-compile in
    let changed = c.in_ok-changed.changed in
    let words = subst (λ (x : Expression). (w : List ℕ) → InLanguage changed w ↔ EndsIn (InLanguage x) w) c.in_ok-copy.ensures c.in_ok-changed.ensures.words in
    table_engine c.args.events.now.events (RegularSuffix formula) made.field-0 c.minimal.result refl made.ensures.letters made.ensures.groups (suffix_compiled formula changed made.field-0 words made.ensures.compiled) c.minimal.ensures.minimised

pub returns-clause-err : goal.returns-clause-err
returns-clause-err c = never_bad _ c.minimal.result c.minimal.ensures.err
