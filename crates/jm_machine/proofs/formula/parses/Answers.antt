use Rattle.jm_machine.proofs.FormulaLemmas.{parser_engine}
use Rattle.jm_machine.proofs.formula.parses.Goals as goal

pub returns-clause-engine : goal.returns-clause-engine
returns-clause-engine c = parser_engine c.args.grammar.now c.in_ok-of.field-0 c.in_ok-of.ensures.words c.args.events.now.events c.in_ok-of.ensures.params
