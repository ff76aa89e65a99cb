-- What a reader of a formula answers.
use Rattle.std.specs.Prelude.{Bool, List}
use Rattle.jm_model.specs.Words.{Text}
use Rattle.jm_model.specs.declared.fault.SpecError.{SpecError}
use Rattle.jm_text.specs.declared.token.Token.{Token}
use Rattle.jm_events.specs.Events.{EventDefinitions}
use Rattle.jm_reading.specs.Formulas.{IsReadBy, IsRefusedBy}
use Rattle.jm_grammar.specs.Grammars.{GrammarDefinition}
use Rattle.jm_grammar.specs.Spelling.{Spells}
use Rattle.jm_grammar.specs.Faults.{grammar_of, first_fault}

module _ (bytes : Text) (tokens : List Token) (table : EventDefinitions) (suffix : Bool) where
  -- the tokens spell a formula without a fault, which says this grammar
  abbrev pub IsReadFrom : GrammarDefinition → Type 0
  IsReadFrom = IsReadBy (Spells bytes tokens) (first_fault bytes table suffix) (grammar_of bytes table)

  -- the tokens spell no formula, or one with this first fault, unless memory is short
  abbrev pub IsRefused : SpecError → Type 0
  IsRefused = IsRefusedBy (Spells bytes tokens) (first_fault bytes table suffix)
