-- What a reader of a formula answers.
use Rattle.std.specs.Prelude.{List}
use Rattle.jm_model.specs.Words.{Text}
use Rattle.jm_model.specs.declared.step.Letter.{Letter}
use Rattle.jm_model.specs.declared.fault.SpecError.{SpecError}
use Rattle.jm_text.specs.declared.token.Token.{Token}
use Rattle.jm_events.specs.Events.{EventDefinitions, event_names}
use Rattle.jm_reading.specs.Nesting.{is_too_deep}
use Rattle.jm_reading.specs.Formulas.{IsReadWithin, IsRefusedWithin}
use Rattle.jm_ptltl.specs.Formulas.{Formula}
use Rattle.jm_ptltl.specs.Spelling.{Spells}
use Rattle.jm_ptltl.specs.Faults.{first_fault, formula_said}

module _ (bytes : Text) (tokens : List Token) (table : EventDefinitions) where
  -- no 65th parenthesis is open at once, and the tokens spell a formula without a fault, which says this one over
  -- letters
  abbrev pub IsReadFrom : Formula Letter → Type 0
  IsReadFrom =
      IsReadWithin (Spells bytes tokens) (first_fault bytes table) (is_too_deep bytes 0 tokens)
      (formula_said bytes (event_names table))

  -- a 65th parenthesis is open at once; else the tokens spell no formula, or one with this first fault; unless memory
  -- is short
  abbrev pub IsRefused : SpecError → Type 0
  IsRefused = IsRefusedWithin (Spells bytes tokens) (first_fault bytes table) (is_too_deep bytes 0 tokens)
