-- What a reader of a formula answers.
use Rattle.std.specs.Prelude.{List}
use Rattle.jm_model.specs.Words.{Text}
use Rattle.jm_model.specs.declared.fault.SpecError.{SpecError}
use Rattle.jm_text.specs.declared.token.Token.{Token}
use Rattle.jm_reading.specs.Nesting.{is_too_deep}
use Rattle.jm_reading.specs.Formulas.{IsReadWithin, IsRefusedWithin}
use Rattle.jm_events.specs.Events.{EventDefinitions, event_names}
use Rattle.jm_ere.specs.Expressions.{Expression}
use Rattle.jm_ere.specs.Spelling.{Spells}
use Rattle.jm_ere.specs.Faults.{expression_said, first_fault}

-- no 65th parenthesis is open at once, and the tokens spell a formula without a fault, which says this expression
abbrev pub IsReadFrom : Text → List Token → EventDefinitions → Expression → Type 0
IsReadFrom bytes tokens table =
    IsReadWithin (Spells bytes tokens) (first_fault bytes table) (is_too_deep bytes 0 tokens)
    (expression_said bytes (event_names table))

-- a 65th parenthesis is open at once; or else the tokens spell no formula, or one with this first fault; or memory is
-- short
abbrev pub IsRefused : Text → List Token → EventDefinitions → SpecError → Type 0
IsRefused bytes tokens table =
    IsRefusedWithin (Spells bytes tokens) (first_fault bytes table) (is_too_deep bytes 0 tokens)
