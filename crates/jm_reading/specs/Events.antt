-- The events of a specification and its formula.
use Rattle.std.specs.Prelude.{Bool, List, [], ◌∷◌, Option, Some, None, Result, option_map, if◌then◌else◌}
use Rattle.std.specs.Option.{ok_or}
use Rattle.jm_model.specs.Words.{Text}
use Rattle.jm_model.specs.declared.step.Letter.{Letter}
use Rattle.jm_model.specs.declared.fault.SpecFault.{SpecFault}
use Rattle.jm_model.specs.declared.fault.SpecFault.TheVariants.{ReservedName, UnknownName}
use Rattle.jm_text.specs.declared.token.Token.{Token}
use Rattle.jm_events.specs.Names.{number_of}
use Rattle.jm_events.specs.Events.{EventDefinition}
use Rattle.jm_reading.specs.Tokens.{name_of}

-- no event is named by a word of the grammar
abbrev pub reserved_event_fault : (Text → Bool) → List EventDefinition → Option SpecFault
reserved_event_fault is_word [] = None
reserved_event_fault is_word (e ∷ es) =
    if is_word e.name then Some (ReservedName e.line) else reserved_event_fault is_word es

-- the letter of an event's name
abbrev pub letter_said : Text → List Text → Token → Result Letter SpecFault
letter_said bytes events token =
    ok_or (option_map (λ k. record { 0 = k }) (number_of events (name_of bytes token))) (UnknownName token.line)
