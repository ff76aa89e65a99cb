-- What is wrong with a frame, step by step.
use Rattle.std.specs.Prelude.{ℕ, ◌^◌, Bool, ◌&&◌, List, [], ◌∷◌, length, Option, Some, None, Result, Ok, Err, codes, nat_le, nat_lt, bit_or, if◌then◌else◌}
use Rattle.std.specs.Str.{bytes_eq}
use Rattle.jm_model.specs.Words.{Text, Mask}
use Rattle.jm_model.specs.declared.fault.Counted.TheVariants.{Properties}
use Rattle.jm_model.specs.declared.fault.SpecFault.{SpecFault}
use Rattle.jm_model.specs.declared.fault.SpecFault.TheVariants.{UnsupportedModifier, UnsupportedAdvice, NoProperty, TooMany, UnsupportedLogic}
use Rattle.jm_text.specs.declared.token.Token.{Token}
use Rattle.jm_text.specs.Spans.{text_of}
use Rattle.jm_text.specs.Texts.{is_name}
use Rattle.jm_reading.specs.Faults.{or_else, ◌>>>◌, with_each, fault_of}
use Rattle.jm_events.specs.Names.{number_of}
use Rattle.jm_events.specs.Events.{EventDefinitions, EventDefinition, parameter_fault, with_parameter, event_fault, with_event}
use Rattle.jm_spec.specs.declared.head.Modifier.{Modifier}
use Rattle.jm_spec.specs.declared.head.Modifier.TheVariants.{FullBinding, Suffix, NoEffect, Unsupported}
use Rattle.jm_spec.specs.declared.events.Advice.{Advice}
use Rattle.jm_spec.specs.declared.events.Advice.TheVariants.{Known, Other}
use Rattle.jm_spec.specs.declared.events.Mention.{Mention}
use Rattle.jm_spec.specs.declared.property.Property.{Property}
use Rattle.jm_spec.specs.declared.frame.Frame.{Frame}
use Rattle.jm_spec.specs.declared.tree.Logic.{Logic}
use Rattle.jm_spec.specs.declared.tree.Logic.TheVariants.{Fsm, Ere, Cfg, Ptltl}

-- the first modifier that isn't supported
abbrev pub modifier_fault : List Modifier → Option SpecFault
modifier_fault [] = None
modifier_fault (FullBinding ∷ ms) = modifier_fault ms
modifier_fault (Suffix line ∷ ms) = modifier_fault ms
modifier_fault (NoEffect ∷ ms) = modifier_fault ms
modifier_fault (Unsupported line ∷ ms) = Some (UnsupportedModifier line)

-- the first event with an advice that isn't supported
abbrev pub advice_or : Advice → Option SpecFault → Option SpecFault
advice_or (Known names) others = others
advice_or (Other line) others = Some (UnsupportedAdvice line)

abbrev pub advice_fault : List Mention → Option SpecFault
advice_fault [] = None
advice_fault (e ∷ es) = advice_or e.advice (advice_fault es)

-- how many properties a specification has at most
abbrev pub most_properties : ℕ
most_properties = 16

-- there are 1 to 16 properties
abbrev pub property_fault : List Property → Option SpecFault
property_fault [] = Some NoProperty
property_fault (p ∷ ps) = if nat_lt most_properties (length (p ∷ ps)) then Some (TooMany Properties) else None

-- the name that a token of the bytes says, if it says one
unfoldable pub name_of : Text → Token → Option Text
name_of bytes token = if nat_le token.start token.end && nat_le token.end (length bytes) && is_name bytes token
    then Some (text_of bytes token) else None

-- the logic of a name
abbrev pub logic_named : Text → Option Logic
logic_named name =
    if bytes_eq name (codes "fsm") then Some Fsm
    else if bytes_eq name (codes "ere") then Some Ere
    else if bytes_eq name (codes "cfg") then Some Cfg
    else if bytes_eq name (codes "ptltl") then Some Ptltl
    else None

abbrev pub logic_said : Option Text → Option Logic
logic_said None = None
logic_said (Some name) = logic_named name

abbrev pub logic_of : Text → Token → Option Logic
logic_of bytes token = logic_said (name_of bytes token)

-- the first property whose logic is none of the four
abbrev pub unless_known : Option Logic → SpecFault → Option SpecFault
unless_known None fault = Some fault
unless_known (Some logic) fault = None

abbrev pub logic_fault : Text → List Property → Option SpecFault
logic_fault bytes [] = None
logic_fault bytes (p ∷ ps) =
    or_else (unless_known (logic_of bytes p.logic) (UnsupportedLogic p.logic.line)) (logic_fault bytes ps)

-- the table, unless there is a fault
abbrev pub unless : Option SpecFault → EventDefinitions → Result EventDefinitions SpecFault
unless None t = Ok t
unless (Some fault) t = Err fault

-- the table with one parameter more
abbrev pub with_param : EventDefinitions → Option Text → ℕ → Result EventDefinitions SpecFault
with_param t None line = Ok t
with_param t (Some name) line = unless (parameter_fault t name line) (with_parameter t name)

-- the table with the parameters of the head, one after the other (each of them is a name)
abbrev pub with_params : Text → EventDefinitions → List Token → Result EventDefinitions SpecFault
with_params bytes = with_each (λ t p. with_param t (name_of bytes p) p.line)

-- a set of parameters with a parameter more, if there is one
abbrev pub with_bit : Mask → Option ℕ → Mask
with_bit mask None = mask
with_bit mask (Some p) = bit_or mask (2 ^ p)

abbrev pub number_said : EventDefinitions → Option Text → Option ℕ
number_said t None = None
number_said t (Some name) = number_of t.parameters name

-- this set and those of the names that are parameters
abbrev pub with_names : Text → EventDefinitions → Mask → List Token → Mask
with_names bytes t mask [] = mask
with_names bytes t mask (n ∷ ns) = with_names bytes t (with_bit mask (number_said t (name_of bytes n))) ns

-- the table with a mention of an event more
abbrev pub with_mention : EventDefinitions → Option Text → Mask → Bool → ℕ → Result EventDefinitions SpecFault
with_mention t None mask creation line = Ok t
with_mention t (Some name) mask creation line =
    let e : EventDefinition = record { name = name; mask = mask; creation = creation; line = line } in unless
    (event_fault t e) (with_event t e)

-- an event's parameters are the names of its lists that are parameters
abbrev pub with_advice : Text → EventDefinitions → Mention → Advice → Result EventDefinitions SpecFault
with_advice bytes t e (Known names) =
    with_mention t (name_of bytes e.name) (with_names bytes t 0 names) e.creation e.name.line
with_advice bytes t e (Other line) = Ok t

-- the table with the events, one mention after the other
abbrev pub with_events : Text → EventDefinitions → List Mention → Result EventDefinitions SpecFault
with_events bytes = with_each (λ t e. with_advice bytes t e e.advice)

-- the table of a frame: first its parameters, then its events
abbrev pub table_of : Text → List Token → List Mention → Result EventDefinitions SpecFault
table_of bytes params events =
    with_params bytes (record { parameters = []; events = [] }) params >>> λ t. with_events bytes t events

-- the fault of the first step that has one: the modifiers, the advice, the number of properties, the logics, the
-- parameters and the events
unfoldable pub frame_fault : Text → Frame → Option SpecFault
frame_fault bytes frame =
    or_else (modifier_fault frame.modifiers)
    (or_else (advice_fault frame.events)
    (or_else (property_fault frame.properties)
    (or_else (logic_fault bytes frame.properties)
    (fault_of (table_of bytes frame.params frame.events)))))
