-- What is wrong with a formula, step by step, and the machine that it says.
use Rattle.std.specs.Prelude.{Bool, true, false, ◌||◌, List, [], ◌∷◌, ◌++◌, Option, Some, None, Result, Ok, codes, nat_lt, count_by, option_map, if◌then◌else◌}
use Rattle.std.specs.Str.{bytes_eq}
use Rattle.std.specs.Option.{ok_or}
use Rattle.jm_model.specs.Words.{Text}
use Rattle.jm_model.specs.declared.step.Letter.{Letter}
use Rattle.jm_model.specs.declared.fault.Counted.TheVariants.{Aliases}
use Rattle.jm_model.specs.declared.fault.SpecFault.{SpecFault}
use Rattle.jm_model.specs.declared.fault.SpecFault.TheVariants.{TooMany, ReservedName, DuplicateState, DuplicateTransition, TooManyStates, UnknownName}
use Rattle.jm_text.specs.declared.token.Token.{Token}
use Rattle.jm_reading.specs.Tokens.{name_of}
use Rattle.jm_reading.specs.Faults.{or_else, ◌>>>◌, with_each, fault_of}
use Rattle.jm_reading.specs.Events.{reserved_event_fault, letter_said}
use Rattle.jm_events.specs.Names.{number_of, with_name}
use Rattle.jm_events.specs.Events.{EventDefinitions, event_names}
use Rattle.jm_fsm.specs.declared.machine.Destination.{Destination}
use Rattle.jm_fsm.specs.declared.machine.Destination.TheVariants.{State, Fail}
use Rattle.jm_fsm.specs.declared.formula.TransitionText.{TransitionText}
use Rattle.jm_fsm.specs.declared.formula.TransitionText.TheVariants.{On, Fallback}
use Rattle.jm_fsm.specs.declared.formula.Part.{Part}
use Rattle.jm_fsm.specs.declared.formula.Part.TheVariants.{Declaration, Alias}
use Rattle.jm_fsm.specs.Spelling.{is_state}
use Rattle.jm_reading.specs.Names.{is_among}
use Rattle.jm_fsm.specs.Machines.{StateDefinition, AliasDefinition, StateMachine}

abbrev pub is_alias : Part → Bool
is_alias (Declaration name transitions) = false
is_alias (Alias name members) = true

-- the name of a state or an alias
abbrev pub name_token : Part → Token
name_token (Declaration name transitions) = name
name_token (Alias name members) = name

-- there are at most 256 aliases
abbrev pub aliases_fault : List Part → Option SpecFault
aliases_fault parts = if nat_lt 256 (count_by is_alias parts) then Some (TooMany Aliases) else None

-- with `fail` there are at most 1,024 states
abbrev pub states_fault : List Part → Option SpecFault
states_fault parts = if nat_lt 1023 (count_by is_state parts) then Some TooManyStates else None

-- the words of the grammar
abbrev pub is_grammar_word : Text → Bool
is_grammar_word name = bytes_eq name (codes "alias") || bytes_eq name (codes "default")

-- no state or alias is named so, or `fail`
abbrev pub is_reserved : Text → Bool
is_reserved name = bytes_eq name (codes "fail") || is_grammar_word name

module _ (bytes : Text) where
  abbrev pub part_name_fault : List Part → Option SpecFault
  part_name_fault [] = None
  part_name_fault (p ∷ ps) = if is_reserved (name_of bytes (name_token p))
      then Some (ReservedName (name_token p).line) else part_name_fault ps

  -- no state or alias has the name of an earlier one, or one of these
  abbrev pub duplicate_state_fault : List Text → List Part → Option SpecFault
  duplicate_state_fault names [] = None
  duplicate_state_fault names (p ∷ ps) =
      if is_among names (name_of bytes (name_token p)) then Some (DuplicateState (name_token p).line)
      else duplicate_state_fault (with_name names (name_of bytes (name_token p))) ps

  -- in a state no transition is on the event of an earlier one, or one of these events, and at most one is a `default`
  abbrev pub duplicate_transition_fault : List Text → Bool → List TransitionText → Option SpecFault
  duplicate_transition_fault events known_default [] = None
  duplicate_transition_fault events known_default (On event destination ∷ ts) =
      if is_among events (name_of bytes event) then Some (DuplicateTransition event.line)
      else duplicate_transition_fault (with_name events (name_of bytes event)) known_default ts
  duplicate_transition_fault events known_default (Fallback word destination ∷ ts) =
      if known_default then Some (DuplicateTransition word.line) else duplicate_transition_fault events true ts

  abbrev pub part_transitions_fault : Part → Option SpecFault
  part_transitions_fault (Declaration name transitions) = duplicate_transition_fault [] false transitions
  part_transitions_fault (Alias name members) = None

  abbrev pub transitions_fault : List Part → Option SpecFault
  transitions_fault [] = None
  transitions_fault (p ∷ ps) = or_else (part_transitions_fault p) (transitions_fault ps)

  -- the names of the states, in order
  abbrev pub state_names : List Part → List Text
  state_names [] = []
  state_names (Declaration name transitions ∷ ps) = name_of bytes name ∷ state_names ps
  state_names (Alias name members ∷ ps) = state_names ps

-- the state of a name, or `fail`
abbrev pub destination_named : List Text → Text → Option Destination
destination_named states name =
    if bytes_eq name (codes "fail") then Some Fail else option_map (λ k. State k) (number_of states name)

-- The machine that a formula says, among these states and events: what it says is added one after the other, and the
-- first name that isn't there is the fault.
module _ (bytes : Text) (states : List Text) where
  -- where a name leads
  abbrev pub destination_said : Token → Result Destination SpecFault
  destination_said token = ok_or (destination_named states (name_of bytes token)) (UnknownName token.line)

  abbrev pub with_member : AliasDefinition → Token → Result AliasDefinition SpecFault
  with_member a member = destination_said member >>> λ to. Ok (record a { members = a.members ++ to ∷ [] })

  abbrev pub alias_said : Token → List Token → Result AliasDefinition SpecFault
  alias_said name members = with_each with_member (record { name = name_of bytes name; members = [] }) members

abbrev pub with_listed : StateDefinition → Letter → Destination → StateDefinition
with_listed s letter destination =
    record s { transitions = s.transitions ++ record { letter = letter; destination = destination } ∷ [] }

module _ (bytes : Text) (events states : List Text) where
  abbrev pub with_transition : StateDefinition → TransitionText → Result StateDefinition SpecFault
  with_transition s (On event destination) =
      letter_said bytes events event >>> λ letter. destination_said bytes states destination
      >>> λ to. Ok (with_listed s letter to)
  with_transition s (Fallback word destination) =
      destination_said bytes states destination >>> λ to. Ok (record s { fallback = Some to })

  abbrev pub state_said : Token → List TransitionText → Result StateDefinition SpecFault
  state_said name transitions =
      with_each with_transition (record { name = name_of bytes name; transitions = []; fallback = None }) transitions

  abbrev pub with_part : StateMachine → Part → Result StateMachine SpecFault
  with_part m (Declaration name transitions) =
      state_said name transitions >>> λ s. Ok (record m { states = m.states ++ s ∷ [] })
  with_part m (Alias name members) =
      alias_said bytes states name members >>> λ a. Ok (record m { aliases = m.aliases ++ a ∷ [] })

module _ (bytes : Text) (table : EventDefinitions) (parts : List Part) where
  unfoldable pub machine_of : Result StateMachine SpecFault
  machine_of =
      with_each (with_part bytes (event_names table) (state_names bytes parts))
      (record { states = []; aliases = [] }) parts

  -- the fault of the first step that has one: too many aliases, reserved names of events and then of states and
  -- aliases, duplicate states and aliases, duplicate transitions, too many states, unknown names
  unfoldable pub first_fault : Option SpecFault
  first_fault =
      or_else (aliases_fault parts)
      (or_else (reserved_event_fault is_grammar_word table.events)
      (or_else (part_name_fault bytes parts)
      (or_else (duplicate_state_fault bytes [] parts)
      (or_else (transitions_fault bytes parts)
      (or_else (states_fault parts)
      (fault_of machine_of))))))
