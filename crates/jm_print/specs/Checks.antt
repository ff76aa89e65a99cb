-- The text of the command `check`: what a specification declares.
use Rattle.std.specs.Prelude.{Bool, List, [], ◌++◌, codes, map, if◌then◌else◌}
use Rattle.std.specs.List.{flat_map}
use Rattle.jm_model.specs.Words.{Text, Mask}
use Rattle.jm_events.specs.Events.{EventDefinition, EventDefinitions}
use Rattle.jm_spec.specs.declared.tree.Logic.{Logic}
use Rattle.jm_spec.specs.declared.tree.Logic.TheVariants.{Fsm, Ere, Cfg, Ptltl}
use Rattle.jm_print.specs.Lists.{name_list, names_or_dash, names_of_mask}

-- the word of a logic
abbrev pub logic_word : Logic → Text
logic_word Fsm = codes "fsm"
logic_word Ere = codes "ere"
logic_word Cfg = codes "cfg"
logic_word Ptltl = codes "ptltl"

-- an event of a name, with the parameters of a mask
abbrev pub event_text : List Text → Bool → Text → Mask → Text
event_text parameters creation name mask =
    (if creation then codes "creation event " else codes "event ") ++ name ++ codes " "
    ++ names_or_dash (names_of_mask parameters mask) ++ codes "\n"

abbrev pub event_line : List Text → EventDefinition → Text
event_line parameters e = event_text parameters e.creation e.name e.mask

-- a handler's name
abbrev pub handler_line : Text → Text
handler_line name = codes "handler @" ++ name ++ codes "\n"

-- what a specification of this name declares, whose properties have these logics
abbrev pub check_text : Text → List Logic → Bool → Bool → EventDefinitions → List Text → Text
check_text name logics full_binding suffix table handlers =
    codes "spec " ++ name ++ codes " " ++ name_list (map logic_word logics) ++ codes "\n"
    ++ (if full_binding then codes "full-binding\n" else []) ++ (if suffix then codes "suffix\n" else [])
    ++ codes "params " ++ names_or_dash table.parameters ++ codes "\n"
    ++ flat_map (event_line table.parameters) table.events ++ flat_map handler_line handlers
    ++ codes "end\n"
