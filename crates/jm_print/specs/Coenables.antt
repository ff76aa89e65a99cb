-- The text of the command `coenable`: the coenable sets of each event.
use Rattle.std.specs.Prelude.{List, [], ◌∷◌, ◌++◌, codes}
use Rattle.std.specs.List.{flat_map}
use Rattle.jm_model.specs.Words.{Text, Mask}
use Rattle.jm_events.specs.Events.{EventDefinitions, event_names}
use Rattle.jm_print.specs.Lists.{name_list, names_of_mask}

-- a set of parameters
abbrev pub set_text : List Text → Mask → Text
set_text parameters mask = codes " {" ++ name_list (names_of_mask parameters mask) ++ codes "}"

-- an event of a name, with its family of sets
abbrev pub family_line : List Text → Text → List Mask → Text
family_line parameters name family = codes "event " ++ name ++ flat_map (set_text parameters) family ++ codes "\n"

-- the events of these names with their families
abbrev pub family_lines : List Text → List Text → List (List Mask) → Text
family_lines parameters (name ∷ names) (family ∷ families) =
    family_line parameters name family ++ family_lines parameters names families
family_lines parameters _ _ = []

-- the coenable sets of a specification of this name
abbrev pub coenable_text : Text → EventDefinitions → List (List Mask) → Text
coenable_text name table families =
    codes "spec " ++ name ++ codes "\n" ++ family_lines table.parameters (event_names table) families ++ codes "end\n"
