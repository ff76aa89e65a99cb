use Rattle.std.specs.Prelude.{ℕ, ◌==◌, Bool, ◌||◌, List, [], ◌∷◌, ◌++◌, Option, Some, None, IsTrue, IsSomeAnd, map, length, find, slice_get, if◌then◌else◌}
use Rattle.std.specs.List.{list_any}
use Rattle.std.specs.Option.{option_map_or}
use Rattle.std.specs.Str.{bytes_eq}
use Rattle.jm_model.specs.Words.{Text, Mask}
use Rattle.jm_model.specs.declared.fault.Counted.TheVariants.{Parameters, Events}
use Rattle.jm_model.specs.declared.fault.SpecFault.{SpecFault}
use Rattle.jm_model.specs.declared.fault.SpecFault.TheVariants.{DuplicateParameter, DuplicateEvent, TooMany}

-- an event: its name, the set of its parameters, whether it is a creation event, and the line of its first mention
pub record EventDefinition : Type 0 where
  pub name : Text
  pub mask : Mask
  pub creation : Bool
  pub line : ℕ

-- the names of a specification's parameters, and its events; a letter is the place of an event
pub record EventDefinitions : Type 0 where
  pub parameters : List Text
  pub events : List EventDefinition

-- the names of the events
abbrev pub event_names : EventDefinitions → List Text
event_names t = map (λ e. e.name) t.events

-- the event of a letter is a creation event
abbrev pub IsCreation : EventDefinitions → ℕ → Type 0
IsCreation t letter = IsSomeAnd (slice_get t.events letter) (λ e. IsTrue e.creation)

-- what is wrong with one more parameter: its name is there, or eight are
abbrev pub parameter_fault : EventDefinitions → Text → ℕ → Option SpecFault
parameter_fault t name line =
    if list_any (bytes_eq name) t.parameters then Some (DuplicateParameter line)
    else (if length t.parameters == 8 then Some (TooMany Parameters) else None)

-- the definitions with one parameter more
abbrev pub with_parameter : EventDefinitions → Text → EventDefinitions
with_parameter t name = record t { parameters = t.parameters ++ name ∷ [] }

-- the event of a name
abbrev pub event_named : EventDefinitions → Text → Option EventDefinition
event_named t name = find (λ e. bytes_eq name e.name) t.events

-- what is wrong with a mention of an event: its name is there with another set of parameters, or it is new and 32
-- are there
abbrev pub event_fault : EventDefinitions → EventDefinition → Option SpecFault
event_fault t e =
    option_map_or (λ known. if known.mask == e.mask then None else Some (DuplicateEvent e.line)) (event_named t e.name)
    (if length t.events == 32 then Some (TooMany Events) else None)

-- what a known event is after a mention of e: if it is that event and the mention says so, a creation event
abbrev pub after_mention : EventDefinition → EventDefinition → EventDefinition
after_mention e known =
    if bytes_eq e.name known.name then record known { creation = known.creation || e.creation } else known

-- the definitions after a mention of an event: a new one goes last
abbrev pub with_event : EventDefinitions → EventDefinition → EventDefinitions
with_event t e =
    record t {
      events = if list_any (bytes_eq e.name) (event_names t) then map (after_mention e) t.events
          else t.events ++ e ∷ [];
    }
