-- The event that a line names.
use Rattle.std.specs.Prelude.{ℕ, zero, suc, ◌/◌, ◌%◌, ◌==◌, count_ones, List, [], ◌∷◌, Option, Some, None, Result, Ok, Err, slice_get, if◌then◌else◌}
use Rattle.std.specs.Option.{option_map_or}
use Rattle.jm_model.specs.Words.{Text}
use Rattle.jm_model.specs.declared.fault.ScriptFault.{ScriptFault}
use Rattle.jm_model.specs.declared.fault.ScriptFault.TheVariants.{UnknownSpec, UnknownEvent, WrongCount}
use Rattle.jm_events.specs.Names.{number_of}
use Rattle.jm_events.specs.Events.{EventDefinitions, event_names}
use Rattle.jm_script.specs.Catalogs.{CatalogEntry, spec_names, table_of}
use Rattle.jm_script.specs.declared.event.NamedEvent.{NamedEvent}

-- the set of the parameters of an event
abbrev pub mask_at : EventDefinitions → ℕ → ℕ
mask_at table letter = option_map_or (λ e. e.mask) (slice_get table.events letter) 0

-- an event of so many objects, if it has as many parameters
abbrev pub counted : ℕ → ℕ → NamedEvent → Result NamedEvent ScriptFault
counted line count event = if count_ones event.mask == count then Ok event else Err (WrongCount line)

-- the event of a specification, by its letter, if it has one
abbrev pub event_in : ℕ → ℕ → ℕ → EventDefinitions → Option ℕ → Result NamedEvent ScriptFault
event_in line count spec table None = Err (UnknownEvent line)
event_in line count spec table (Some letter) =
    counted line count (record { spec = spec; letter = record { 0 = letter }; mask = mask_at table letter })

-- the event of a name, in the specification of this number, if there is one
abbrev pub event_at : ℕ → ℕ → List CatalogEntry → Text → Option ℕ → Result NamedEvent ScriptFault
event_at line count catalog event None = Err (UnknownSpec line)
event_at line count catalog event (Some spec) =
    event_in line count spec (table_of catalog spec) (number_of (event_names (table_of catalog spec)) event)

-- the event `SPEC.EVENT` with so many objects, or what is wrong with it
unfoldable pub named_event : List CatalogEntry → ℕ → Text → Text → ℕ → Result NamedEvent ScriptFault
named_event catalog line spec event count = event_at line count catalog event (number_of (spec_names catalog) spec)

-- objects in order, at the parameters of a set in order
abbrev pub spread : ℕ → ℕ → List ℕ → List (Option ℕ)
spread zero mask objects = []
spread (suc n) mask [] = None ∷ spread n (mask / 2) []
spread (suc n) mask (object ∷ objects) =
    if mask % 2 == 1 then Some object ∷ spread n (mask / 2) objects else None ∷ spread n (mask / 2) (object ∷ objects)
