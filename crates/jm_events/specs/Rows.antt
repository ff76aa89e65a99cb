use Rattle.std.specs.Prelude.{◌≡◌, ◌<◌, ◌≤◌, ◌^◌, List, [], ◌∷◌, length, All}
use Rattle.jm_model.specs.Words.{Text}
use Rattle.jm_events.specs.declared.table.Row.{Row}
use Rattle.jm_events.specs.Events.{EventDefinition}

-- an event of a name and the rest of what is known of it
abbrev pub event_of : Text → Row → EventDefinition
event_of name row = record { name = name; mask = row.mask; creation = row.creation; line = row.line }

-- the events whose names and rows stand at the same places
abbrev pub events_of : List Text → List Row → List EventDefinition
events_of (name ∷ names) (row ∷ rows) = event_of name row ∷ events_of names rows
events_of _ _ = []

-- a row for each event, no more parameters and events than there may be, and only parameters that are there
pub record IsTable (parameters events : List Text) (rows : List Row) : Type 0 where
  pub row_each : length rows ≡ length events
  pub few_parameters : length parameters ≤ 8
  pub few_events : length events ≤ 32
  pub masks : All (λ row. row.mask < 2 ^ length parameters) rows
