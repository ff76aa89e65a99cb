-- The names that a history is printed with, and what the handlers print.
use Rattle.std.specs.Prelude.{ℕ, List, [], slice_get, unwrap_or}
use Rattle.jm_model.specs.Words.{Text}
use Rattle.jm_events.specs.Events.{EventDefinitions, event_names}
use Rattle.jm_handler.specs.declared.term.Term.{Term}

-- the names of a specification, of its parameters, events and handlers, and of the objects; and what each handler
-- prints: a list of terms for each of its statements
pub record Lexicon : Type 0 where
  pub specification : Text
  pub parameters : List Text
  pub events : List Text
  pub handlers : List Text
  pub objects : List Text
  pub statements : List (List (List Term))

-- the name of a number
abbrev pub name_of : List Text → ℕ → Text
name_of names k = unwrap_or (slice_get names k) []

-- what the handler of a number prints
abbrev pub statements_of : List (List (List Term)) → ℕ → List (List Term)
statements_of handlers k = unwrap_or (slice_get handlers k) []

-- the names of a specification with these events, and what its handlers print
abbrev pub lexicon_of : Text → EventDefinitions → List Text → List Text → List (List (List Term)) → Lexicon
lexicon_of specification table handlers objects statements = record {
  specification = specification;
  parameters = table.parameters;
  events = event_names table;
  handlers = handlers;
  objects = objects;
  statements = statements;
}
