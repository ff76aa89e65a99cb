-- The events of words, which stay known from line to line.
use Rattle.std.specs.Prelude.{ℕ, ◌≡◌, ◌<◌, ◌≤◌, ◌&&◌, true, count_ones, All, IfOk, IfErr, IfSome, OnOk, List, Option, Result, Ok}
use Rattle.std.specs.List.{list_all, before_first, after_first}
use Rattle.jm_model.specs.Words.{Text}
use Rattle.jm_model.specs.declared.fault.ScriptError.{ScriptError}
use Rattle.jm_text.specs.Texts.{is_name_text}
use Rattle.jm_script.specs.Statements.{is_dot, event_statement}
use Rattle.jm_lines.specs.Objects.{is_object}
use Rattle.jm_script.specs.Catalogs.{CatalogEntry}
use Rattle.jm_script.specs.Events.{named_event}
use Rattle.jm_script.specs.Fitting.{HasEvent}
use Rattle.jm_script.specs.Meanings.{most_steps, statement_meaning}
use Rattle.jm_script.specs.Answers.{IsStoppedBy}
use Rattle.jm_script.specs.declared.event.NamedEvent.{NamedEvent}
use Rattle.jm_script.specs.declared.known.KnownWord.{KnownWord}

-- the word has the shape `SPEC.EVENT`, and with so many objects it names this event on each line
pub record IsEventOf (catalog : List CatalogEntry) (word : Text) (count : ℕ) (event : NamedEvent) : Type 0 where
  pub shape : (is_name_text (before_first is_dot word) && is_name_text (after_first is_dot word)) ≡ true
  pub named : (line : ℕ) → named_event catalog line (before_first is_dot word) (after_first is_dot word) count
      ≡ Ok event
  pub there : HasEvent catalog event.spec event.letter.0 event.mask
  pub few : (count ≤ 8) × (event.mask < 256)
  pub counted : count ≡ count_ones event.mask

-- a known word names its event
abbrev pub IsSound : List CatalogEntry → KnownWord → Type 0
IsSound catalog known = IsEventOf catalog known.word.now known.count known.event

-- and so does each that there is
abbrev pub AreSound : List CatalogEntry → List (Option KnownWord) → Type 0
AreSound catalog slots = All (λ slot. IfSome slot (IsSound catalog)) slots

-- a line `SPEC.EVENT OBJECT..` with so many objects is one step more, of the event that was found, or has a fault
pub record FindsEvent (catalog : List CatalogEntry) (steps line : ℕ) (word : Text) (objects : List Text) (count : ℕ)
    (result : Result NamedEvent ScriptError) : Type 0 where
  pub event : IfOk result (IsEventOf catalog word count)
  pub named : OnOk result (list_all is_object objects ≡ true)
  pub room : OnOk result (steps < most_steps)
  pub fault : (names : List Text) → IfErr result (λ error.
      IsStoppedBy (statement_meaning catalog steps line names (event_statement word objects)) names error names)
