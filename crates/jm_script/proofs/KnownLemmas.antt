-- A word that stays known from line to line.
use Rattle.std.proofs.Common.{◌≡◌, ℕ, ◌<◌, ◌≤◌, Bool, true, false, ◌&&◌, ◌==◌, cond, List, length, Option, Some, None, Result, Ok, Err, refl, sym, arith}
use Rattle.std.specs.Prelude.{nat_le, count_ones}
use Rattle.std.specs.List.{list_all, before_first, after_first}
use Rattle.std.proofs.lemmas.Bool.Decides.{nat_tests}
use Rattle.jm_model.specs.declared.fault.ScriptFault.{ScriptFault}
use Rattle.jm_model.specs.declared.fault.ScriptFault.TheVariants.{WrongCount}
use Rattle.jm_events.specs.Names.{number_of}
use Rattle.jm_events.specs.Events.{EventDefinitions, event_names}
use Rattle.jm_text.specs.Texts.{is_name_text}
use Rattle.jm_script.specs.Statements.{is_dot, event_statement}
use Rattle.jm_lines.specs.Objects.{is_object}
use Rattle.jm_script.specs.Catalogs.{CatalogEntry, spec_names, table_of}
use Rattle.jm_script.specs.Events.{mask_at, counted, event_in, event_at, named_event, spread}
use Rattle.jm_script.specs.Fitting.{HasEvent}
use Rattle.jm_script.specs.Known.{IsEventOf}
use Rattle.jm_script.specs.Meanings.{mentioning, statement_meaning}
use Rattle.jm_script.specs.declared.event.NamedEvent.{NamedEvent}
use Rattle.jm_script.specs.declared.script.Target.TheVariants as target
use Rattle.jm_lines.proofs.WordLemmas.{both_left}
use Rattle.jm_script.proofs.MeaningLemmas.{event_steps}

counted_line : (line other count : ℕ) (ev e : NamedEvent) → counted line count ev ≡ Ok e → counted other count ev ≡ Ok e
counted_line line other count ev e h = by_case (count_ones ev.mask == count) h
  where
    by_case : (b : Bool) → cond {A = Result NamedEvent ScriptFault} b (Ok ev) (Err (WrongCount line)) ≡ Ok e → cond {A = Result NamedEvent ScriptFault} b (Ok ev) (Err (WrongCount other)) ≡ Ok e
    by_case true h = h
    by_case false h = cc

in_line : (line other count spec : ℕ) (table : EventDefinitions) (o : Option ℕ) (e : NamedEvent) → event_in line count spec table o ≡ Ok e → event_in other count spec table o ≡ Ok e
in_line line other count spec table None e h = cc
in_line line other count spec table (Some letter) e h = counted_line line other count (record { spec = spec; letter = record { 0 = letter }; mask = mask_at table letter }) e h

at_line : (line other count : ℕ) (catalog : List CatalogEntry) (event : List ℕ) (o : Option ℕ) (e : NamedEvent) → event_at line count catalog event o ≡ Ok e → event_at other count catalog event o ≡ Ok e
at_line line other count catalog event None e h = cc
at_line line other count catalog event (Some spec) e h = in_line line other count spec (table_of catalog spec) (number_of (event_names (table_of catalog spec)) event) e h

-- an event that is named on a line is named on each
every_line : (catalog : List CatalogEntry) (line other : ℕ) (spec event : List ℕ) (count : ℕ) (e : NamedEvent) → named_event catalog line spec event count ≡ Ok e → named_event catalog other spec event count ≡ Ok e
unfolding named_event
every_line catalog line other spec event count e h = at_line line other count catalog event (number_of (spec_names catalog) spec) e h

-- the event that was looked up
pub looked_up : (catalog : List CatalogEntry) (line : ℕ) (word spec event : List ℕ) (words : List (List ℕ)) (count : ℕ) (e : NamedEvent) → spec ≡ before_first is_dot word → event ≡ after_first is_dot word → (is_name_text spec && is_name_text event && list_all is_object words) ≡ true → Ok e ≡ named_event catalog line spec event count → HasEvent catalog e.spec e.letter.0 e.mask → (count ≤ 8) × (e.mask < 256) → count ≡ count_ones e.mask → IsEventOf catalog word count e
looked_up catalog line word spec event words count e h1 h2 shape named there few counted = record {
  shape = rw (← h1, ← h2) (both_left _ _ shape);
  named = λ other. rw (← h1, ← h2) (every_line catalog line other spec event count e (sym named));
  there = there;
  few = few;
  counted = counted;
}

both : (a b : Bool) → a ≡ true → b ≡ true → (a && b) ≡ true
both true b h k = k
both false b h k = h

not_full : (count : ℕ) → count < 200000 → nat_le 200000 count ≡ false
not_full count h = grind (arith, nat_tests)

pub has_room : (count : ℕ) (b : Bool) → b ≡ nat_le 200000 count → b ≡ false → count < 200000
has_room count b full free = grind (arith, nat_tests)

-- the step of a line with a known event
pub known_steps : (catalog : List CatalogEntry) (count line : ℕ) (names : List (List ℕ)) (word : List ℕ) (words : List (List ℕ)) (n : ℕ) (e : NamedEvent) → n ≡ length words → IsEventOf catalog word n e → list_all is_object words ≡ true → count < 200000 → statement_meaning catalog count line names (event_statement word words) ≡ mentioning line names words (λ numbers. target.Event e.spec e.letter (spread 8 e.mask numbers))
known_steps catalog count line names word words n e same known objects room =
    event_steps catalog count line names word (before_first is_dot word) (after_first is_dot word) words n e refl refl same (both (is_name_text (before_first is_dot word) && is_name_text (after_first is_dot word)) _ known.shape objects) (not_full count room) (sym (known.named line))
