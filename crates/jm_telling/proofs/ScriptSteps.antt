-- The steps of scripts name objects that are there, and their lines are few.
use Rattle.std.proofs.Common.{ℕ, zero, suc, ◌+◌, ◌<◌, ◌≤◌, ◌^◌, Bool, true, false, cond, List, [], ◌∷◌, length, Option, Some, None, Result, Ok, Err, IfOk, arith}
use Rattle.std.specs.Prelude.{◌/◌, ◌%◌, ◌==◌, nat_le, nat_lt, slice_index}
use Rattle.std.specs.List.{AllByRecursion}
use Rattle.std.proofs.lemmas.List.Splits.{length-slice_split}
use Rattle.std.proofs.lemmas.List.Sums.{count_by-le-length}
use Rattle.std.proofs.lemmas.List.Elements.{recursion_from_All}
use Rattle.jm_model.specs.Bindings.{objects_of}
use Rattle.jm_model.specs.declared.binding.Binding.{Binding}
use Rattle.jm_model.specs.declared.fault.ScriptFault.{ScriptFault}
use Rattle.jm_model.specs.declared.fault.ScriptFault.TheVariants.{TooManyLines, TooManyObjects}
use Rattle.jm_events.specs.Names.{number_of}
use Rattle.jm_script.specs.declared.event.NamedEvent.{NamedEvent}
use Rattle.jm_script.specs.declared.script.Target.{Target}
use Rattle.jm_script.specs.declared.script.Target.TheVariants as target
use Rattle.jm_script.specs.declared.script.Target.TheVariants.{Event, Death, Pass}
use Rattle.jm_script.specs.declared.script.ScriptLine.{ScriptLine}
use Rattle.jm_lines.specs.Lines.{is_line_feed, lines_of, words_of}
use Rattle.jm_script.specs.Statements as say
use Rattle.jm_script.specs.Statements.{Statement, statement_of}
use Rattle.jm_script.specs.Objects.{mentioned, numbers_of}
use Rattle.jm_script.specs.Catalogs.{CatalogEntry, spec_names}
use Rattle.jm_script.specs.Events.{named_event, spread}
use Rattle.jm_script.specs.Meanings.{LineMeaning, ScriptMeaning, mentioning, event_meaning, pass_meaning, step_meaning, statement_meaning, words_meaning, line_meaning, with_line, steps_of, led_by, lines_meaning, script_meaning}
use Rattle.jm_script.proofs.NameLemmas.{number_at_mention-below}
use Rattle.jm_script.proofs.ObjectLemmas.{IsExtension-none, IsExtension-mentioned, length-IsExtension}
use Rattle.jm_script.proofs.FittingLemmas.{numbers_of-below}
use Rattle.jm_inputs.specs.Specifications.{most_bytes}

-- each object of a target is one of so many
abbrev pub HasObjects : ℕ → Target → Type 0
HasObjects n (Event spec letter binding) = AllByRecursion (λ o. o < n) (objects_of binding)
HasObjects n (Death object) = object < n
HasObjects n (Pass spec) = Unit {0}

all_below : (m n : ℕ) (os : List ℕ) → m ≤ n → AllByRecursion (λ o. o < m) os → AllByRecursion (λ o. o < n) os
all_below m n [] le all = tt
all_below m n (o ∷ os) le all = (omega (arith, le, all.0), all_below m n os le all.1)

pub more_objects : (m n : ℕ) (t : Target) → m ≤ n → HasObjects m t → HasObjects n t
more_objects m n (Event spec letter binding) le has = all_below m n (objects_of binding) le has
more_objects m n (Death object) le has = omega (arith, le, has)
more_objects m n (Pass spec) le has = tt

-- ---- a line

spread_below : (places mask n : ℕ) (os : List ℕ) → AllByRecursion (λ o. o < n) os → AllByRecursion (λ o. o < n) (objects_of (spread places mask os))
spread_below zero mask n os all = tt
spread_below (suc places) mask n [] all = spread_below places (mask / 2) n [] all
spread_below (suc places) mask n (o ∷ os) all = by_case (mask % 2 == 1) (spread_below places (mask / 2) n os all.1) (spread_below places (mask / 2) n (o ∷ os) all)
  where
    by_case : (b : Bool) → AllByRecursion (λ q. q < n) (objects_of (spread places (mask / 2) os)) → AllByRecursion (λ q. q < n) (objects_of (spread places (mask / 2) (o ∷ os)))
        → AllByRecursion (λ q. q < n) (objects_of (cond {A = Binding} b (Some o ∷ spread places (mask / 2) os) (None ∷ spread places (mask / 2) (o ∷ os))))
    by_case true taken passed = (all.0, taken)
    by_case false taken passed = passed

abbrev TargetHas : ℕ → Option Target → Type 0
TargetHas n None = Unit {0}
TargetHas n (Some t) = HasObjects n t

-- after a line the names from before are there, and the objects of its step
record IsFitLine (names : List (List ℕ)) (m : LineMeaning) : Type 0 where
  grown : length names ≤ length m.names
  target : TargetHas (length m.names) m.target

abbrev FitsIfRead : List (List ℕ) → Result LineMeaning ScriptFault → Type 0
FitsIfRead names r = IfOk r (IsFitLine names)

module _ (names : List (List ℕ)) where
  more_names : (objects : List (List ℕ)) → length names ≤ length (mentioned names objects)
  more_names objects = length-IsExtension names (mentioned names objects) (IsExtension-mentioned names names objects (IsExtension-none names))

  fit_mention : (line : ℕ) (objects : List (List ℕ)) (target_of : List ℕ → Target) → HasObjects (length (mentioned names objects)) (target_of (numbers_of names objects)) → FitsIfRead names (mentioning line names objects target_of)
  fit_mention line objects target_of has = by_case (nat_le (length (mentioned names objects)) 65536)
    where
      by_case : (b : Bool) → FitsIfRead names (cond b (Ok (record { target = Some (target_of (numbers_of names objects)); names = mentioned names objects })) (Err (TooManyObjects line)))
      by_case true = record { grown = more_names objects; target = has }
      by_case false = tt

  fit_event : (line : ℕ) (objects : List (List ℕ)) (r : Result NamedEvent ScriptFault) → FitsIfRead names (event_meaning line names objects r)
  fit_event line objects (Ok e) =
      fit_mention line objects (λ numbers. target.Event e.spec e.letter (spread 8 e.mask numbers))
      (spread_below 8 e.mask (length (mentioned names objects)) (numbers_of names objects) (recursion_from_All (λ n. n < length (mentioned names objects)) (numbers_of names objects) (numbers_of-below names objects)))
  fit_event line objects (Err fault) = tt

  fit_pass : (line : ℕ) (spec : Option ℕ) → FitsIfRead names (pass_meaning line names spec)
  fit_pass line None = tt
  fit_pass line (Some spec) = record { grown = omega arith; target = tt }

  fit_step : (catalog : List CatalogEntry) (line : ℕ) (s : Statement) → FitsIfRead names (step_meaning catalog line names s)
  fit_step catalog line (say.Event spec event objects) = fit_event line objects (named_event catalog line spec event (length objects))
  fit_step catalog line (say.Death object) = fit_mention line (object ∷ []) (λ numbers. target.Death (slice_index numbers 0)) (number_at_mention-below names object)
  fit_step catalog line (say.Pass spec) = fit_pass line (number_of (spec_names catalog) spec)

  fit_statement : (catalog : List CatalogEntry) (count line : ℕ) (o : Option Statement) → FitsIfRead names (statement_meaning catalog count line names o)
  fit_statement catalog count line None = tt
  fit_statement catalog count line (Some s) = by_case (nat_lt count 200000)
    where
      by_case : (b : Bool) → FitsIfRead names (cond b (step_meaning catalog line names s) (Err (TooManyLines line)))
      by_case true = fit_step catalog line s
      by_case false = tt

  fit_words : (catalog : List CatalogEntry) (count line : ℕ) (words : List (List ℕ)) → FitsIfRead names (words_meaning catalog count line names words)
  fit_words catalog count line [] = record { grown = omega arith; target = tt }
  fit_words catalog count line (word ∷ words) = fit_statement catalog count line (statement_of word words)

  fit_line : (catalog : List CatalogEntry) (count line : ℕ) (bytes : List ℕ) → FitsIfRead names (line_meaning catalog count line bytes names)
  unfolding line_meaning
  fit_line catalog count line bytes = fit_words catalog count line (words_of bytes)

-- ---- lines

-- a step's objects are some of so many, and its line is below a limit
abbrev pub IsLineIn : ℕ → ℕ → ScriptLine → Type 0
IsLineIn n limit l = HasObjects n l.target × (l.line < limit)

pub more_lines : (m n limit : ℕ) (ls : List ScriptLine) → m ≤ n → AllByRecursion (IsLineIn m limit) ls → AllByRecursion (IsLineIn n limit) ls
more_lines m n limit [] le all = tt
more_lines m n limit (l ∷ ls) le all = ((more_objects m n l.target le all.0.0, all.0.1), more_lines m n limit ls le all.1)

-- after a script the names from before are there, and the objects of its steps
pub record IsFitScript (names : List (List ℕ)) (limit : ℕ) (m : ScriptMeaning) : Type 0 where
  pub grown : length names ≤ length m.names
  pub lines : AllByRecursion (IsLineIn (length m.names) limit) m.lines

fit_led : (line count limit : ℕ) (names : List (List ℕ)) (r : Result LineMeaning ScriptFault) (rest : ℕ → List (List ℕ) → ScriptMeaning) → line < limit → FitsIfRead names r → ((c : ℕ) (o : List (List ℕ)) → IsFitScript o limit (rest c o)) → IsFitScript names limit (led_by line count names r rest)
fit_led line count limit names (Err fault) rest below here later = record { grown = omega arith; lines = tt }
fit_led line count limit names (Ok m) rest below here later = by_target m.target here.target
  where
    then : ScriptMeaning
    then = rest (count + steps_of m.target) m.names

    fits : IsFitScript m.names limit then
    fits = later (count + steps_of m.target) m.names

    by_target : (t : Option Target) → TargetHas (length m.names) t → IsFitScript names limit (with_line line t then)
    by_target None has = record { grown = omega (arith, here.grown, fits.grown); lines = fits.lines }
    by_target (Some t) has =
        record { grown = omega (arith, here.grown, fits.grown); lines = ((more_objects (length m.names) (length then.names) t fits.grown has, below), fits.lines) }

fit_lines : (catalog : List CatalogEntry) (limit count line : ℕ) (names lines : List (List ℕ)) → line + length lines ≤ limit → IsFitScript names limit (lines_meaning catalog count line names lines)
fit_lines catalog limit count line names [] below = record { grown = omega arith; lines = tt }
fit_lines catalog limit count line names (bytes ∷ lines) below =
    fit_led line count limit names (line_meaning catalog count line bytes names) (λ c o. lines_meaning catalog c (line + 1) o lines) (omega (arith, below)) (fit_line names catalog count line bytes)
    (λ c o. fit_lines catalog limit c (line + 1) o lines (omega (arith, below)))

pub fit_script : (catalog : List CatalogEntry) (count : ℕ) (bytes : List ℕ) (names : List (List ℕ)) → length bytes ≤ most_bytes → IsFitScript names (2 ^ 64) (script_meaning catalog count bytes names)
unfolding script_meaning
fit_script catalog count bytes names small =
    let few : 1 + length (lines_of bytes) ≤ 2 ^ 64 = omega (arith, small, length-slice_split is_line_feed bytes, count_by-le-length is_line_feed bytes) in
    fit_lines catalog (2 ^ 64) count 1 names (lines_of bytes) few
