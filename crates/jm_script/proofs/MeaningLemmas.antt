-- What a line means, step by step as the reader finds it.
use Rattle.std.proofs.Common.{◌≡◌, ℕ, suc, ◌+◌, ◌<◌, ◌≤◌, Bool, true, false, ◌&&◌, ◌==◌, cond, List, [], ◌∷◌, length, Option, Some, None, Result, Ok, Err, IfOk, refl, sym, ◌∙◌, arith}
use Rattle.std.specs.Prelude.{nat_le, nat_lt, slice_index}
use Rattle.std.specs.List.{list_all, before_first, after_first}
use Rattle.std.proofs.lemmas.Bool.Decides.{nat_tests}
use Rattle.jm_model.specs.declared.fault.ScriptFault.{ScriptFault}
use Rattle.jm_model.specs.declared.fault.ScriptError.{ScriptError}
use Rattle.jm_events.specs.Names.{number_of}
use Rattle.jm_lines.specs.Lines.{words_of}
use Rattle.jm_text.specs.Texts.{is_name_text}
use Rattle.jm_script.specs.Statements.{Statement, Event, Death, Pass, is_dot, event_statement, death_statement, statement_of}
use Rattle.jm_lines.specs.Objects.{is_object}
use Rattle.jm_script.specs.Objects.{mentioned, numbers_of, IsExtension}
use Rattle.jm_script.specs.Catalogs.{CatalogEntry, spec_names}
use Rattle.jm_script.specs.Events.{named_event, spread}
use Rattle.jm_script.specs.Meanings.{LineMeaning, mentioning, event_meaning, pass_meaning, step_meaning, statement_meaning, words_meaning, line_meaning, steps_of}
use Rattle.jm_script.specs.Answers.{IsStoppedBy, IsReadAs}
use Rattle.jm_script.specs.declared.event.NamedEvent.{NamedEvent}
use Rattle.jm_script.specs.declared.script.Target.{Target}
use Rattle.jm_script.specs.declared.script.Target.TheVariants as target
use Rattle.jm_model.specs.declared.fault.ScriptFault.TheVariants.{TooManyLines, TooManyObjects}
use Rattle.jm_script.proofs.ObjectLemmas.{IsExtension-none, IsExtension-mentioned}
use Rattle.jm_lines.proofs.WordLemmas.{both_left, both_right}

room_left : (count : ℕ) → nat_le 200000 count ≡ false → nat_lt count 200000 ≡ true
room_left count h = grind (arith, nat_tests)

-- the step of an event line
pub event_steps : (catalog : List CatalogEntry) (count line : ℕ) (names : List (List ℕ)) (word spec event : List ℕ) (words : List (List ℕ)) (n : ℕ) (e : NamedEvent) → spec ≡ before_first is_dot word → event ≡ after_first is_dot word → n ≡ length words → (is_name_text spec && is_name_text event && list_all is_object words) ≡ true → nat_le 200000 count ≡ false → Ok e ≡ named_event catalog line spec event n → statement_meaning catalog count line names (event_statement word words) ≡ mentioning line names words (λ numbers. target.Event e.spec e.letter (spread 8 e.mask numbers))
event_steps catalog count line names word spec event words n e h1 h2 h3 shape room named =
    let said : (is_name_text (before_first is_dot word) && is_name_text (after_first is_dot word) && list_all is_object words) ≡ true = rw (← h1, ← h2) shape in
    let found : named_event catalog line (before_first is_dot word) (after_first is_dot word) (length words) ≡ Ok e = rw (← h1, ← h2, ← h3) (sym named) in
    rw (said, room_left count room, found) refl

-- the step of a death line
pub death_steps : (catalog : List CatalogEntry) (count line : ℕ) (names words : List (List ℕ)) (n : ℕ) → n ≡ length words → ((n == 1) && list_all is_object words) ≡ true → nat_le 200000 count ≡ false → statement_meaning catalog count line names (death_statement words) ≡ mentioning line names words (λ numbers. target.Death (slice_index numbers 0))
death_steps catalog count line names [] n e shape room = absurd (not_one n e (both_left _ _ shape))
  where
    not_one : (n : ℕ) → n ≡ 0 → (n == 1) ≡ true → ⊥
    not_one n e one = grind (arith, nat_tests)
death_steps catalog count line names (object ∷ []) n e shape room =
    let here : is_object object ≡ true = both_left _ _ (both_right (n == 1) _ shape) in
    rw (here, room_left count room) refl
death_steps catalog count line names (object ∷ other ∷ words) n e shape room = absurd (not_one n (length words) e (both_left _ _ shape))
  where
    not_one : (n k : ℕ) → n ≡ suc (suc k) → (n == 1) ≡ true → ⊥
    not_one n k e one = grind (arith, nat_tests)

-- a line that mentions objects, of which there are not too many
pub mentions : (meaning : Result LineMeaning ScriptFault) (line : ℕ) (names objects new : List (List ℕ)) (target_of : List ℕ → Target) (t : Target) → meaning ≡ mentioning line names objects target_of → length (mentioned names objects) ≤ 65536 → new ≡ mentioned names objects → t ≡ target_of (numbers_of names objects) → meaning ≡ Ok (record { target = Some t; names = new })
mentions meaning line names objects new target_of t step room named same =
    let fits : nat_le (length (mentioned names objects)) 65536 ≡ true = grind (arith, nat_tests) in
    step ∙ rw (fits, named, same) refl

-- an error of a line's step is one of the line
pub stopped : (meaning step : Result LineMeaning ScriptFault) (old new : List (List ℕ)) (error : ScriptError) → meaning ≡ step → IsStoppedBy step old error new → IsStoppedBy meaning old error new
stopped meaning step old new error e h = rw e h

-- the words of a line give its meaning
pub read_by_words : (catalog : List CatalogEntry) (count line : ℕ) (bytes : List ℕ) (words old new : List (List ℕ)) (r : Result (Option Target) ScriptError) → words ≡ words_of bytes → IsReadAs (words_meaning catalog count line old words) old r new → IsReadAs (line_meaning catalog count line bytes old) old r new
unfolding line_meaning
read_by_words catalog count line bytes words old new r e h = rw (← e) h

-- the same by the first word of some and those after it
pub read_by_first : (catalog : List CatalogEntry) (count line : ℕ) (bytes word : List ℕ) (rest words old new : List (List ℕ)) (r : Result (Option Target) ScriptError) → word ∷ rest ≡ words → words ≡ words_of bytes → IsReadAs (statement_meaning catalog count line old (statement_of word rest)) old r new → IsReadAs (line_meaning catalog count line bytes old) old r new
read_by_first catalog count line bytes word rest words old new r split e h = read_by_words catalog count line bytes (word ∷ rest) old new r (split ∙ e) h

-- ---- the limits

-- after a line there are not too many names, not too many steps, and the names from before
pub record Keeps (count : ℕ) (names : List (List ℕ)) (m : LineMeaning) : Type 0 where
  pub few : length m.names ≤ 65536
  pub room : count + steps_of m.target ≤ 200000
  pub extended : IsExtension names m.names

abbrev pub KeepsLimits : ℕ → List (List ℕ) → Result LineMeaning ScriptFault → Type 0
KeepsLimits count names r = IfOk r (Keeps count names)

small_names : (n : ℕ) → nat_le n 65536 ≡ true → n ≤ 65536
small_names n h = grind (arith, nat_tests)

small_count : (n : ℕ) → nat_lt n 200000 ≡ true → n < 200000
small_count n h = grind (arith, nat_tests)

mentioning_keeps : (count line : ℕ) (names objects : List (List ℕ)) (target_of : List ℕ → Target) → count < 200000 → KeepsLimits count names (mentioning line names objects target_of)
mentioning_keeps count line names objects target_of room = by_case (nat_le (length (mentioned names objects)) 65536) refl
  where
    by_case : (b : Bool) → nat_le (length (mentioned names objects)) 65536 ≡ b → KeepsLimits count names (cond b (Ok (record { target = Some (target_of (numbers_of names objects)); names = mentioned names objects })) (Err (TooManyObjects line)))
    by_case true e = record { few = small_names _ e; room = omega arith; extended = IsExtension-mentioned names names objects (IsExtension-none names) }
    by_case false e = tt

event_keeps : (count line : ℕ) (names objects : List (List ℕ)) (r : Result NamedEvent ScriptFault) → count < 200000 → KeepsLimits count names (event_meaning line names objects r)
event_keeps count line names objects (Ok e) room = mentioning_keeps count line names objects (λ numbers. target.Event e.spec e.letter (spread 8 e.mask numbers)) room
event_keeps count line names objects (Err fault) room = tt

pass_keeps : (count line : ℕ) (names : List (List ℕ)) (spec : Option ℕ) → length names ≤ 65536 → count < 200000 → KeepsLimits count names (pass_meaning line names spec)
pass_keeps count line names None few room = tt
pass_keeps count line names (Some spec) few room = record { few = few; room = omega arith; extended = IsExtension-none names }

step_keeps : (catalog : List CatalogEntry) (count line : ℕ) (names : List (List ℕ)) (s : Statement) → length names ≤ 65536 → count < 200000 → KeepsLimits count names (step_meaning catalog line names s)
step_keeps catalog count line names (Event spec event objects) few room = event_keeps count line names objects (named_event catalog line spec event (length objects)) room
step_keeps catalog count line names (Death object) few room = mentioning_keeps count line names (object ∷ []) (λ numbers. target.Death (slice_index numbers 0)) room
step_keeps catalog count line names (Pass spec) few room = pass_keeps count line names (number_of (spec_names catalog) spec) few room

statement_keeps : (catalog : List CatalogEntry) (count line : ℕ) (names : List (List ℕ)) (s : Option Statement) → length names ≤ 65536 → KeepsLimits count names (statement_meaning catalog count line names s)
statement_keeps catalog count line names None few = tt
statement_keeps catalog count line names (Some s) few = by_case (nat_lt count 200000) refl
  where
    by_case : (b : Bool) → nat_lt count 200000 ≡ b → KeepsLimits count names (cond b (step_meaning catalog line names s) (Err (TooManyLines line)))
    by_case true e = step_keeps catalog count line names s few (small_count count e)
    by_case false e = tt

words_keep : (catalog : List CatalogEntry) (count line : ℕ) (names words : List (List ℕ)) → length names ≤ 65536 → count ≤ 200000 → KeepsLimits count names (words_meaning catalog count line names words)
words_keep catalog count line names [] few room = record { few = few; room = omega arith; extended = IsExtension-none names }
words_keep catalog count line names (word ∷ words) few room = statement_keeps catalog count line names (statement_of word words) few

pub line_keeps : (catalog : List CatalogEntry) (count line : ℕ) (bytes : List ℕ) (names : List (List ℕ)) (m : LineMeaning) → length names ≤ 65536 → count ≤ 200000 → line_meaning catalog count line bytes names ≡ Ok m → Keeps count names m
unfolding line_meaning
line_keeps catalog count line bytes names m few room e = rw e at (words_keep catalog count line names (words_of bytes) few room)
