-- The commands, and which words spell them.
use Rattle.std.specs.Prelude.{ℕ, ◌+◌, Bool, false, not, ◌&&◌, nat_eq, nat_lt, nat_le, List, [], ◌∷◌, length, take, drop, codes, Option, Some, None, option_map, position, if◌then◌else◌}
use Rattle.std.specs.List.{starts_with, list_all}
use Rattle.std.specs.Char.{is_ascii_digit}
use Rattle.std.specs.Option.{option_and_then}
use Rattle.std.specs.Str.{bytes_eq}
use Rattle.std.specs.Str.Parse.{digits_value}
use Rattle.jm_model.specs.Words.{Text}

-- a command: the names of its specifications and scripts, of its recording or of a history, or how many rounds a
-- workload has
pub data CommandWords : Type 0 where
  Replay : (spec script : Text) → CommandWords
  Run : (specs scripts : List Text) → CommandWords
  Check : (specs : List Text) → CommandWords
  Coenable : (specs : List Text) → CommandWords
  Gen : (n : ℕ) → CommandWords
  Sweep : (spec recording : Text) → CommandWords
  Audit : (history : Text) (specs scripts : List Text) → CommandWords

-- a word that may name a file: one that doesn't begin with `-`
abbrev pub is_name : Text → Bool
is_name word = not (starts_with nat_eq word (codes "-"))

-- so many names there may be
abbrev pub most_names : ℕ
most_names = 16

-- 1 to 16 names
abbrev pub are_names : List Text → Bool
are_names words = nat_lt 0 (length words) && nat_le (length words) most_names && list_all is_name words

-- the words, where they are these
abbrev pub names_of : List Text → Option (List Text)
names_of words = if are_names words then Some words else None

-- a word of 1 to 4 digits without a leading zero
abbrev pub is_short_number : Text → Bool
is_short_number word =
    nat_lt 0 (length word) && nat_le (length word) 4 && list_all is_ascii_digit word && not
    (starts_with nat_eq word (codes "0"))

-- the number of rounds, where the word is such a number of at most 8000
abbrev pub rounds_of : Text → Option ℕ
rounds_of word =
    if is_short_number word && nat_le (digits_value 10 word) 8000 then Some (digits_value 10 word) else None

-- what the words after each command's own word spell
abbrev pub replay_of : List Text → Option CommandWords
replay_of (spec ∷ script ∷ []) = if is_name spec && is_name script then Some (Replay spec script) else None
replay_of _ = None

abbrev pub sweep_of : List Text → Option CommandWords
sweep_of (spec ∷ recording ∷ []) =
    if is_name spec && is_name recording then Some (Sweep spec recording) else None
sweep_of _ = None

abbrev pub run_around : List Text → List Text → Option CommandWords
run_around before after = if are_names before && are_names after then Some (Run before after) else None

abbrev pub run_of : List Text → Option CommandWords
run_of words =
    option_and_then (λ separator. run_around (take separator words) (drop (separator + 1) words))
    (position (bytes_eq (codes "--")) words)

abbrev pub audit_around : List Text → List Text → Option CommandWords
audit_around [] after = None
audit_around (history ∷ specs) after =
    if is_name history && (are_names specs && are_names after) then Some (Audit history specs after) else None

abbrev pub audit_of : List Text → Option CommandWords
audit_of words =
    option_and_then (λ separator. audit_around (take separator words) (drop (separator + 1) words))
    (position (bytes_eq (codes "--")) words)

abbrev pub check_of : List Text → Option CommandWords
check_of words = option_map (λ specs. Check specs) (names_of words)

abbrev pub coenable_of : List Text → Option CommandWords
coenable_of words = option_map (λ specs. Coenable specs) (names_of words)

abbrev pub gen_of : List Text → Option CommandWords
gen_of (word ∷ []) = option_map (λ n. Gen n) (rounds_of word)
gen_of _ = None

-- the command that the words spell
abbrev pub command_of : List Text → Option CommandWords
command_of [] = None
command_of (command ∷ words) =
    if bytes_eq command (codes "replay") then replay_of words
    else (if bytes_eq command (codes "run") then run_of words
    else (if bytes_eq command (codes "check") then check_of words
    else (if bytes_eq command (codes "coenable") then coenable_of words
    else (if bytes_eq command (codes "gen") then gen_of words
    else (if bytes_eq command (codes "sweep") then sweep_of words
    else (if bytes_eq command (codes "audit") then audit_of words else None))))))

-- what words around a separator spell, where they are those of `run`
abbrev pub run_command : List Text → List Text → Option CommandWords
run_command [] after = None
run_command (command ∷ before) after =
    if bytes_eq command (codes "run") then run_around before after else None

-- the first word is `audit`
abbrev pub is_audit : List Text → Bool
is_audit [] = false
is_audit (command ∷ words) = bytes_eq command (codes "audit")

-- the command that words around a separator spell
abbrev pub command_around : List Text → List Text → Option CommandWords
command_around before after =
    if is_audit before then audit_around (drop 1 before) after else run_command before after
