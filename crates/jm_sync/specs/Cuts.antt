-- Lines that ask for order: a post of a name, or a wait for one.
use Rattle.std.specs.Prelude.{ℕ, ◌≡◌, ◌+◌, ◌≤◌, ◌++◌, List, [], ◌∷◌, map, length, Option, Some, None, is_some, unwrap_or, if◌then◌else◌}
use Rattle.std.specs.List.{join_with_byte}
use Rattle.std.specs.Str.{bytes_eq}
use Rattle.jm_model.specs.Words.{Text}
use Rattle.jm_events.specs.Names.{number_of, with_name}
use Rattle.jm_lines.specs.Lines.{lines_of, words_of}
use Rattle.jm_lines.specs.Objects.{is_object}
use Rattle.jm_sync.specs.declared.line.SyncKind.{SyncKind}
use Rattle.jm_sync.specs.declared.line.SyncKind.TheVariants.{Post, Wait}
use Rattle.jm_sync.specs.declared.line.SyncLine.{SyncLine}

-- `post`
abbrev pub post_word : Text
post_word = 112 ∷ 111 ∷ 115 ∷ 116 ∷ []

-- `wait`
abbrev pub wait_word : Text
wait_word = 119 ∷ 97 ∷ 105 ∷ 116 ∷ []

-- what a word asks for
abbrev pub kind_of : Text → Option SyncKind
kind_of word = if bytes_eq word post_word then Some Post else if bytes_eq word wait_word then Some Wait else None

-- what a line asks for, under the text of a name
pub record Request : Type 0 where
  pub kind : SyncKind
  pub name : Text

abbrev pub request_under : Text → Option SyncKind → Option Request
request_under name None = None
request_under name (Some kind) = Some (record { kind = kind; name = name })

-- what words ask for: `post OBJECT` or `wait OBJECT`
abbrev pub words_request : List Text → Option Request
words_request (word ∷ name ∷ []) = if is_object name then request_under name (kind_of word) else None
words_request _ = None

-- what a line asks for, if it has one of the two shapes
unfoldable pub request_of : Text → Option Request
request_of line = words_request (words_of line)

-- a line, or the empty one in its place if it asks for something
abbrev pub rest_of_line : Text → Text
rest_of_line line = if is_some (request_of line) then [] else line

-- a script without the lines that ask for something: empty lines stand in their place
unfoldable pub rest_of : Text → Text
rest_of bytes = join_with_byte 10 (map rest_of_line (lines_of bytes))

-- the names after a line
abbrev pub names_with : List Text → Option Request → List Text
names_with names None = names
names_with names (Some request) = with_name names request.name

-- the names after some lines
abbrev pub names_behind : List Text → List Text → List Text
names_behind names [] = names
names_behind names (line ∷ lines) = names_behind (names_with names (request_of line)) lines

-- the names after a script
unfoldable pub names_after : List Text → Text → List Text
names_after names bytes = names_behind names (lines_of bytes)

-- the number of a name that is mentioned: its place, or the next one if it is new
abbrev pub number_for : List Text → Text → ℕ
number_for names name = unwrap_or (number_of names name) (length names)

-- the line of this number, after these names, if it asks for something
abbrev pub numbered : ℕ → List Text → Option Request → List SyncLine
numbered n names None = []
numbered n names (Some request) = record { line = n; kind = request.kind; name = number_for names request.name } ∷ []

-- what lines ask for, the first of which has this number, after these names
abbrev pub sync_lines_behind : ℕ → List Text → List Text → List SyncLine
sync_lines_behind n names [] = []
sync_lines_behind n names (line ∷ lines) =
    numbered n names (request_of line) ++ sync_lines_behind (n + 1) (names_with names (request_of line)) lines

-- what the lines of a script ask for, after these names; lines are counted from 1
unfoldable pub sync_lines_of : List Text → Text → List SyncLine
sync_lines_of names bytes = sync_lines_behind 1 names (lines_of bytes)

-- the numbers of the lines rise, from this one on
abbrev pub RisesFrom : ℕ → List SyncLine → Type 0
RisesFrom n [] = Unit {0}
RisesFrom n (l ∷ ls) = (n ≤ l.line) × RisesFrom (l.line + 1) ls

-- the old names, and perhaps new ones at the end
pub record IsExtension (old new : List Text) : Type 0 where
  pub added : List Text
  pub at_end : new ≡ old ++ added
