-- What a command reads.
use Rattle.std.specs.Prelude.{ℕ, ◌≤◌, Bool, true, false, not, List, [], ◌∷◌, length, map}
use Rattle.jm_model.specs.Words.{Text}
use Rattle.jm_cli.specs.Words.{CommandWords, most_names}
use Rattle.jm_cli.specs.Words.CommandWords.{Replay, Run, Check, Coenable, Gen, Sweep, Audit}
use Rattle.jm_gen.specs.Specifications.{unsafe_iter, has_next}
use Rattle.jm_gen.specs.Scripts.{IsInRange, script_text}
use Rattle.jm_inputs.specs.Sources.{FileContents, Source, Named, Given, Gives}

-- files by these names, and files of these bytes
abbrev pub named : List Text → List Source
named names = map (λ name. Named name) names

abbrev pub given_files : List Text → List Source
given_files files = map (λ bytes. Given bytes) files

-- the specifications of a workload, and its scripts, of so many rounds each
unfoldable pub workload_specs : List Text
workload_specs = unsafe_iter ∷ has_next ∷ []

unfoldable pub workload_scripts : ℕ → List Text
workload_scripts n = script_text 0 n ∷ script_text 1 n ∷ script_text 2 n ∷ script_text 3 n ∷ []

-- the history that a command audits, which it loads first
abbrev pub history_sources : CommandWords → List Source
history_sources (Audit history specs scripts) = named (history ∷ [])
history_sources _ = []

-- so many files are loaded before its specifications
abbrev pub files_before : CommandWords → ℕ
files_before command = length (history_sources command)

-- so many steps count as read before its scripts
abbrev pub steps_before : CommandWords → ℕ
steps_before (Audit history specs scripts) = 198000
steps_before _ = 0

-- the most bytes that a history may have
abbrev pub most_of_history : ℕ
most_of_history = 67108864

-- if the command audits a history, that isn't too long
abbrev pub IsHistorySound : FileContents → CommandWords → Type 0
IsHistorySound contents (Audit history specs scripts) =
    (bytes : Text) × Gives contents (Named history) bytes × (length bytes ≤ most_of_history)
IsHistorySound contents _ = Unit {0}

-- the specifications of a command, in order
abbrev pub spec_sources : CommandWords → List Source
spec_sources (Replay spec script) = named (spec ∷ [])
spec_sources (Run specs scripts) = named specs
spec_sources (Check specs) = named specs
spec_sources (Coenable specs) = named specs
spec_sources (Gen n) = given_files workload_specs
spec_sources (Sweep spec recording) = named (spec ∷ [])
spec_sources (Audit history specs scripts) = named specs

-- its scripts, in order; or its one recording
abbrev pub script_sources : CommandWords → List Source
script_sources (Replay spec script) = named (script ∷ [])
script_sources (Run specs scripts) = named scripts
script_sources (Check specs) = []
script_sources (Coenable specs) = []
script_sources (Gen n) = given_files (workload_scripts n)
script_sources (Sweep spec recording) = named (recording ∷ [])
script_sources (Audit history specs scripts) = named scripts

-- the command reads no scripts but a recording, which is cut into parts
abbrev pub reads_recording : CommandWords → Bool
reads_recording (Sweep spec recording) = true
reads_recording _ = false

-- the command audits a history
abbrev pub is_audit : CommandWords → Bool
is_audit (Audit history specs scripts) = true
is_audit _ = false

-- the command heeds the lines by which its scripts ask for order
abbrev pub heeds_order : CommandWords → Bool
heeds_order command = not (is_audit command)

-- the command asks for coenable families, which grammars don't have
abbrev pub needs_families : CommandWords → Bool
needs_families (Coenable specs) = true
needs_families _ = false

-- 1 to 16 names
abbrev pub AreFew : List Text → Type 0
AreFew names = (1 ≤ length names) × (length names ≤ most_names)

-- a command within its limits
abbrev pub IsWithin : CommandWords → Type 0
IsWithin (Replay spec script) = Unit {0}
IsWithin (Run specs scripts) = AreFew specs × AreFew scripts
IsWithin (Check specs) = AreFew specs
IsWithin (Coenable specs) = AreFew specs
IsWithin (Gen n) = IsInRange n
IsWithin (Sweep spec recording) = Unit {0}
IsWithin (Audit history specs scripts) = AreFew specs × AreFew scripts
