-- What a command that was read holds, in the words of `Words`.
use Rattle.std.specs.Prelude.{◌≡◌, ◌⊎◌, map, string_bytes, Option, Some, None, Result, MatchResult}
use Rattle.jm_cli.specs.declared.command.Command.{Command}
use Rattle.jm_cli.specs.declared.command.Command.TheVariants as read
use Rattle.jm_cli.specs.declared.command.WordsError.{WordsError}
use Rattle.jm_cli.specs.declared.command.WordsError.TheVariants.{Usage, NoMemory}
use Rattle.jm_cli.specs.Words.{CommandWords}
use Rattle.jm_cli.specs.Words.CommandWords.{Replay, Run, Check, Coenable, Gen, Sweep, Audit}

-- the command, with its names as bytes
abbrev pub command_words : Command → CommandWords
command_words (read.Replay spec script) = Replay (string_bytes spec) (string_bytes script)
command_words (read.Run specs scripts) = Run (map string_bytes specs.items) (map string_bytes scripts.items)
command_words (read.Check specs) = Check (map string_bytes specs.items)
command_words (read.Coenable specs) = Coenable (map string_bytes specs.items)
command_words (read.Gen n) = Gen n
command_words (read.Sweep spec recording) = Sweep (string_bytes spec) (string_bytes recording)
command_words (read.Audit history specs scripts) =
    Audit (string_bytes history) (map string_bytes specs.items) (map string_bytes scripts.items)

-- the command that the words spell was read, or out of memory came between, or the words spell none
abbrev pub Reads : Option CommandWords → Result Command WordsError → Type 0
Reads spelled result =
    MatchResult result (λ command. spelled ≡ Some (command_words command))
    (λ e. (e ≡ NoMemory) ⊎ ((e ≡ Usage) × (spelled ≡ None)))
