-- What clap is told of the command line, and what its findings are.
use Rattle.std.specs.Prelude.{◌≡◌, Bool, true, false, ◌&&◌, List, [], ◌∷◌, Option, Some, None, option_map, is_some, codes, if◌then◌else◌}
use Rattle.std.specs.Option.{option_and_then}
use Rattle.std.specs.Str.{bytes_eq}
use Rattle.clap.specs.Walk.{Rule, Row, all_of, first_of}
use Rattle.clap.specs.Simple.{App, Shape, app_of, new_rule, new_shape}
use Rattle.clap.specs.declared.builder.command.Command.{Command}
use Rattle.clap.specs.declared.builder.command.Command.TheViews.{out-Command}
use Rattle.jm_model.specs.Words.{Text}
use Rattle.jm_cli.specs.Words.{CommandWords, most_names, rounds_of}
use Rattle.jm_cli.specs.Words.CommandWords.{Replay, Check, Coenable, Gen, Sweep}

-- one value, which has to be there
abbrev pub value_rule : Text → Rule
value_rule id = record (new_rule id) { required = true }

-- 1 to 16 names
abbrev pub names_rule : Rule
names_rule = record (value_rule (codes "names")) {
  range = Some (record { start_inclusive = 1; end_inclusive = most_names });
}

-- a command of such names, by itself or below another
abbrev pub names_shape : Text → Shape
names_shape name = record (new_shape name) {
  rules = names_rule ∷ [];
  no_binary_name = true;
  disable_help_flag = true;
}

-- a command of two names
abbrev pub pair_shape : Text → Shape
pair_shape name =
    record (new_shape name) { rules = value_rule (codes "first") ∷ value_rule (codes "second") ∷ [] }

abbrev pub gen_shape : Shape
gen_shape = record (new_shape (codes "gen")) { rules = value_rule (codes "n") ∷ [] }

abbrev pub line_shape : Shape
line_shape = record (new_shape (codes "jmop")) {
  is_leaf = false;
  no_binary_name = true;
  disable_help_flag = true;
  disable_help_subcommand = true;
  subcommand_required = true;
}

-- the whole command line
abbrev pub line_app : App
line_app = record {
  top = line_shape;
  subs = pair_shape (codes "replay") ∷ names_shape (codes "run") ∷ names_shape (codes "check")
      ∷ names_shape (codes "coenable") ∷ gen_shape ∷ pair_shape (codes "sweep") ∷ [];
}

-- a command without subcommands
abbrev pub alone : Shape → App
alone s = record { top = s; subs = [] }

-- the command has this shape and no subcommands
pub record Makes (s : Shape) (command : Command) : Type 0 where
  pub app : app_of command ≡ alone s
  pub local : (out-Command command).has_globals ≡ false

-- ---- what was found

abbrev pub is_whole_pair : List Row → Bool
is_whole_pair rows = is_some (first_of (codes "first") rows) && is_some (first_of (codes "second") rows)

-- the command has a value for each of its arguments
abbrev pub is_whole : Text → List Row → Bool
is_whole name rows =
    if bytes_eq name (codes "replay") then is_whole_pair rows
    else (if bytes_eq name (codes "sweep") then is_whole_pair rows
    else (if bytes_eq name (codes "gen") then is_some (first_of (codes "n") rows)
    else is_some (all_of (codes "names") rows)))

-- what two names make
abbrev pub pair_found : (Text → Text → CommandWords) → List Row → Option CommandWords
pair_found made rows =
    option_and_then (λ first. option_map (λ second. made first second) (first_of (codes "second") rows))
    (first_of (codes "first") rows)

abbrev pub replay_found : List Row → Option CommandWords
replay_found rows = pair_found (λ spec script. Replay spec script) rows

abbrev pub sweep_found : List Row → Option CommandWords
sweep_found rows = pair_found (λ spec recording. Sweep spec recording) rows

abbrev pub check_found : List Row → Option CommandWords
check_found rows = option_map (λ specs. Check specs) (all_of (codes "names") rows)

abbrev pub coenable_found : List Row → Option CommandWords
coenable_found rows = option_map (λ specs. Coenable specs) (all_of (codes "names") rows)

abbrev pub gen_found : List Row → Option CommandWords
gen_found rows = option_map (λ n. Gen n) (option_and_then rounds_of (first_of (codes "n") rows))

-- the command that was found, where it is one without scripts
abbrev pub found_command : Text → List Row → Option CommandWords
found_command name rows =
    if bytes_eq name (codes "replay") then replay_found rows
    else (if bytes_eq name (codes "check") then check_found rows
    else (if bytes_eq name (codes "coenable") then coenable_found rows
    else (if bytes_eq name (codes "gen") then gen_found rows
    else (if bytes_eq name (codes "sweep") then sweep_found rows else None))))
