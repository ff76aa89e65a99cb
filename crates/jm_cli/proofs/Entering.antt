-- A walk into a command.
use Rattle.std.proofs.Common.{◌≡◌, ◌∙◌, Bool, true, false, List, [], ◌∷◌, ◌++◌, Option, Some, None, option_map, is_some, codes, refl, sym, ap, inl, inr, ◌⊎◌, append_assoc, append-nil, if◌then◌else◌}
use Rattle.std.specs.List.{list_all, fold}
use Rattle.std.specs.Str.{bytes_eq}
use Rattle.clap.specs.Walk.{Text, Walk, walked, walk, walk_from, nothing_held, all_of}
use Rattle.clap.specs.Simple.{App, Shape, built, names_of, subcommand_of}
use Rattle.clap.specs.Kinds.{or_else}
use Rattle.clap.specs.Faults.{fault_of, defaults_fault, turn_fault, walk_fault}
use Rattle.jm_cli.specs.Words.{is_name, are_names, names_of as names_in, command_of}
use Rattle.jm_cli.specs.Words.CommandWords.{Replay, Check, Coenable, Sweep}
use Rattle.jm_cli.specs.Line.{line_app, names_shape, pair_shape, gen_shape, is_whole, found_command}
use Rattle.jm_cli.proofs.Saying.{both, same_bytes}
use Rattle.jm_cli.proofs.Reading.{run_of_names}
use Rattle.jm_cli.proofs.Walking.{no_hyphen, takes_names, names_found}
use Rattle.jm_cli.proofs.Values.{row, takes_pair, pair_rows, takes_one, one_rows}
use Rattle.jm_cli.proofs.Levels.{level, rows, IsFault, no_fault, first_fault}

abbrev line : App
line = built line_app

-- a walk that met a command takes the words that follow
abbrev met : Text → List Text → Walk
met name words = record (walk_from nothing_held) { stopped = Some (name, words) }

takes_rest : (name : Text) (front ws : List Text) → fold (walked line.top.rules (names_of line)) (met name front) ws ≡ met name (front ++ ws)
unfolding walked
takes_rest name front [] = ap (met name) (sym (append-nil front))
takes_rest name front (w ∷ ws) = takes_rest name (front ++ w ∷ []) ws ∙ ap (met name) (append_assoc front (w ∷ []) ws)

free_rest : (name : Text) (front ws : List Text) → walk_fault line.top (names_of line) (met name front) ws ≡ []
unfolding walk_fault walked
free_rest name front [] = refl
free_rest name front (w ∷ ws) = free_rest name (front ++ w ∷ []) ws

-- the shape of the command of a name
abbrev pub shape_of : Text → Option Shape
shape_of name =
    if bytes_eq name (codes "replay") then Some (pair_shape name)
    else (if bytes_eq name (codes "run") then Some (names_shape name)
    else (if bytes_eq name (codes "check") then Some (names_shape name)
    else (if bytes_eq name (codes "coenable") then Some (names_shape name)
    else (if bytes_eq name (codes "gen") then Some gen_shape
    else (if bytes_eq name (codes "sweep") then Some (pair_shape name) else None)))))

-- the words after a name are those of its command
pub record Enters (name : Text) (s : Shape) : Type 0 where
  pub shape : shape_of name ≡ Some s
  pub fault : (ws : List Text) → fault_of line_app (name ∷ ws) ≡ or_else (level s ws) []
  pub found : (ws : List Text) → subcommand_of line_app (name ∷ ws) ≡ Some (name, rows s ws)
  pub whole : (ws : List Text) → list_all is_name ws ≡ true → level s ws ≡ [] → is_whole name (rows s ws) ≡ true
  pub command : (ws : List Text) → list_all is_name ws ≡ true → level s ws ≡ [] → found_command name (rows s ws) ≡ command_of (name ∷ ws)

module _ (name : Text) (first : walked line.top.rules (names_of line) (walk_from nothing_held) name ≡ met name [])
    (free : turn_fault line.top (names_of line) (walk_from nothing_held) name ≡ []) where
  pub meets : (ws : List Text) → walk line.top.rules (names_of line) nothing_held (name ∷ ws) ≡ met name ws
  meets ws = rw first (takes_rest name [] ws)

  pub meets_free : (ws : List Text) → walk_fault line.top (names_of line) (walk_from nothing_held) (name ∷ ws) ≡ []
  unfolding walk_fault
  meets_free ws = rw (free, first) (free_rest name [] ws)

replay_first : walked line.top.rules (names_of line) (walk_from nothing_held) (codes "replay") ≡ met (codes "replay") []
unfolding walked
replay_first = refl

run_first : walked line.top.rules (names_of line) (walk_from nothing_held) (codes "run") ≡ met (codes "run") []
unfolding walked
run_first = refl

check_first : walked line.top.rules (names_of line) (walk_from nothing_held) (codes "check") ≡ met (codes "check") []
unfolding walked
check_first = refl

coenable_first : walked line.top.rules (names_of line) (walk_from nothing_held) (codes "coenable") ≡ met (codes "coenable") []
unfolding walked
coenable_first = refl

sweep_first : walked line.top.rules (names_of line) (walk_from nothing_held) (codes "sweep") ≡ met (codes "sweep") []
unfolding walked
sweep_first = refl

gen_first : walked line.top.rules (names_of line) (walk_from nothing_held) (codes "gen") ≡ met (codes "gen") []
unfolding walked
gen_first = refl

-- the names after `check` and `coenable`
names_in_is : (ws : List Text) → are_names ws ≡ true → names_in ws ≡ Some ws
names_in_is ws are = rw are refl

module _ (name : Text) (ws : List Text) (names : list_all is_name ws ≡ true) (free : level (names_shape name) ws ≡ []) where
  found_names : all_of (codes "names") (rows (names_shape name) ws) ≡ Some ws
  found_names = names_found name ws (takes_names name ws names free)

  same_names : all_of (codes "names") (rows (names_shape name) ws) ≡ names_in ws
  same_names = found_names ∙ sym (names_in_is ws (takes_names name ws names free))

-- the two names after `replay` and `sweep`
module _ (name : Text) (ws : List Text) (names : list_all is_name ws ≡ true) (free : level (pair_shape name) ws ≡ []) where
  two_names : (a : Text) × (b : Text) × (ws ≡ a ∷ b ∷ []) × (is_name a ≡ true) × (is_name b ≡ true)
  two_names = takes_pair name ws names free

  two_rows : rows (pair_shape name) ws ≡ row (codes "first") two_names.0 ∷ row (codes "second") two_names.1 ∷ []
  two_rows = ap (rows (pair_shape name)) two_names.2 ∙ pair_rows name two_names.0 two_names.1 two_names.3 two_names.4

replay_command : (ws : List Text) → list_all is_name ws ≡ true → level (pair_shape (codes "replay")) ws ≡ []
    → (is_whole (codes "replay") (rows (pair_shape (codes "replay")) ws) ≡ true)
    × (found_command (codes "replay") (rows (pair_shape (codes "replay")) ws) ≡ command_of (codes "replay" ∷ ws))
replay_command ws names free =
    let two = two_names (codes "replay") ws names free in
    let found_is = two_rows (codes "replay") ws names free in
    let spelled : command_of (codes "replay" ∷ two.0 ∷ two.1 ∷ []) ≡ Some (Replay two.0 two.1) = rw (two.3, two.4) refl in (
      ap (is_whole (codes "replay")) found_is,
      ap (found_command (codes "replay")) found_is ∙ sym spelled ∙ sym (ap (λ x. command_of (codes "replay" ∷ x)) two.2),
    )

sweep_command : (ws : List Text) → list_all is_name ws ≡ true → level (pair_shape (codes "sweep")) ws ≡ []
    → (is_whole (codes "sweep") (rows (pair_shape (codes "sweep")) ws) ≡ true)
    × (found_command (codes "sweep") (rows (pair_shape (codes "sweep")) ws) ≡ command_of (codes "sweep" ∷ ws))
sweep_command ws names free =
    let two = two_names (codes "sweep") ws names free in
    let found_is = two_rows (codes "sweep") ws names free in
    let spelled : command_of (codes "sweep" ∷ two.0 ∷ two.1 ∷ []) ≡ Some (Sweep two.0 two.1) = rw (two.3, two.4) refl in (
      ap (is_whole (codes "sweep")) found_is,
      ap (found_command (codes "sweep")) found_is ∙ sym spelled ∙ sym (ap (λ x. command_of (codes "sweep" ∷ x)) two.2),
    )

-- the word after `gen`
one_command : (ws : List Text) → list_all is_name ws ≡ true → level gen_shape ws ≡ []
    → (is_whole (codes "gen") (rows gen_shape ws) ≡ true) × (found_command (codes "gen") (rows gen_shape ws) ≡ command_of (codes "gen" ∷ ws))
one_command ws names free =
    let one = takes_one ws names free in
    let found_is = ap (rows gen_shape) one.1 ∙ one_rows one.0 one.2 in (
      ap (is_whole (codes "gen")) found_is,
      ap (found_command (codes "gen")) found_is ∙ sym (ap (λ x. command_of (codes "gen" ∷ x)) one.1),
    )

pub replay_enters : Enters (codes "replay") (pair_shape (codes "replay"))
unfolding defaults_fault
replay_enters = record {
  shape = refl;
  fault = λ ws. rw (meets (codes "replay") replay_first refl ws, meets_free (codes "replay") replay_first refl ws) refl;
  found = λ ws. rw (meets (codes "replay") replay_first refl ws) refl;
  whole = λ ws names free. (replay_command ws names free).0;
  command = λ ws names free. (replay_command ws names free).1;
}

pub run_enters : Enters (codes "run") (names_shape (codes "run"))
unfolding defaults_fault
run_enters = record {
  shape = refl;
  fault = λ ws. rw (meets (codes "run") run_first refl ws, meets_free (codes "run") run_first refl ws) refl;
  found = λ ws. rw (meets (codes "run") run_first refl ws) refl;
  whole = λ ws names free. ap is_some (found_names (codes "run") ws names free);
  command = λ ws names free. sym (run_of_names ws names);
}

pub check_enters : Enters (codes "check") (names_shape (codes "check"))
unfolding defaults_fault
check_enters = record {
  shape = refl;
  fault = λ ws. rw (meets (codes "check") check_first refl ws, meets_free (codes "check") check_first refl ws) refl;
  found = λ ws. rw (meets (codes "check") check_first refl ws) refl;
  whole = λ ws names free. ap is_some (found_names (codes "check") ws names free);
  command = λ ws names free. ap (option_map (λ specs. Check specs)) (same_names (codes "check") ws names free);
}

pub coenable_enters : Enters (codes "coenable") (names_shape (codes "coenable"))
unfolding defaults_fault
coenable_enters = record {
  shape = refl;
  fault = λ ws. rw (meets (codes "coenable") coenable_first refl ws, meets_free (codes "coenable") coenable_first refl ws) refl;
  found = λ ws. rw (meets (codes "coenable") coenable_first refl ws) refl;
  whole = λ ws names free. ap is_some (found_names (codes "coenable") ws names free);
  command = λ ws names free. ap (option_map (λ specs. Coenable specs)) (same_names (codes "coenable") ws names free);
}

pub gen_enters : Enters (codes "gen") gen_shape
unfolding defaults_fault
gen_enters = record {
  shape = refl;
  fault = λ ws. rw (meets (codes "gen") gen_first refl ws, meets_free (codes "gen") gen_first refl ws) refl;
  found = λ ws. rw (meets (codes "gen") gen_first refl ws) refl;
  whole = λ ws names free. (one_command ws names free).0;
  command = λ ws names free. (one_command ws names free).1;
}

pub sweep_enters : Enters (codes "sweep") (pair_shape (codes "sweep"))
unfolding defaults_fault
sweep_enters = record {
  shape = refl;
  fault = λ ws. rw (meets (codes "sweep") sweep_first refl ws, meets_free (codes "sweep") sweep_first refl ws) refl;
  found = λ ws. rw (meets (codes "sweep") sweep_first refl ws) refl;
  whole = λ ws names free. (sweep_command ws names free).0;
  command = λ ws names free. (sweep_command ws names free).1;
}

-- ---- another word is refused
stray : (word : Text) → is_name word ≡ true
    → bytes_eq (codes "replay") word ≡ false → bytes_eq (codes "run") word ≡ false → bytes_eq (codes "check") word ≡ false
    → bytes_eq (codes "coenable") word ≡ false → bytes_eq (codes "gen") word ≡ false
    → bytes_eq (codes "sweep") word ≡ false → IsFault (turn_fault line.top (names_of line) (walk_from nothing_held) word)
stray [] n a b c d e f = tt
stray (x ∷ xs) n a b c d e f =
    let h = no_hyphen x xs n in
    rw (a, b, c, d, e, f, h) (rw h tt)

refused : (word : Text) (words : List Text) → is_name word ≡ true
    → bytes_eq (codes "replay") word ≡ false → bytes_eq (codes "run") word ≡ false → bytes_eq (codes "check") word ≡ false
    → bytes_eq (codes "coenable") word ≡ false → bytes_eq (codes "gen") word ≡ false
    → bytes_eq (codes "sweep") word ≡ false → IsFault (fault_of line_app (word ∷ words))
unfolding walk_fault
refused word words n a b c d e f = first_fault _ _ (first_fault _ _ (stray word n a b c d e f))

nothing_missing : IsFault (fault_of line_app [])
unfolding walk_fault defaults_fault
nothing_missing = tt

decided : (xs ys : Text) → (ys ≡ xs) ⊎ (bytes_eq xs ys ≡ false)
decided xs ys = by (bytes_eq xs ys) refl
  where
    by : (b : Bool) → bytes_eq xs ys ≡ b → (ys ≡ xs) ⊎ (bytes_eq xs ys ≡ false)
    by true e = inl (sym (same_bytes xs ys e))
    by false e = inr e

-- names of which clap finds no fault begin with a command
pub enters : (words : List Text) → list_all is_name words ≡ true → fault_of line_app words ≡ []
    → (name : Text) × (ws : List Text) × (s : Shape) × (words ≡ name ∷ ws) × Enters name s
enters [] names none = absurd (no_fault (fault_of line_app []) nothing_missing none)
enters (w ∷ ws) names none =
    elim (decided (codes "replay") w) [
      | inl is ↦ (codes "replay", ws, pair_shape (codes "replay"), ap (λ x. x ∷ ws) is, replay_enters)
      | inr a ↦ elim (decided (codes "run") w) [
        | inl is ↦ (codes "run", ws, names_shape (codes "run"), ap (λ x. x ∷ ws) is, run_enters)
        | inr b ↦ elim (decided (codes "check") w) [
          | inl is ↦ (codes "check", ws, names_shape (codes "check"), ap (λ x. x ∷ ws) is, check_enters)
          | inr c ↦ elim (decided (codes "coenable") w) [
            | inl is ↦ (codes "coenable", ws, names_shape (codes "coenable"), ap (λ x. x ∷ ws) is, coenable_enters)
            | inr d ↦ elim (decided (codes "gen") w) [
              | inl is ↦ (codes "gen", ws, gen_shape, ap (λ x. x ∷ ws) is, gen_enters)
              | inr e ↦ elim (decided (codes "sweep") w) [
                | inl is ↦ (codes "sweep", ws, pair_shape (codes "sweep"), ap (λ x. x ∷ ws) is, sweep_enters)
                | inr f ↦ absurd (no_fault (fault_of line_app (w ∷ ws)) (refused w ws (both (is_name w) (list_all is_name ws) names).0 a b c d e f) none)
              ]
            ]
          ]
        ]
      ]
    ]
