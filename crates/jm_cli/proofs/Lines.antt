-- What clap finds in names is the command that they spell.
use Rattle.std.proofs.Common.{◌≡◌, ◌≢◌, ◌∙◌, Bool, true, false, List, [], ◌∷◌, ◌++◌, Option, Some, None, codes, decimal, refl, sym, ap, subst, inl, inr, ◌⊎◌, position}
use Rattle.std.specs.List.{list_all}
use Rattle.std.specs.Str.{bytes_eq}
use Rattle.std.proofs.lemmas.Bool.{false≢true}
use Rattle.std.proofs.lemmas.Option.{same_Some, none-some}
use Rattle.clap.specs.Walk.{Row, Text, all_of, rows_of}
use Rattle.clap.specs.Simple.{Shape, subcommand_of, app_of, is_simple, matches_of, HasMatchesOf}
use Rattle.clap.specs.Matches.{found_of}
use Rattle.clap.specs.declared.builder.command.Command.{Command}
use Rattle.clap.specs.declared.parser.matches.ArgMatches.{ArgMatches}
use Rattle.clap.specs.Kinds.{or_else}
use Rattle.clap.specs.Faults.{fault_of}
use Rattle.jm_cli.specs.declared.command.WordsError.{WordsError}
use Rattle.jm_cli.specs.declared.command.WordsError.TheVariants.{Usage, NoMemory}
use Rattle.jm_cli.specs.Words.{CommandWords, is_name, are_names, command_of}
use Rattle.jm_cli.specs.Words.CommandWords.{Replay, Run, Check, Coenable, Gen, Sweep, Audit}
use Rattle.jm_cli.specs.Spelling.{Spells}
use Rattle.jm_cli.specs.Line.{line_app, names_shape, is_whole, found_command, Makes}
use Rattle.jm_cli.proofs.Saying.{both, spelled}
use Rattle.jm_cli.proofs.Reading.{names_told, separator_at, decimal_name}
use Rattle.jm_cli.proofs.Levels.{level, rows, before_nothing, by_itself}
use Rattle.jm_cli.proofs.Walking.{takes_names, names_free, names_found}
use Rattle.jm_cli.proofs.Values.{pair_free, one_free}
use Rattle.jm_cli.proofs.Entering.{Enters, enters, replay_enters, check_enters, coenable_enters, gen_enters, run_enters, sweep_enters}

-- where no command fits, none is spelled
pub none_if : (o : Option CommandWords) → ((c : CommandWords) → o ≡ Some c → ⊥) → o ≡ None
none_if None not = refl
none_if (Some c) not = absurd (not c refl)

-- a refusal of clap's is one of the words, where its cause leaves none spelled
pub refused_as : {F : Type 0} (o : Option CommandWords) (e : WordsError) → (e ≡ NoMemory) ⊎ ((e ≡ Usage) × F) → (F → o ≡ None)
    → (e ≡ NoMemory) ⊎ ((e ≡ Usage) × (o ≡ None))
refused_as o e (inl short) to = inl short
refused_as o e (inr fault) to = inr (fault.0, to fault.1)

-- no name is the separator
pub no_separator : (before after : List Text) → list_all is_name (before ++ codes "--" ∷ after) ≡ true → ⊥
no_separator [] after names = false≢true names
no_separator (w ∷ before) after names = no_separator before after (both (is_name w) (list_all is_name (before ++ codes "--" ∷ after)) names).1

module _ (words : List Text) (names : list_all is_name words ≡ true) (none : fault_of line_app words ≡ []) where
  -- the command that was entered, and the words after it
  behind : (name : Text) (found : List Row) → subcommand_of line_app words ≡ Some (name, found)
      → (ws : List Text) × (s : Shape) × (words ≡ name ∷ ws) × Enters name s × (found ≡ rows s ws) × (list_all is_name ws ≡ true) × (level s ws ≡ [])
  behind name found is =
      let e = enters words names none in
      let ws = e.1 in
      let s = e.2 in
      let same : (e.0, rows s ws) ≡ (name, found) =
      same_Some _ _ (sym (e.4.found ws) ∙ sym (ap (subcommand_of line_app) e.3) ∙ is) in
      let begins = ap (λ p. p.0) same in
      let free = sym (before_nothing (level s ws)) ∙ sym (e.4.fault ws) ∙ sym (ap (fault_of line_app) e.3) ∙ none in
      let tail = both (is_name e.0) (list_all is_name ws) (sym (ap (list_all is_name) e.3) ∙ names) in
      (ws, s, e.3 ∙ ap (λ n. n ∷ ws) begins, subst (λ n. Enters n s) begins e.4, sym (ap (λ p. p.1) same), tail.1, free)

  -- the findings are the command that the words spell
  pub found_is : (name : Text) (found : List Row) → subcommand_of line_app words ≡ Some (name, found)
      → (is_whole name found ≡ true) × (found_command name found ≡ command_of words)
  found_is name found is =
      let b = behind name found is in (
        ap (is_whole name) b.4 ∙ b.3.whole b.0 b.5 b.6,
        ap (found_command name) b.4 ∙ b.3.command b.0 b.5 b.6 ∙ sym (ap command_of b.2),
      )

  pub is_entered : subcommand_of line_app words ≡ None → ⊥
  is_entered is =
      let e = enters words names none in
      none-some _ (sym is ∙ ap (subcommand_of line_app) e.3 ∙ e.4.found e.1)

  -- so are those of `run`
  pub run_is : (found : List Row) → subcommand_of line_app words ≡ Some (codes "run", found)
      → (specs : List Text) × (words ≡ codes "run" ∷ specs) × (are_names specs ≡ true) × (all_of (codes "names") found ≡ Some specs)
  run_is found is =
      let b = behind (codes "run") found is in
      let s = names_shape (codes "run") in
      let shape : b.1 ≡ s = same_Some b.1 s (sym b.3.shape) in
      let are = takes_names (codes "run") b.0 b.5 (sym (ap (λ x. level x b.0) shape) ∙ b.6) in
      (b.0, b.2, are, ap (all_of (codes "names")) (b.4 ∙ ap (λ x. rows x b.0) shape) ∙ names_found (codes "run") b.0 are)

-- `run` and names are taken
pub run_free : (specs : List Text) → are_names specs ≡ true → fault_of line_app (codes "run" ∷ specs) ≡ []
run_free specs are = run_enters.fault specs ∙ ap (λ k. or_else k []) (names_free (codes "run") specs are)

-- words that spell a command, each a name, are taken by clap
pub free_by : (words : List Text) → list_all is_name words ≡ true → (c : CommandWords) → Spells words c → fault_of line_app words ≡ []
free_by words names (Replay a b) s =
    ap (fault_of line_app) s.0 ∙ replay_enters.fault (a ∷ b ∷ []) ∙ ap (λ k. or_else k []) (pair_free (codes "replay") a b s.1 s.2)
free_by words names (Run specs scripts) s =
    absurd (no_separator (codes "run" ∷ specs) scripts (subst (λ x. list_all is_name x ≡ true) s.0 names))
free_by words names (Check specs) s =
    ap (fault_of line_app) s.0 ∙ check_enters.fault specs ∙ ap (λ k. or_else k []) (names_free (codes "check") specs (names_told specs s.1))
free_by words names (Coenable specs) s =
    ap (fault_of line_app) s.0 ∙ coenable_enters.fault specs ∙ ap (λ k. or_else k []) (names_free (codes "coenable") specs (names_told specs s.1))
free_by words names (Sweep a b) s =
    ap (fault_of line_app) s.0 ∙ sweep_enters.fault (a ∷ b ∷ []) ∙ ap (λ k. or_else k []) (pair_free (codes "sweep") a b s.1 s.2)
free_by words names (Gen n) s =
    let name : is_name (decimal n) ≡ true = (both (is_name (decimal n)) true (subst (λ x. list_all is_name x ≡ true) s.0 names)).0 in
    ap (fault_of line_app) s.0 ∙ gen_enters.fault (decimal n ∷ []) ∙ ap (λ k. or_else k []) (one_free (decimal n) name)
free_by words names (Audit history specs scripts) s =
    absurd (no_separator (codes "audit" ∷ history ∷ specs) scripts (subst (λ x. list_all is_name x ≡ true) s.0 names))

pub refused_line : (words : List Text) → list_all is_name words ≡ true → fault_of line_app words ≢ [] → command_of words ≡ None
refused_line words names fault = none_if (command_of words) (λ c e. fault (free_by words names c (spelled words c e)))

-- words that spell a command without a separator are names
abbrev pub IsApart : CommandWords → Type 0
IsApart (Run specs scripts) = ⊥
IsApart (Audit history specs scripts) = ⊥
IsApart c = Unit {0}

pub names_apart : (words : List Text) (c : CommandWords) → IsApart c → Spells words c → list_all is_name words ≡ true
names_apart words (Replay a b) apart s = rw (s.0, s.1, s.2) refl
names_apart words (Run specs scripts) apart s = absurd apart
names_apart words (Audit history specs scripts) apart s = absurd apart
names_apart words (Check specs) apart s = rw s.0 s.1.each
names_apart words (Coenable specs) apart s = rw s.0 s.1.each
names_apart words (Sweep a b) apart s = rw (s.0, s.1, s.2) refl
names_apart words (Gen n) apart s = rw (s.0, decimal_name n s.1 s.2) refl

-- so are those without a separator
pub names_by : (words : List Text) → position (bytes_eq (codes "--")) words ≡ None → (c : CommandWords) → Spells words c → list_all is_name words ≡ true
names_by words none (Run specs scripts) s =
    absurd (none-some _ (sym none ∙ ap (position (bytes_eq (codes "--"))) s.0 ∙ separator_at (codes "run" ∷ specs) scripts s.1.each))
names_by words none (Audit history specs scripts) s =
    let name : list_all is_name (codes "audit" ∷ history ∷ specs) ≡ true = rw s.1 s.2.each in
    absurd (none-some _ (sym none ∙ ap (position (bytes_eq (codes "--"))) s.0 ∙ separator_at (codes "audit" ∷ history ∷ specs) scripts name))
names_by words none (Replay a b) s = names_apart words (Replay a b) tt s
names_by words none (Check specs) s = names_apart words (Check specs) tt s
names_by words none (Coenable specs) s = names_apart words (Coenable specs) tt s
names_by words none (Sweep a b) s = names_apart words (Sweep a b) tt s
names_by words none (Gen n) s = names_apart words (Gen n) tt s

-- ---- a command of names by itself
module _ (name : Text) (command : Command) (makes : Makes (names_shape name) command) (ws : List Text) where
  level_of : fault_of (app_of command) ws ≡ level (names_shape name) ws
  level_of = ap (λ a. fault_of a ws) makes.app ∙ by_itself name ws

  pub takes_alone : list_all is_name ws ≡ true → fault_of (app_of command) ws ≡ [] → are_names ws ≡ true
  takes_alone names none = takes_names name ws names (sym level_of ∙ none)

  pub found_alone : are_names ws ≡ true → (m : ArgMatches) → HasMatchesOf (app_of command) ws m → all_of (codes "names") (rows_of (found_of m)) ≡ Some ws
  found_alone are m has =
      ap (all_of (codes "names")) ((has (ap is_simple makes.app)).0 ∙ ap (λ a. matches_of a ws) makes.app) ∙ names_found name ws are

  pub not_alone : list_all is_name ws ≡ true → (e : WordsError) → (e ≡ NoMemory) ⊎ ((e ≡ Usage) × (fault_of (app_of command) ws ≢ []))
      → (e ≡ NoMemory) ⊎ ((e ≡ Usage) × (are_names ws ≡ false))
  not_alone names e (inl short) = inl short
  not_alone names e (inr fault) = inr (fault.0, by (are_names ws) refl)
    where
      by : (b : Bool) → are_names ws ≡ b → b ≡ false
      by false is = refl
      by true is = absurd (fault.1 (level_of ∙ names_free name ws is))
