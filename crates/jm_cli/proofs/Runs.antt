-- The words around the separator.
use Rattle.std.proofs.Common.{ℕ, ◌≡◌, ◌≢◌, ◌∙◌, ◌+◌, ◌-◌, Bool, true, false, if◌then◌else◌, ◌&&◌, List, [], ◌∷◌, ◌++◌, length, get_or, map, take, drop, Option, Some, None, Result, Ok, Err, IfOk, codes, refl, sym, ap, subst, inl, inr, ◌⊎◌, length-drop}
use Rattle.std.specs.Prelude.{IfNone}
use Rattle.clap.specs.Simple.{subcommand_of, subcommand_rows_of}
use Rattle.clap.specs.Faults.{fault_of}
use Rattle.clap.specs.Matches.{subcommand_name_of}
use Rattle.clap.specs.declared.parser.matches.ArgMatches.{ArgMatches}
use Rattle.std.specs.List.{list_all, take-map, drop-map, position}
use Rattle.std.proofs.Math.Seq.{take-length, take-append_seam, drop-append-add}
use Rattle.std.specs.Str.{bytes_eq}
use Rattle.std.proofs.lemmas.Bool.{false≢true}
use Rattle.std.proofs.lemmas.Option.{same_Some, none-some}
use Rattle.std.proofs.lemmas.List.{take-append-drop, drop_more}
use Rattle.std.proofs.lemmas.List.Quantifiers.{position-Some}
use Rattle.jm_cli.specs.declared.command.Command.{Command}
use Rattle.jm_cli.specs.declared.command.WordsError.{WordsError}
use Rattle.jm_cli.specs.declared.command.WordsError.TheVariants.{Usage, NoMemory}
use Rattle.jm_model.specs.Words.{Text}
use Rattle.jm_cli.specs.Words.{CommandWords, is_name, are_names, command_of, command_around, run_command, run_around, is_audit, audit_around}
use Rattle.jm_cli.specs.Words.CommandWords.{Replay, Run, Check, Coenable, Gen, Sweep, Audit}
use Rattle.jm_cli.specs.Spelling.{Spells}
use Rattle.jm_cli.specs.Views.{Reads, command_words}
use Rattle.jm_cli.specs.Line.{line_app}
use Rattle.jm_cli.proofs.Found.{name_is}
use Rattle.jm_cli.proofs.Entering.{run_enters}
use Rattle.jm_cli.proofs.Positions.{position-map}
use Rattle.jm_cli.proofs.Saying.{both, same_bytes, chosen, taken, names_spelled, spelled}
use Rattle.jm_cli.proofs.Reading.{told, names_told, separator_at}
use Rattle.jm_cli.proofs.Lines.{none_if, refused_as, run_free, no_separator, names_apart, names_by}

-- options that hold the same commands are the same
same_command : (o p : Option CommandWords) → ((c : CommandWords) → o ≡ Some c → p ≡ Some c)
    → ((c : CommandWords) → p ≡ Some c → o ≡ Some c) → o ≡ p
same_command None None to from = refl
same_command None (Some c) to from = from c refl
same_command (Some c) p to from = sym (to c refl)

-- these words spell `run` alone
pub runs : (before after : List Text) (c : CommandWords) → run_command before after ≡ Some c
    → (specs : List Text) × (before ≡ codes "run" ∷ specs) × (are_names specs ≡ true) × (are_names after ≡ true) × (Run specs after ≡ c)
runs [] after c e = absurd (none-some c e)
runs (w ∷ specs) after c e =
    elim (chosen (bytes_eq w (codes "run")) (run_around specs after) None c e) [
      | inr other ↦ absurd (none-some c other.1)
      | inl run ↦
          let t = taken (are_names specs && are_names after) (Run specs after) c run.1 in
          let b = both (are_names specs) (are_names after) t.0 in
          (specs, ap (λ x. x ∷ specs) (same_bytes w (codes "run") run.0), b.0, b.1, t.1)
    ]

pub run_told_around : (before after specs : List Text) → before ≡ codes "run" ∷ specs → are_names specs ≡ true → are_names after ≡ true
    → run_command before after ≡ Some (Run specs after)
run_told_around before after specs is are after_are = rw is (rw (are, after_are) refl)

-- and those after `audit` that alone
pub audits : (before after : List Text) (c : CommandWords) → audit_around before after ≡ Some c
    → (history : Text) × (specs : List Text) × (before ≡ history ∷ specs) × (is_name history ≡ true) × (are_names specs ≡ true) × (are_names after ≡ true)
    × (Audit history specs after ≡ c)
audits [] after c e = absurd (none-some c e)
audits (history ∷ specs) after c e =
    let t = taken (is_name history && (are_names specs && are_names after)) (Audit history specs after) c e in
    let b = both (is_name history) (are_names specs && are_names after) t.0 in
    let d = both (are_names specs) (are_names after) b.1 in
    (history, specs, refl, b.0, d.0, d.1, t.1)

pub audit_told_around : (history : Text) (specs after : List Text) → is_name history ≡ true → are_names specs ≡ true → are_names after ≡ true
    → audit_around (history ∷ specs) after ≡ Some (Audit history specs after)
audit_told_around history specs after name are after_are = rw (name, are, after_are) refl

audit_first : (before : List Text) → is_audit before ≡ true → before ≡ codes "audit" ∷ drop 1 before
audit_first [] is = absurd (false≢true is)
audit_first (w ∷ before) is = ap (λ x. x ∷ before) (same_bytes w (codes "audit") is)

-- these words are names
around_names_by : (before after : List Text) (c : CommandWords) (b : Bool) → is_audit before ≡ b
    → (if b then audit_around (drop 1 before) after else run_command before after) ≡ Some c
    → (list_all is_name before ≡ true) × (list_all is_name after ≡ true)
around_names_by before after c false is e =
    let r = runs before after c e in
    (ap (list_all is_name) r.1 ∙ (names_spelled r.0 r.2).each, (names_spelled after r.3).each)
around_names_by before after c true is e =
    let r = audits (drop 1 before) after c e in
    let names : list_all is_name (codes "audit" ∷ r.0 ∷ r.1) ≡ true = rw r.3 (names_spelled r.1 r.4).each in
    (ap (list_all is_name) (audit_first before is ∙ ap (λ x. codes "audit" ∷ x) r.2) ∙ names, (names_spelled after r.5).each)

pub around_names : (before after : List Text) (c : CommandWords) → command_around before after ≡ Some c
    → (list_all is_name before ≡ true) × (list_all is_name after ≡ true)
around_names before after c e = around_names_by before after c (is_audit before) refl e

module _ (words : List Text) (place : ℕ) (at : position (bytes_eq (codes "--")) words ≡ Some place) where
  split : words ≡ take place words ++ codes "--" ∷ drop (place + 1) words
  split =
      let there = position-Some (bytes_eq (codes "--")) words place [] at in
      let rest = drop_more words place [] there.0 in
      sym (take-append-drop place words) ∙ ap (λ r. take place words ++ r) rest
      ∙ ap (λ w. take place words ++ w ∷ drop (place + 1) words) (sym (same_bytes (codes "--") (get_or words place []) there.1))

  not_names : list_all is_name words ≡ true → ⊥
  not_names names = no_separator (take place words) (drop (place + 1) words) (subst (λ x. list_all is_name x ≡ true) split names)

  told_around : (c : CommandWords) → Spells words c → command_around (take place words) (drop (place + 1) words) ≡ Some c
  told_around (Run specs scripts) s =
      let first : Some place ≡ Some (length (codes "run" ∷ specs)) =
      sym at ∙ ap (position (bytes_eq (codes "--"))) s.0 ∙ separator_at (codes "run" ∷ specs) scripts s.1.each in
      let k : place ≡ length (codes "run" ∷ specs) = same_Some place (length (codes "run" ∷ specs)) first in
      let before : take place words ≡ codes "run" ∷ specs =
      ap (take place) s.0 ∙ ap (λ n. take n ((codes "run" ∷ specs) ++ codes "--" ∷ scripts)) k ∙ take-append_seam (codes "run" ∷ specs) (codes "--" ∷ scripts) in
      let after : drop (place + 1) words ≡ scripts =
      ap (drop (place + 1)) s.0 ∙ ap (λ n. drop (n + 1) ((codes "run" ∷ specs) ++ codes "--" ∷ scripts)) k ∙ drop-append-add (codes "run" ∷ specs) (codes "--" ∷ scripts) 1 in
      rw (before, after) (rw (names_told specs s.1, names_told scripts s.2) refl)
  told_around (Audit history specs scripts) s =
      let all : List Text = codes "audit" ∷ history ∷ specs in
      let names : list_all is_name all ≡ true = rw s.1 s.2.each in
      let first : Some place ≡ Some (length all) =
      sym at ∙ ap (position (bytes_eq (codes "--"))) s.0 ∙ separator_at all scripts names in
      let k : place ≡ length all = same_Some place (length all) first in
      let before : take place words ≡ all =
      ap (take place) s.0 ∙ ap (λ n. take n (all ++ codes "--" ∷ scripts)) k ∙ take-append_seam all (codes "--" ∷ scripts) in
      let after : drop (place + 1) words ≡ scripts =
      ap (drop (place + 1)) s.0 ∙ ap (λ n. drop (n + 1) (all ++ codes "--" ∷ scripts)) k ∙ drop-append-add all (codes "--" ∷ scripts) 1 in
      rw (before, after) (rw (s.1, names_told specs s.2, names_told scripts s.3) refl)
  told_around (Replay a b) s = absurd (not_names (names_apart words (Replay a b) tt s))
  told_around (Check specs) s = absurd (not_names (names_apart words (Check specs) tt s))
  told_around (Coenable specs) s = absurd (not_names (names_apart words (Coenable specs) tt s))
  told_around (Sweep a b) s = absurd (not_names (names_apart words (Sweep a b) tt s))
  told_around (Gen n) s = absurd (not_names (names_apart words (Gen n) tt s))

  said_around_by : (before after : List Text) → words ≡ before ++ codes "--" ∷ after → (c : CommandWords) (b : Bool) → is_audit before ≡ b
      → (if b then audit_around (drop 1 before) after else run_command before after) ≡ Some c → Spells words c
  said_around_by before after is c false not e =
      let r = runs before after c e in
      subst (Spells words) r.4 (is ∙ ap (λ x. x ++ codes "--" ∷ after) r.1, names_spelled r.0 r.2, names_spelled after r.3)
  said_around_by before after is c true audit e =
      let r = audits (drop 1 before) after c e in
      let first : before ≡ codes "audit" ∷ r.0 ∷ r.1 = audit_first before audit ∙ ap (λ x. codes "audit" ∷ x) r.2 in
      subst (Spells words) r.6 (is ∙ ap (λ x. x ++ codes "--" ∷ after) first, r.3, names_spelled r.1 r.4, names_spelled after r.5)

  said_around : (before after : List Text) → words ≡ before ++ codes "--" ∷ after → (c : CommandWords) → command_around before after ≡ Some c → Spells words c
  said_around before after is c e = said_around_by before after is c (is_audit before) refl e

  pub around : command_of words ≡ command_around (take place words) (drop (place + 1) words)
  around = same_command _ _ (λ c e. told_around c (spelled words c e))
      (λ c e. told words c (said_around (take place words) (drop (place + 1) words) split c e))

-- what is read of the words around the first separator is read of the words
pub around_separator : {X : Type 0} (f : X → Text) (xs : List X) (place : ℕ) (result : Result Command WordsError)
    → Some place ≡ position (λ x. bytes_eq (codes "--") (f x)) xs
    → Reads (command_around (map f (take place xs)) (map f (take (length xs - (place + 1)) (drop (place + 1) xs)))) result
    → Reads (command_of (map f xs)) result
around_separator f xs place result at read =
    let first : position (bytes_eq (codes "--")) (map f xs) ≡ Some place = position-map (bytes_eq (codes "--")) f xs ∙ sym at in
    let rest : take (length xs - (place + 1)) (drop (place + 1) xs) ≡ drop (place + 1) xs =
    ap (λ n. take n (drop (place + 1) xs)) (sym (length-drop (place + 1) xs)) ∙ take-length (drop (place + 1) xs) in
    rw (around (map f xs) place first, take-map f place xs, drop-map f (place + 1) xs) (rw rest at read)

-- words that are no names and have no separator spell nothing
pub plain_none : {X : Type 0} (f : X → Text) (xs : List X) → None ≡ position (λ x. bytes_eq (codes "--") (f x)) xs
    → list_all is_name (map f xs) ≡ false → command_of (map f xs) ≡ None
plain_none f xs at not =
    let first : position (bytes_eq (codes "--")) (map f xs) ≡ None = position-map (bytes_eq (codes "--")) f xs ∙ sym at in
    none_if (command_of (map f xs)) (λ c e. false≢true (sym not ∙ names_by (map f xs) first c (spelled (map f xs) c e)))

-- what reading says, clause by clause
pub reads_ok : (o : Option CommandWords) (r : Result Command WordsError) → Reads o r → IfOk r (λ command. o ≡ Some (command_words command))
reads_ok o (Ok command) read = read
reads_ok o (Err e) read = tt

pub reads_usage : (o : Option CommandWords) (r : Result Command WordsError) → Reads o r → r ≡ Err Usage → o ≡ None
reads_usage o (Ok command) read is = cc
reads_usage o (Err e) (inl short) is = cc
reads_usage o (Err e) (inr usage) is = usage.1

pub reads_none : (o : Option CommandWords) (r : Result Command WordsError) → Reads o r → IfNone o ((r ≡ Err Usage) ⊎ (r ≡ Err NoMemory))
reads_none (Some c) r read = tt
reads_none None (Ok command) read = absurd (none-some _ read)
reads_none None (Err e) (inl short) = inr (ap (λ x. Err x) short)
reads_none None (Err e) (inr usage) = inl (ap (λ x. Err x) usage.0)

-- ---- what clap refuses of words around a separator
module _ (before after : List Text) where
  pub refused_before : (e : WordsError) → (e ≡ NoMemory) ⊎ ((e ≡ Usage) × (fault_of line_app before ≢ []))
      → (e ≡ NoMemory) ⊎ ((e ≡ Usage) × (run_command before after ≡ None))
  refused_before e refused = refused_as (run_command before after) e refused
      (λ fault. none_if (run_command before after) (λ c is.
      let r = runs before after c is in
      fault (ap (fault_of line_app) r.1 ∙ run_free r.0 r.2)))

  pub refused_after : (e : WordsError) → (e ≡ NoMemory) ⊎ ((e ≡ Usage) × (are_names after ≡ false))
      → (e ≡ NoMemory) ⊎ ((e ≡ Usage) × (run_command before after ≡ None))
  refused_after e refused = refused_as (run_command before after) e refused
      (λ not. none_if (run_command before after) (λ c is. false≢true (sym not ∙ (runs before after c is).3)))

  pub not_run : (m : ArgMatches) → subcommand_rows_of m ≡ subcommand_of line_app before → (subcommand_name_of m ≡ Some (codes "run") → ⊥)
      → run_command before after ≡ None
  not_run m found other = none_if (run_command before after) (λ c is.
      let r = runs before after c is in
      other (name_is m (codes "run") _ (found ∙ ap (subcommand_of line_app) r.1 ∙ run_enters.found r.0)))
