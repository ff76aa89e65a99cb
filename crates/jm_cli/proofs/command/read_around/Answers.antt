use Rattle.std.proofs.Common.{◌≡◌, ◌∙◌, ◌-◌, sym, refl, ap, inr, Bool, true, false, List, [], ◌∷◌, length, take, drop, string_bytes, map, rules, length-drop}
use Rattle.std.proofs.Math.Seq.{take-length}
use Rattle.std.specs.List.{list_all}
use Rattle.std.proofs.lemmas.Bool.{false≢true}
use Rattle.std.proofs.lemmas.List.Folds.{list_all-map}
use Rattle.jm_cli.specs.Words.{is_name, command_around}
use Rattle.jm_cli.proofs.Lines.{none_if}
use Rattle.jm_cli.proofs.Saying.{both}
use Rattle.jm_cli.proofs.Runs.{around_names}
use Rattle.jm_cli.proofs.command.read_around.Goals as goal
use Rattle.jm_cli.proofs.command.read_around.Goals.{then-not-is_each_a_name-via-then-not-is_each_a_name, then-not-is_each_a_name-via-else-not-is_each_a_name+then-not-is_each_a_name-2}

names_behind : {X : Type 0} (p : X → Bool) (xs : List X) → list_all p xs ≡ true → list_all p (drop 1 xs) ≡ true
names_behind p [] names = refl
names_behind p (x ∷ xs) names = (both (p x) (list_all p xs) names).1

pub returns-then-not-is_each_a_name : goal.returns-then-not-is_each_a_name
returns-then-not-is_each_a_name c =
    let before = map string_bytes c.args.before.now in
    let after = map string_bytes c.args.after.now in
    elim c.then-not-is_each_a_name.branch [
      | then-not-is_each_a_name-via-then-not-is_each_a_name w ↦
          let each : list_all (λ word. is_name (string_bytes word)) c.args.before.now ≡ false = search rules in
          let names : list_all is_name before ≡ false = list_all-map is_name string_bytes c.args.before.now ∙ each in
          inr (refl, none_if (command_around before after) (λ d e. false≢true (sym names ∙ (around_names before after d e).0)))
      | then-not-is_each_a_name-via-else-not-is_each_a_name+then-not-is_each_a_name-2 w ↦
          let each : list_all (λ word. is_name (string_bytes word)) c.args.after.now ≡ false = search rules in
          let names : list_all is_name after ≡ false = list_all-map is_name string_bytes c.args.after.now ∙ each in
          inr (refl, none_if (command_around before after) (λ d e. false≢true (sym names ∙ (around_names before after d e).1)))
    ]

pub read_run-requires-clause-before : goal.read_run-requires-clause-before
read_run-requires-clause-before c =
    let each : list_all (λ word. is_name (string_bytes word)) c.args.before.now ≡ true = search rules in
    list_all-map is_name string_bytes c.args.before.now ∙ each

pub read_run-requires-clause-after : goal.read_run-requires-clause-after
read_run-requires-clause-after c =
    let each : list_all (λ word. is_name (string_bytes word)) c.args.after.now ≡ true = search rules in
    list_all-map is_name string_bytes c.args.after.now ∙ each

pub read_audit-requires-clause-before : goal.read_audit-requires-clause-before
read_audit-requires-clause-before c =
    let words = c.args.before.now in
    let each : list_all (λ word. is_name (string_bytes word)) words ≡ true = search rules in
    let rest : take (length words - 1) (drop 1 words) ≡ drop 1 words =
    ap (λ n. take n (drop 1 words)) (sym (length-drop 1 words)) ∙ take-length (drop 1 words) in
    rw rest (list_all-map is_name string_bytes (drop 1 words) ∙ names_behind (λ word. is_name (string_bytes word)) words each)

pub read_audit-requires-clause-after : goal.read_audit-requires-clause-after
read_audit-requires-clause-after c =
    let each : list_all (λ word. is_name (string_bytes word)) c.args.after.now ≡ true = search rules in
    list_all-map is_name string_bytes c.args.after.now ∙ each
