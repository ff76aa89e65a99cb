use Rattle.std.proofs.Common.{◌≡◌, ◌∙◌, sym, refl, inr, true, false, string_bytes, rules}
use Rattle.std.specs.List.{list_all}
use Rattle.std.proofs.lemmas.List.Folds.{list_all-map}
use Rattle.jm_cli.specs.Words.{is_name}
use Rattle.jm_cli.proofs.Runs.{plain_none}
use Rattle.jm_cli.proofs.command.read_plain.Goals as goal

pub read_names-requires : goal.read_names-requires
read_names-requires c =
    let each : list_all (λ word. is_name (string_bytes word)) c.args.words.now ≡ true = search rules in
    list_all-map is_name string_bytes c.args.words.now ∙ each

pub returns-then-not-is_each_a_name : goal.returns-then-not-is_each_a_name
returns-then-not-is_each_a_name c =
    let each : list_all (λ word. is_name (string_bytes word)) c.args.words.now ≡ false = search rules in
    inr (refl, plain_none string_bytes c.args.words.now (sym c.requires) (list_all-map is_name string_bytes c.args.words.now ∙ each))
