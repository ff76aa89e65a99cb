use Rattle.std.proofs.Common.{◌∙◌, sym, ap, map, string_bytes, option_map, subst, Option}
use Rattle.std.proofs.lemmas.Result.{err_from_is_err_and}
use Rattle.clap.specs.Walk.{rows_of}
use Rattle.clap.specs.Matches.{found_of}
use Rattle.jm_cli.specs.Words.{CommandWords}
use Rattle.jm_cli.specs.Views.{Reads}
use Rattle.jm_cli.proofs.Found.{entered_is, none_entered}
use Rattle.jm_cli.proofs.Lines.{found_is, is_entered, refused_as, refused_line}
use Rattle.jm_cli.proofs.command.read_names.Goals as goal

pub returns-in_err-line : goal.returns-in_err-line
returns-in_err-line c =
    let p = err_from_is_err_and c.from_residual.result c.from_residual.ensures.1 in
    rw (p.1, p.2) (refused_as _ _ c.in_err-line.ensures.refused (refused_line (map string_bytes c.args.words.now) c.requires))

pub read_found-requires : goal.read_found-requires
read_found-requires c =
    let entered = entered_is c.in_ok-line.line _ _ (ap (option_map (λ q. q.0.now)) (sym c.in-Some.is) ∙ c.subcommand.ensures.name) (ap (option_map (λ q. rows_of (found_of q.1.now))) (sym c.in-Some.is) ∙ c.subcommand.ensures.rows) in
    (found_is (map string_bytes c.args.words.now) c.requires c.in_ok-line.ensures.taken _ _ (sym c.in_ok-line.ensures.found ∙ entered)).0

pub returns : goal.returns
returns c =
    let entered = entered_is c.in_ok-line.line _ _ (ap (option_map (λ q. q.0.now)) (sym c.in-Some.is) ∙ c.subcommand.ensures.name) (ap (option_map (λ q. rows_of (found_of q.1.now))) (sym c.in-Some.is) ∙ c.subcommand.ensures.rows) in
    let same = (found_is (map string_bytes c.args.words.now) c.requires c.in_ok-line.ensures.taken _ _ (sym c.in_ok-line.ensures.found ∙ entered)).1 in
    subst (λ (o : Option CommandWords). Reads o c.read_found.result) same c.read_found.ensures

pub unreachable-requires : goal.unreachable-requires
unreachable-requires c =
    is_entered (map string_bytes c.args.words.now) c.requires c.in_ok-line.ensures.taken
    (sym c.in_ok-line.ensures.found ∙ none_entered c.in_ok-line.line (ap (option_map (λ q. q.0.now)) (sym c.in-None.is) ∙ c.subcommand.ensures.name))
