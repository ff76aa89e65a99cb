use Rattle.std.proofs.Common.{◌∙◌, sym, ap₂, map, string_bytes, inr, codes, refl, Some}
use Rattle.std.proofs.lemmas.Result.{err_from_is_err_and}
use Rattle.std.proofs.lemmas.Option.{same_Some}
use Rattle.jm_cli.specs.Words.CommandWords.{Run}
use Rattle.jm_cli.proofs.Found.{entered_is, some_is, some_not}
use Rattle.jm_cli.proofs.Lines.{run_is}
use Rattle.jm_cli.proofs.Runs.{refused_before, refused_after, not_run, run_told_around}
use Rattle.jm_cli.proofs.command.read_run.Goals as goal

pub returns-in_err-line : goal.returns-in_err-line
returns-in_err-line c =
    let p = err_from_is_err_and c.from_residual.result c.from_residual.ensures.1 in
    rw (p.1, p.2) (refused_before (map string_bytes c.args.before.now) (map string_bytes c.args.after.now) _ c.in_err-line.ensures.refused)

pub names-requires : goal.names-requires
names-requires c =
    let entered = entered_is c.in_ok-line.line (codes "run") _ (sym (c.in-Some.ensures.found.0 refl)) (sym c.in-Some.ensures.rows) in
    some_is _ _ (run_is (map string_bytes c.args.before.now) c.requires.before c.in_ok-line.ensures.taken _ (sym c.in_ok-line.ensures.found ∙ entered)).3

pub returns-in_err-scripts-in-Some : goal.returns-in_err-scripts-in-Some
returns-in_err-scripts-in-Some c =
    let p = err_from_is_err_and c.from_residual-in_err-scripts-in-Some.result c.from_residual-in_err-scripts-in-Some.ensures.1 in
    rw (p.1, p.2) (refused_after (map string_bytes c.args.before.now) (map string_bytes c.args.after.now) _ c.in_err-scripts-in-Some.ensures.refused)

pub returns-in-Some : goal.returns-in-Some
returns-in-Some c =
    let before = map string_bytes c.args.before.now in
    let after = map string_bytes c.args.after.now in
    let entered = entered_is c.in_ok-line.line (codes "run") _ (sym (c.in-Some.ensures.found.0 refl)) (sym c.in-Some.ensures.rows) in
    let r = run_is before c.requires.before c.in_ok-line.ensures.taken _ (sym c.in_ok-line.ensures.found ∙ entered) in
    run_told_around before after r.0 r.1 r.2 c.in_ok-scripts-in-Some.ensures.taken
    ∙ ap₂ (λ x y. Some (Run x y)) (same_Some _ _ (sym r.3 ∙ c.in_ok-specs-in-Some.ensures.ok)) (sym c.in_ok-scripts-in-Some.ensures.ok)

pub returns : goal.returns
returns c =
    inr (
      refl,
      not_run (map string_bytes c.args.before.now) (map string_bytes c.args.after.now) c.in_ok-line.line c.in_ok-line.ensures.found
          (λ named. some_not _ (c.subcommand_matches.ensures.found.1 named) c.in-None.is),
    )
