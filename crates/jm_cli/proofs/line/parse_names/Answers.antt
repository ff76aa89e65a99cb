use Rattle.std.proofs.Common.{◌∙◌, sym, map, string_bytes, codes}
use Rattle.std.proofs.lemmas.Option.{same_Some}
use Rattle.std.proofs.lemmas.Result.{err_from_is_err_and, IfOk-weaker}
use Rattle.jm_cli.proofs.Found.{some_is}
use Rattle.jm_cli.proofs.Lines.{takes_alone, found_alone, not_alone}
use Rattle.jm_cli.proofs.line.parse_names.Goals as goal

pub returns-in_err-found-clause-refused : goal.returns-in_err-found-clause-refused
returns-in_err-found-clause-refused c =
    let p = err_from_is_err_and c.from_residual-in_err-found.result c.from_residual-in_err-found.ensures.1 in
    rw (p.1, p.2) (not_alone (codes "names") c.in_ok-names_command.field-0 c.in_ok-names_command.ensures _ c.requires _ c.in_err-found.ensures.refused)

pub names-requires : goal.names-requires
names-requires c =
    let are = takes_alone (codes "names") c.in_ok-names_command.field-0 c.in_ok-names_command.ensures (map string_bytes c.args.words.now) c.requires c.in_ok-found.ensures.taken in
    some_is _ _ (found_alone (codes "names") c.in_ok-names_command.field-0 c.in_ok-names_command.ensures (map string_bytes c.args.words.now) are c.in_ok-found.found c.in_ok-found.ensures.found)

pub returns-clause-ok : goal.returns-clause-ok
returns-clause-ok c =
    let are = takes_alone (codes "names") c.in_ok-names_command.field-0 c.in_ok-names_command.ensures (map string_bytes c.args.words.now) c.requires c.in_ok-found.ensures.taken in
    let found = found_alone (codes "names") c.in_ok-names_command.field-0 c.in_ok-names_command.ensures (map string_bytes c.args.words.now) are c.in_ok-found.found c.in_ok-found.ensures.found in
    IfOk-weaker c.names.result _ _ (λ names is. same_Some _ _ (sym is ∙ found)) c.names.ensures.ok

pub returns-clause-taken : goal.returns-clause-taken
returns-clause-taken c =
    let are = takes_alone (codes "names") c.in_ok-names_command.field-0 c.in_ok-names_command.ensures (map string_bytes c.args.words.now) c.requires c.in_ok-found.ensures.taken in
    IfOk-weaker c.names.result _ _ (λ names is. are) c.names.ensures.ok
