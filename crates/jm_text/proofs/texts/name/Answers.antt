use Rattle.std.proofs.Common.{sym, ◌∙◌}
use Rattle.jm_text.proofs.Names.{named}
use Rattle.jm_text.proofs.texts.name.Goals as goal

pub returns-then-is_name-clause-found : goal.returns-then-is_name-clause-found
returns-then-is_name-clause-found c =
    let is_name = sym c.is_name.ensures ∙ c.if-is_name.true in
    let said = c.from_utf8.ensures.cases in
    (λ _. is_name, λ _. c.ok.ensures.variant ∙ named c.args.bytes.now c.args.token c.from_utf8.result _ is_name (rw c.text.ensures at said))
