use Rattle.std.proofs.Common.{sym, ◌∙◌}
use Rattle.jm_text.proofs.Names.{name_utf8}
use Rattle.jm_script.proofs.statement.pass_line.Goals as goal

pub text-requires : goal.text-requires
text-requires c = name_utf8 _ (sym c.is_name_text.ensures ∙ c.if-not-is_name_text.false)
