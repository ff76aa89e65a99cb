use Rattle.std.proofs.Common.{refl, ap, ◌∙◌, Err, inl}
use Rattle.std.specs.Prelude.{map, string_bytes}
use Rattle.jm_cli.specs.Views.{command_words}
use Rattle.jm_top.proofs.FewLemmas.{few_named}
use Rattle.jm_top.proofs.command.read_command.Goals as goal

pub returns-in-Ok-clause-within : goal.returns-in-Ok-clause-within
returns-in-Ok-clause-within c = few_named (map string_bytes c.args.words.now) (command_words c.in-Ok.command) c.in-Ok.ensures.command

pub returns-in-Err-Usage-clause-err : goal.returns-in-Err-Usage-clause-err
returns-in-Err-Usage-clause-err c = inl (refl, c.read_words.ensures.usage (c.in-Err-Usage.is ∙ ap (λ e. Err e) c.in-Err-Usage.field-0-is))
