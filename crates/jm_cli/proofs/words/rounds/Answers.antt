use Rattle.std.proofs.Common.{rules}
use Rattle.jm_cli.proofs.Numbers.{not_refused}
use Rattle.jm_cli.proofs.words.rounds.Goals as goal

pub returns-in_default-2 : goal.returns-in_default-2
returns-in_default-2 c = absurd (not_refused c.args.word.now c.in_default.ensures.value.0 (search rules))
