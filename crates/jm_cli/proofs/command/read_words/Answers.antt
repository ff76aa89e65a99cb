use Rattle.std.proofs.Common.{string_bytes}
use Rattle.jm_cli.proofs.Runs.{around_separator, reads_ok, reads_usage, reads_none}
use Rattle.jm_cli.proofs.command.read_words.Goals as goal

pub returns-in-Some-clause-command : goal.returns-in-Some-clause-command
returns-in-Some-clause-command c =
    reads_ok _ _ (around_separator string_bytes c.args.words.now c.in-Some.place c.read_around.result c.in-Some.ensures.value c.read_around.ensures)

pub returns-in-Some-clause-usage : goal.returns-in-Some-clause-usage
returns-in-Some-clause-usage c =
    reads_usage _ _ (around_separator string_bytes c.args.words.now c.in-Some.place c.read_around.result c.in-Some.ensures.value c.read_around.ensures)

pub returns-in-Some-clause-refused : goal.returns-in-Some-clause-refused
returns-in-Some-clause-refused c =
    reads_none _ _ (around_separator string_bytes c.args.words.now c.in-Some.place c.read_around.result c.in-Some.ensures.value c.read_around.ensures)
