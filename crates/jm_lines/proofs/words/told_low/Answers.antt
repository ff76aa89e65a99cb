use Rattle.std.proofs.Common.{◌+◌, ap}
use Rattle.jm_lines.proofs.LowLemmas.{low_within, low_place, low_behind}
use Rattle.jm_lines.proofs.words.told_low.Goals as goal

pub returns-clause-place : goal.returns-clause-place
returns-clause-place c =
    ap (λ n. c.args.at + n) (low_place c.args.text.now c.args.at c.args.low c.requires.told c.requires.some)

pub returns-clause-fits : goal.returns-clause-fits
returns-clause-fits c = low_within c.args.text.now c.args.at c.args.low c.requires.told c.requires.some

pub returns-clause-behind : goal.returns-clause-behind
returns-clause-behind c = λ lt. low_behind c.args.text.now c.args.at c.args.low c.requires.told c.requires.some
