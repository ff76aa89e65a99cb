use Rattle.std.proofs.Common.{arith}
use Rattle.jm_lines.proofs.LowLemmas.{nothing_known}
use Rattle.jm_lines.proofs.words.next_low.Goals as goal

pub returns-clause-behind : goal.returns-clause-behind
returns-clause-behind c = λ lt. nothing_known c.args.text.now _ (omega arith)
