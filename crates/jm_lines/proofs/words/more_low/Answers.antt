use Rattle.std.proofs.Common.{arith}
use Rattle.jm_lines.proofs.LowLemmas.{nothing_known}
use Rattle.jm_lines.proofs.words.more_low.Goals as goal

pub returns-then-text-at-lt-TOGETHER : goal.returns-then-text-at-lt-TOGETHER
returns-then-text-at-lt-TOGETHER c = nothing_known c.args.text.now c.args.at c.requires

pub returns : goal.returns
returns c = record { count = 32; few = omega arith; within = omega arith; told = c.low_bytes.ensures }
