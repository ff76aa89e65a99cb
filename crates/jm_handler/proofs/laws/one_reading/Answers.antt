use Rattle.std.proofs.Common.{length, arith}
use Rattle.jm_handler.proofs.BlockLemmas.{says-same}
use Rattle.jm_handler.proofs.TotalLemmas.{says_something}
use Rattle.jm_handler.proofs.laws.one_reading.Goals as goal

pub returns-clause-some : goal.returns-clause-some
returns-clause-some c = λ bytes ps tokens. says_something bytes ps (length tokens) tokens (omega arith)

pub returns-clause-one : goal.returns-clause-one
returns-clause-one c = says-same
