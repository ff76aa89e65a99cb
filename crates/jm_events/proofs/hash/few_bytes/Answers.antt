use Rattle.std.proofs.Common.{◌∙◌, arith}
use Rattle.jm_events.proofs.HashLemmas.{few_4, few_5, few_6, few_7}
use Rattle.jm_events.proofs.hash.few_bytes.Goals as goal

pub returns-in-len4 : goal.returns-in-len4
returns-in-len4 c = c.from_le_bytes-in-len4.ensures ∙ few_4 c.args.text.now (omega arith)

pub returns-in-len5 : goal.returns-in-len5
returns-in-len5 c = c.from_le_bytes-in-len5.ensures ∙ few_5 c.args.text.now (omega arith)

pub returns-in-len6 : goal.returns-in-len6
returns-in-len6 c = c.from_le_bytes-in-len6.ensures ∙ few_6 c.args.text.now (omega arith)

pub returns-in-len7 : goal.returns-in-len7
returns-in-len7 c = c.from_le_bytes-in-len7.ensures ∙ few_7 c.args.text.now (omega arith)
