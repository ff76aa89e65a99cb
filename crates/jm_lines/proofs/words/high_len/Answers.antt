use Rattle.std.proofs.Common.{sym, arith}
use Rattle.std.proofs.lemmas.List.Sums.{position_or_len_is}
use Rattle.jm_lines.specs.Low.{is_low}
use Rattle.jm_lines.proofs.LowLemmas.{low_true}
use Rattle.jm_lines.proofs.words.high_len.Goals as goal

pub returns-then-b-lt36-clause-value : goal.returns-then-b-lt36-clause-value
returns-then-b-lt36-clause-value c =
    sym (position_or_len_is is_low c.args.text.now c.loop-i.i 0 (omega arith) c.loop-i.invariant (λ _. low_true _ c.if-b-lt36.true))

pub returns-clause-value : goal.returns-clause-value
returns-clause-value c =
    sym (position_or_len_is is_low c.args.text.now _ 0 (omega arith) (λ k h. c.loop-i.invariant k (omega arith)) (λ h. absurd (omega arith)))
