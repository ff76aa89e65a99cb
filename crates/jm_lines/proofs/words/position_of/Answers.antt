use Rattle.std.proofs.Common.{◌==◌, sym, arith}
use Rattle.std.proofs.lemmas.Bool.{false_from_ne_true}
use Rattle.std.proofs.lemmas.List.Sums.{position_or_len_is}
use Rattle.jm_lines.proofs.words.position_of.Goals as goal

pub returns-in-Some-clause-value : goal.returns-in-Some-clause-value
returns-in-Some-clause-value c =
    let first = c.in-Some.ensures in
    sym (position_or_len_is (λ b. b == c.args.byte) c.args.text.now c.in-Some.place 0 (omega (arith, first.0.high)) (λ k h. false_from_ne_true _ (first.0.before k (omega arith) h)) (λ _. first.1))

pub returns-in-None-clause-value : goal.returns-in-None-clause-value
returns-in-None-clause-value c =
    sym (position_or_len_is (λ b. b == c.args.byte) c.args.text.now _ 0 (omega arith) (λ k h. false_from_ne_true _ (c.in-None.ensures k (omega arith) h)) (λ h. absurd (omega arith)))
