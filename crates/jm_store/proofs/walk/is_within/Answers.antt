use Rattle.std.proofs.Common.{ℕ, ap, ◌∙◌, bit_and, ◌-◌, ◌^◌}
use Rattle.std.specs.Int.{bit_at}
use Rattle.std.proofs.lemmas.Bool.{eqb-true}
use Rattle.std.proofs.lemmas.Nat.Bits.{bit_at-zero}
use Rattle.jm_awake.proofs.CardLemmas.{left_all}
use Rattle.jm_store.proofs.walk.is_within.Goals as goal

pub returns : goal.returns
returns c = λ none e one.
    left_all c.args.letters c.args.others e c.ranges.letters.fits c.ranges.others.fits one (ap (λ (n : ℕ). bit_at n e) (eqb-true (bit_and c.args.letters (2 ^ 32 - 1 - c.args.others)) 0 none) ∙ bit_at-zero e)
