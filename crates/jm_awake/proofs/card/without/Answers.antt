use Rattle.std.specs.Int.{w32}
use Rattle.std.proofs.lemmas.Nat.Bits.{bit_at_clear_same, bit_at_clear_other}
use Rattle.jm_awake.proofs.CardLemmas.{without_each, without_all, fewer_left}
use Rattle.jm_awake.proofs.card.without.Goals as goal

pub returns-clause-off : goal.returns-clause-off
returns-clause-off c = bit_at_clear_same w32 c.args.letters c.args.letter c.requires

pub returns-clause-back : goal.returns-clause-back
returns-clause-back c = λ e. without_each c.args.letters c.args.letter e c.ranges.letters.fits c.requires

pub returns-clause-kept : goal.returns-clause-kept
returns-clause-kept c = λ e other one. without_all c.args.letters c.args.letter e c.ranges.letters.fits c.requires one other

pub returns-clause-others : goal.returns-clause-others
returns-clause-others c = λ e low other. bit_at_clear_other w32 c.args.letters c.args.letter c.requires e low other

pub returns-clause-fewer : goal.returns-clause-fewer
returns-clause-fewer c = fewer_left c.args.letters c.args.letter c.requires
