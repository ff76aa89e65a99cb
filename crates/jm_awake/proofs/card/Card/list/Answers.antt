use Rattle.std.specs.Int.{w32}
use Rattle.std.proofs.lemmas.Nat.Bits.{bit_at_set_same, bit_at_set_other}
use Rattle.jm_awake.proofs.card.Card.list.Goals as goal

pub returns-clause-on : goal.returns-clause-on
returns-clause-on c = bit_at_set_same w32 c.args.self.now.letters c.args.letter c.requires

pub returns-clause-others : goal.returns-clause-others
returns-clause-others c = λ e other. bit_at_set_other w32 c.args.self.now.letters c.args.letter c.requires e other
