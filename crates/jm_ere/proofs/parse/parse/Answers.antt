use Rattle.std.proofs.Common.{rules, add-one, arith}
use Rattle.std.proofs.lemmas.Grind.{common_steps}
use Rattle.jm_ere.proofs.NotLemmas.{few_after}
use Rattle.jm_ere.proofs.parse.parse.Goals as goal

pub loop-token-preserved : goal.loop-token-preserved
loop-token-preserved c = record {
  rest = first_of (search rules, grind (arith, common_steps));
  nots = rw add-one (few_after c.loop-token.token-index c.loop-token.parser c.follow.new.self c.lexeme_of.result c.loop-token.invariant.nots (first_of (search rules, grind (arith, common_steps))));
}
