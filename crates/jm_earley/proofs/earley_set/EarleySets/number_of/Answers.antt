use Rattle.std.proofs.Common.{arith}
use Rattle.std.proofs.lemmas.Option.{slice_get_within}
use Rattle.jm_earley.proofs.earley_set.EarleySets.number_of.Goals as goal

pub returns-else-is_passed-clause-value : goal.returns-else-is_passed-clause-value
returns-else-is_passed-clause-value c = λ number there.
    omega (arith, c.len.ensures.value, slice_get_within c.args.self.now number there.0 there.1, c.is_passed.ensures.ahead c.if-is_passed.false number there)
