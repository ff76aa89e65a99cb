use Rattle.std.proofs.Common.{sym, ◌∙◌}
use Rattle.jm_earley.proofs.KeptLemmas.{found_at, not_at}
use Rattle.jm_earley.proofs.earley_set.EarleySets.find.Goals as goal

pub returns-in-Some : goal.returns-in-Some
returns-in-Some c =
    let there = c.in-Some.ensures.value in
    found_at c.args.self.now c.at.ensures.sorted c.args.position c.in-Some.number there ∙ sym there.1 ∙ c.at.ensures.value

pub returns-in-None : goal.returns-in-None
returns-in-None c = not_at c.args.self.now c.args.position c.in-None.ensures.value
