use Rattle.std.proofs.Common.{ℕ, List, [], ◌↔◌, IsTrue, sym, subst}
use Rattle.jm_earley.specs.EarleySets.{IsAliveFor}
use Rattle.jm_machine.proofs.grammar_liveness.GrammarLiveness.can_match.Goals as goal

pub returns-in-Parse : goal.returns-in-Parse
returns-in-Parse c =
    let begin = rw (← c.self.view_is) at c.requires.begin in
    let alive = c.alive.ensures [] begin in
    rw (c.in-Parse.is, c.if-reset.true)
    (λ word none. subst (λ (x : List ℕ). IsTrue c.alive.result ↔ IsAliveFor c.args.parser.now.charts.now.grammar c.args.parser.now.charts.now.params c.args.dead x) (sym none) alive)
