use Rattle.std.proofs.Common.{List, ℕ, subst}
use Rattle.jm_audit.proofs.report.hits.Goals as goal

pub returns-clause-hit : goal.returns-clause-hit
returns-clause-hit g c =
    c.hits.ensures c.args.instance.now.word
    (subst (λ (w : List ℕ). g.M.Monitor.StandsFor c.args.rules.now c.in_ok-state.state w) c.word.ensures c.in_ok-state.ensures)
