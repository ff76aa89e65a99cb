use Rattle.std.proofs.Common.{sym, subst}
use Rattle.std.specs.Prelude.{ℕ}
use Rattle.std.proofs.lemmas.Bool.{not-true, both_ways}
use Rattle.jm_model.specs.Meanings.{IsCutWord}
use Rattle.jm_store.proofs.event.Event.rests.Goals as goal

pub returns-then-is_resting-clause-alive : goal.returns-then-is_resting-clause-alive
returns-then-is_resting-clause-alive g c = λ alive w stands gone.
    both_ways c.cut.result (not-true c.cut.result alive)
    ((c.cut.ensures w stands).1 (subst (λ (d : ℕ). IsCutWord (g.M.Monitor.meaning (g.M.Monitor.definition c.args.self.now.rules.now)) w d) (sym c.dead_mask.ensures) gone))
