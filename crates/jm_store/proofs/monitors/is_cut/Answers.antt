use Rattle.std.proofs.Common.{sym, subst}
use Rattle.std.specs.Prelude.{ℕ}
use Rattle.std.proofs.lemmas.Bool.{both_ways}
use Rattle.jm_model.specs.Meanings.{IsCutWord}
use Rattle.jm_store.proofs.monitors.is_cut.Goals as goal

pub returns-clause-yes : goal.returns-clause-yes
returns-clause-yes g c =
    let m = g.M.Monitor.meaning (g.M.Monitor.definition c.args.rules.now) in
    λ cut w stands. subst (λ (d : ℕ). IsCutWord m w d) c.dead_mask.ensures ((c.cut.ensures w stands).0 cut)

pub returns-clause-no : goal.returns-clause-no
returns-clause-no g c =
    let m = g.M.Monitor.meaning (g.M.Monitor.definition c.args.rules.now) in
    λ no w stands gone. both_ways c.cut.result no ((c.cut.ensures w stands).1 (subst (λ (d : ℕ). IsCutWord m w d) (sym c.dead_mask.ensures) gone))
