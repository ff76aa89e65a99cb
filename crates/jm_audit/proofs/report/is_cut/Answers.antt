use Rattle.std.proofs.Common.{List, ℕ, ◌↔◌, IsTrue, ◌∙◌, ap, subst}
use Rattle.jm_model.specs.Bindings.{mask_where}
use Rattle.jm_model.specs.Meanings.{IsCutWord}
use Rattle.jm_audit.specs.Flags.{is_flagged}
use Rattle.jm_audit.proofs.report.is_cut.Goals as goal

pub returns : goal.returns
returns g c =
    let m = g.M.Monitor.meaning (g.M.Monitor.definition c.args.rules.now) in
    let stands = subst (λ (w : List ℕ). g.M.Monitor.StandsFor c.args.rules.now c.in_ok-state.state w) c.word.ensures c.in_ok-state.ensures in
    subst (λ (dead : ℕ). IsTrue c.cut.result ↔ IsCutWord m c.args.instance.now.word dead)
    (c.dead_mask.ensures ∙ ap (mask_where (is_flagged c.args.dead.now)) c.binding.ensures)
    (c.cut.ensures c.args.instance.now.word stands)
