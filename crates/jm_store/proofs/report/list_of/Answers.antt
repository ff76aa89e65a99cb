use Rattle.std.proofs.Common.{List, ◌++◌, [], ◌∷◌, sym, ap, ◌∙◌}
use Rattle.jm_model.specs.declared.firings.Firing.{Firing}
use Rattle.jm_store.proofs.ListLemmas.{take_got}
use Rattle.jm_store.proofs.report.list_of.Goals as goal

pub loop-i-preserved : goal.loop-i-preserved
loop-i-preserved c =
    c.in_ok-push.ensures.items ∙ ap (λ (l : List Firing). l ++ c.get.result ∷ []) c.loop-i.invariant ∙ sym (take_got c.args.firings.now c.loop-i.i c.get.result c.get.ensures)
