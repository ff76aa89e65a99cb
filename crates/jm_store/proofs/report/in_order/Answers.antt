use Rattle.std.proofs.Common.{rules, List, sym, ◌∙◌, subst}
use Rattle.std.specs.Ordering.{is_lt}
use Rattle.std.specs.List.Sorted.{IsSortedBy}
use Rattle.std.proofs.lemmas.List.{take_all}
use Rattle.std.proofs.lemmas.List.Sorted.{ranks_by, answers_always}
use Rattle.jm_model.specs.declared.firings.Firing.{Firing}
use Rattle.jm_semantics.specs.Answers.{firing_cmp}
use Rattle.jm_semantics.proofs.OrderLemmas.{firing_cmp_total}
use Rattle.jm_store.proofs.report.in_order.Goals as goal

pub returns-clause-ordered : goal.returns-clause-ordered
returns-clause-ordered c =
    let order = c.sort_unstable_by.ensures.sorted (λ f g. is_lt (firing_cmp f g)) (ranks_by firing_cmp_total (λ (f : Firing). f)) (answers_always _ _ _ (λ f a r h k. search rules)) in
    let all = c.loop-firing.invariant ∙ take_all c.loop-firing.firing-index c.deref-firing-items.result.now c.loop-firing-test.false ∙ c.deref-firing-items.ensures.value in
    subst (λ (l : List Firing). IsSortedBy (λ f g. is_lt (firing_cmp f g)) l) (sym all) order
