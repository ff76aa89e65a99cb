use Rattle.std.proofs.Common.{rules}
use Rattle.std.specs.Ordering.{is_lt, eq_by_cmp}
use Rattle.std.proofs.lemmas.List.Sorted.{ranks_by, answers_always}
use Rattle.std.proofs.lemmas.Fn.{dedup_same}
use Rattle.jm_model.specs.declared.firings.Firing.{Firing}
use Rattle.jm_semantics.specs.Answers.{firing_cmp}
use Rattle.jm_semantics.proofs.OrderLemmas.{firing_cmp_total}
use Rattle.jm_audit.proofs.OrderLemmas.{ordered_firings}
use Rattle.jm_audit.proofs.report.put_in_order.Goals as goal

pub returns : goal.returns
returns c =
    let order = c.sort_unstable_by.ensures.sorted (λ f g. is_lt (firing_cmp f g)) (ranks_by firing_cmp_total (λ (f : Firing). f)) (answers_always _ _ _ (λ f a r h k. search rules)) in
    let once = dedup_same _ (eq_by_cmp firing_cmp) _ (λ x y b f' x' y' k. search rules) _ _ c.dedup_by.ensures.filtered in
    let all = ordered_firings _ _ _ c.sort_unstable_by.ensures.permutation order once in
    record { increasing = all.increasing; members = all.same }
