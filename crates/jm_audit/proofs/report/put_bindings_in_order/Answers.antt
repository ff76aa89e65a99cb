use Rattle.std.proofs.Common.{rules}
use Rattle.std.specs.Ordering.{is_lt, eq_by_cmp}
use Rattle.std.proofs.lemmas.List.Sorted.{ranks_by, answers_always}
use Rattle.std.proofs.lemmas.Fn.{dedup_same}
use Rattle.jm_model.specs.declared.binding.Binding.{Binding}
use Rattle.jm_model.specs.Bindings.{binding_cmp}
use Rattle.jm_semantics.proofs.OrderLemmas.{binding_cmp_total}
use Rattle.jm_audit.proofs.OrderLemmas.{ordered_bindings}
use Rattle.jm_audit.proofs.report.put_bindings_in_order.Goals as goal

pub returns : goal.returns
returns c =
    let order = c.sort_unstable_by.ensures.sorted (λ f g. is_lt (binding_cmp f g)) (ranks_by binding_cmp_total (λ (f : Binding). f)) (answers_always _ _ _ (λ f a r h k. search rules)) in
    let once = dedup_same _ (eq_by_cmp binding_cmp) _ (λ x y b f' x' y' k. search rules) _ _ c.dedup_by.ensures.filtered in
    let all = ordered_bindings _ _ _ c.sort_unstable_by.ensures.permutation order once in
    record { increasing = all.increasing; members = all.same }
