use Rattle.std.proofs.Common.{ℕ, ◌↔◌, ◌≡◌, List, Contains, sym, subst, ◌∙◌, arith, rules}
use Rattle.std.proofs.lemmas.Result.{err_from_is_err_and}
use Rattle.jm_table.specs.Tables.{Follows}
use Rattle.jm_table.proofs.MemberLemmas.{members_are, members_within}
use Rattle.jm_fsm.specs.declared.machine.Destination.{Destination}
use Rattle.jm_fsm.specs.Categories.{IsMember, category_count}
use Rattle.jm_fsm.proofs.CompileLemmas.{HasGroups, graph_of, map_same, group_more, has_states, is_compiled}
use Rattle.jm_fsm.proofs.FaultLemmas.{no_fault}
use Rattle.jm_fsm.proofs.machine.Fsm.compile.Goals as goal

pub returns-in_err-table-clause-fault : goal.returns-in_err-table-clause-fault
returns-in_err-table-clause-fault c =
    let p = err_from_is_err_and c.from_residual.result c.from_residual.ensures.1 in
    rw (p.1, p.2) (no_fault c.args.self.now c.letters.result c.category_count-categories.ensures.machine c.in_err-table.field-0.0 c.in_err-table.ensures.cause)

pub add_group-requires-clause-states : goal.add_group-requires-clause-states
add_group-requires-clause-states c =
    let nodes = c.in_ok-table.nodes.items in
    let follows = subst (λ (l : List Destination). Follows (graph_of c.args.self.now) c.in_ok-table.table l) (map_same nodes) c.in_ok-table.ensures.follows in
    rw c.as_slice-in-loop-category.ensures.value (members_within _ nodes _ _ (c.loop-category.invariant.states ∙ sym follows.count) (rw c.as_slice.ensures.value at c.in_ok-members.ensures))

pub loop-category-preserved : goal.loop-category-preserved
loop-category-preserved c =
    let m = c.args.self.now in
    let nodes = c.in_ok-table.nodes.items in
    let added = c.in_ok-add_group.ensures.ok in
    group_more m nodes c.loop-category.category c.in_ok-table.table c.loop-category.table c.add_group.new.self added.0 c.in_ok-members.members.items c.loop-category.invariant added.1
    (subst (λ (l : List ℕ). (s : ℕ) → Contains added.0 s ↔ Contains l s) c.as_slice-in-loop-category.ensures.value added.2)
    (members_are _ nodes (IsMember m c.loop-category.category) c.in_ok-members.members.items (λ x says. search rules) (λ x says. search rules) (rw c.as_slice.ensures.value at c.in_ok-members.ensures))

pub returns-clause-states : goal.returns-clause-states
returns-clause-states c =
    let m = c.args.self.now in
    let nodes = c.in_ok-table.nodes.items in
    let all : c.loop-category.category ≡ category_count m = omega (arith, c.loop-category-test.false, c.loop-category.auto.category-end, c.category_count-categories.ensures.value) in
    has_states m nodes c.in_ok-table.table c.loop-category.table
    (subst (λ (l : List Destination). Follows (graph_of m) c.in_ok-table.table l) (map_same nodes) c.in_ok-table.ensures.follows)
    (subst (λ k. HasGroups m nodes k c.in_ok-table.table c.loop-category.table) all c.loop-category.invariant)

pub returns-clause-compiled : goal.returns-clause-compiled
returns-clause-compiled c =
    let m = c.args.self.now in
    let nodes = c.in_ok-table.nodes.items in
    let all : c.loop-category.category ≡ category_count m = omega (arith, c.loop-category-test.false, c.loop-category.auto.category-end, c.category_count-categories.ensures.value) in
    is_compiled m nodes c.in_ok-table.table c.loop-category.table
    (subst (λ (l : List Destination). Follows (graph_of m) c.in_ok-table.table l) (map_same nodes) c.in_ok-table.ensures.follows)
    (subst (λ k. HasGroups m nodes k c.in_ok-table.table c.loop-category.table) all c.loop-category.invariant)
