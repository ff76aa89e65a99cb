use Rattle.std.proofs.Common.{sym, ℕ, List, Option, ◌+◌, ◌≡◌, ◌≤◌, inl, inr, Err, ap, subst, ◌∙◌, arith, length}
use Rattle.std.proofs.lemmas.Result.{err_from_is_err_and}
use Rattle.jm_table.specs.Tables.{Transitions, Follows}
use Rattle.jm_ptltl.specs.Vectors.{graph_of, HasGroup}
use Rattle.jm_ptltl.specs.Tables.{IsCrowded}
use Rattle.jm_ptltl.proofs.VectorLemmas.{size, some_nodes}
use Rattle.jm_ptltl.proofs.CompileLemmas.{is_compiled, map_same}
use Rattle.jm_ptltl.proofs.CrowdLemmas.{cause_of, room_for_all, states_are}
use Rattle.jm_ptltl.proofs.past.Past.compile.Goals as goal

pub returns-in_err-table-clause-fault : goal.returns-in_err-table-clause-fault
returns-in_err-table-clause-fault c =
    let f = c.args.self.now in
    let few : size f ≤ 64 = omega (arith, c.nodes.ensures.bounded, ap (λ l. length l) c.nodes.ensures.nodes) in
    let p = err_from_is_err_and c.from_residual.result c.from_residual.ensures.1 in
    let cause = rw c.letters.ensures.value at (cause_of f few c.letters.result c.in_err-table.field-0.0 c.in_err-table.ensures.cause) in
    rw (p.1, p.2) cause

pub returns-in_err-table-clause-refused : goal.returns-in_err-table-clause-refused
returns-in_err-table-clause-refused c = λ crowd.
    let f = c.args.self.now in
    let few : size f ≤ 64 = omega (arith, c.nodes.ensures.bounded, ap (λ l. length l) c.nodes.ensures.nodes) in
    let p = err_from_is_err_and c.from_residual.result c.from_residual.ensures.1 in
    let cause = cause_of f few c.letters.result c.in_err-table.field-0.0 c.in_err-table.ensures.cause in
    rw (p.1, p.2) (elim cause [ inl none ↦ inr (ap (λ e. Err e) none) | inr many ↦ inl (ap (λ e. Err e) many.0) ])

pub returns-clause-compiled : goal.returns-clause-compiled
returns-clause-compiled c =
    let f = c.args.self.now in
    let count = ap (λ l. length l) c.nodes.ensures.nodes in
    let few : size f ≤ 64 = omega (arith, c.nodes.ensures.bounded, count) in
    let root = c.saturating_sub-root.result in
    let nodes = c.in_ok-table.nodes.items in
    let last : root + 1 ≡ size f = omega (arith, count, some_nodes f) in
    is_compiled f few root last nodes c.in_ok-table.table c.add_group.new.table c.add_group-2.new.table
    (subst (λ (l : List (Option ℕ)). Follows (graph_of f) c.in_ok-table.table l) (map_same nodes) c.in_ok-table.ensures.follows) c.in_ok-table.ensures.shape.1
    (subst (λ (l : List (Option ℕ)). HasGroup root _ l c.in_ok-table.table c.add_group.new.table) c.as_slice.ensures.value c.in_ok-add_group.ensures.group)
    (subst (λ (l : List (Option ℕ)). HasGroup root _ l c.add_group.new.table c.add_group-2.new.table) c.as_slice-2.ensures.value c.in_ok-add_group-2.ensures.group)

pub returns-clause-states : goal.returns-clause-states
returns-clause-states c =
    let f = c.args.self.now in
    let few : size f ≤ 64 = omega (arith, c.nodes.ensures.bounded, ap (λ l. length l) c.nodes.ensures.nodes) in
    let nodes = c.in_ok-table.nodes.items in
    let first = c.in_ok-add_group.ensures.group.added in
    let second = c.in_ok-add_group-2.ensures.group.added in
    states_are f few c.in_ok-table.table nodes (subst (λ (l : List (Option ℕ)). Follows (graph_of f) c.in_ok-table.table l) (map_same nodes) c.in_ok-table.ensures.follows) c.add_group-2.new.table
    (ap (λ (t : Transitions). t.states) second ∙ ap (λ (t : Transitions). t.states) first) (ap (λ (t : Transitions). t.letters) second ∙ ap (λ (t : Transitions). t.letters) first)

pub returns-clause-refused : goal.returns-clause-refused
returns-clause-refused c = λ crowd.
    let f = c.args.self.now in
    let few : size f ≤ 64 = omega (arith, c.nodes.ensures.bounded, ap (λ l. length l) c.nodes.ensures.nodes) in
    let nodes = c.in_ok-table.nodes.items in
    let letters = c.in_ok-table.ensures.shape.0 ∙ c.letters.ensures.value in
    absurd (room_for_all f few c.in_ok-table.table nodes (subst (λ (l : List (Option ℕ)). Follows (graph_of f) c.in_ok-table.table l) (map_same nodes) c.in_ok-table.ensures.follows)
    c.in_ok-add_group.ensures.bounded
    (subst (λ n. IsCrowded f n) (sym letters) crowd))
