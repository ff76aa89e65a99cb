use Rattle.std.proofs.Common.{ℕ, ◌≡◌, List, length, subst, ◌∙◌}
use Rattle.std.proofs.lemmas.Result.{err_from_is_err_and}
use Rattle.jm_table.specs.Explorations.{IfBad}
use Rattle.jm_table.specs.Tables.{Follows}
use Rattle.jm_ere.specs.Expressions.{Expression}
use Rattle.jm_ere.specs.NormalForms.{forms_of}
use Rattle.jm_ere.specs.Groups.{IsCompiled, HasGroups}
use Rattle.jm_ere.specs.Refusals.{IsCause}
use Rattle.jm_ere.proofs.CompileLemmas.{is_compiled, map_same}
use Rattle.jm_ere.proofs.RefusalLemmas.{causes}
use Rattle.jm_ere.proofs.tree.Ere.compile.Goals as goal

pub returns-in_err-table-clause-cause : goal.returns-in_err-table-clause-cause
returns-in_err-table-clause-cause c =
    let p = err_from_is_err_and c.from_residual-in_err-table.result c.from_residual-in_err-table.ensures.1 in
    let copied : c.new-ere.result ≡ c.args.self.now = c.new-ere.ensures ∙ c.in_ok-copy.ensures.ok ∙ c.self.view_is in
    rw (p.1, p.2) (subst (λ (e : Expression). IfBad c.in_err-table.field-0.0 (IsCause e (length c.args.events.now.events))) copied
    (subst (λ (n : ℕ). IfBad c.in_err-table.field-0.0 (IsCause c.new-ere.result n)) c.letters.ensures.value
    (causes c.new-ere.result c.letters.result c.in_err-table.field-0.0 c.in_err-table.ensures.cause)))

pub returns-clause-compiled : goal.returns-clause-compiled
returns-clause-compiled c =
    let nodes = c.in_ok-table.nodes.items in
    let copied : c.new-ere.result ≡ c.args.self.now = c.new-ere.ensures ∙ c.in_ok-copy.ensures.ok ∙ c.self.view_is in
    subst (λ (e : Expression). IsCompiled e c.add_groups.new.table) copied
    (is_compiled c.new-ere.result c.in_ok-table.table nodes
    (subst (λ (l : List Expression). Follows (forms_of c.new-ere.result) c.in_ok-table.table l) (map_same nodes) c.in_ok-table.ensures.follows)
    c.add_groups.new.table
    (subst (λ (l : List Expression). HasGroups l c.in_ok-table.table c.add_groups.new.table) c.as_slice.ensures.value c.in_ok-add_groups.ensures.groups))
