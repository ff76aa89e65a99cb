use Rattle.std.proofs.Common.{List, Option, ℕ, ap, ◌∙◌}
use Rattle.std.specs.Map.{lookup}
use Rattle.std.specs.HashMap.{get}
use Rattle.jm_model.specs.Layout.{binding_eq}
use Rattle.jm_index.proofs.PositionLemmas.{put_key, put_other, same_positions, on_err}
use Rattle.jm_index.proofs.positions.Positions.insert.Goals as goal

pub returns-in_err-put-clause-err : goal.returns-in_err-put-clause-err
returns-in_err-put-clause-err c =
    on_err _ _ (same_positions _ _ c.in_err-put.ensures.err (λ q. ap (λ v. get binding_eq v q) c.in_err-put.ensures.others))

pub returns-then-branch-clause-ok : goal.returns-then-branch-clause-ok
returns-then-branch-clause-ok c =
    put_key _ _ _ _ c.key_of.ensures.eight c.in_ok-put.ensures.others (rw c.key_of.ensures.value at (c.in_ok-put.ensures.put c.if-branch.true))

pub returns-in_err-insert-clause-err : goal.returns-in_err-insert-clause-err
returns-in_err-insert-clause-err c =
    on_err _ _ (same_positions _ _ (c.in_ok-put.ensures.not_put c.if-branch.false)
    (λ q. ap (λ (es : List (List (Option ℕ) × ℕ)). lookup (binding_eq q) es) c.in_err-insert.ensures.err ∙ ap (λ v. get binding_eq v q) c.in_ok-put.ensures.others))

pub returns-clause-ok : goal.returns-clause-ok
returns-clause-ok c =
    put_other _ _ _ _ c.key_of.ensures.eight c.requires (c.in_ok-put.ensures.not_put c.if-branch.false) (λ q. rw c.in_ok-put.ensures.others at (c.in_ok-insert.ensures.updates.0 q))
