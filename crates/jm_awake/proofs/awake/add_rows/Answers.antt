use Rattle.std.proofs.Common.{ℕ, List, [], ◌∷◌, ◌++◌, map, ap, ◌∙◌}
use Rattle.std.proofs.lemmas.List.{map_push}
use Rattle.jm_awake.proofs.AwakeLemmas.{empty_row}
use Rattle.jm_awake.proofs.awake.add_rows.Goals as goal

pub loop-alloc-preserved : goal.loop-alloc-preserved
loop-alloc-preserved c = λ e p.
    empty_row _ _ e p (ap (map (λ r. r.items)) c.in_ok-push.ensures.items ∙ map_push (λ r. r.items) _ _ ∙ ap (λ (v : List ℕ). map (λ r. r.items) c.loop-alloc.rows.items ++ v ∷ []) c.new.ensures.items)
    ∙ c.loop-alloc.invariant e p
