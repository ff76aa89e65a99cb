use Rattle.std.proofs.Common.{◌≡◌, ℕ, List, ◌∷◌, [], Some, ap, sym, ◌∙◌}
use Rattle.atomic_table.specs.Table.{rest}
use Rattle.jm_turn.proofs.turning.run_act.Goals as goal

only_one : {V : Type 0} (l : List (ℕ × V)) (x : ℕ × V) → l ≡ x ∷ [] → l ≡ x ∷ rest l
only_one l x e = e ∙ ap (λ r. x ∷ r) (sym (ap rest e))

pub exchange-requires : goal.exchange-requires
exchange-requires g c = let k = c.requires.holder in (c.requires.seat, (Some k.0, only_one _ _ k.1))
