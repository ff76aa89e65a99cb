use Rattle.std.proofs.Common.{ℕ, List, ◌<◌, length, sym, ◌∙◌, subst}
use Rattle.std.specs.Prelude.{OnOk}
use Rattle.jm_awake.proofs.AwakeLemmas.{same_rows, row_now}
use Rattle.jm_awake.proofs.awake.make_room.Goals as goal

pub returns-clause-unchanged : goal.returns-clause-unchanged
returns-clause-unchanged c = λ e p.
    same_rows (λ r. r.items) c.add_rows.new.rows.items c.args.letter c.index_mut.result.now c.lengthen.new.row c.in_ok-add_rows.ensures.in_range c.index_mut.ensures.value c.lengthen.ensures.unchanged e p
    ∙ c.add_rows.ensures.unchanged e p

pub returns-clause-in_range : goal.returns-clause-in_range
returns-clause-in_range c =
    subst (λ (l : List ℕ). OnOk c.lengthen.result (c.args.path < length l))
    (sym (row_now (λ r. r.items) c.add_rows.new.rows.items c.args.letter c.index_mut.result.now c.lengthen.new.row c.in_ok-add_rows.ensures.in_range c.index_mut.ensures.value)) c.lengthen.ensures.in_range
