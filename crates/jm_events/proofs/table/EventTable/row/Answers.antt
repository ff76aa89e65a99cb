use Rattle.std.proofs.Common.{◌<◌, length, refl, arith}
use Rattle.std.proofs.lemmas.Option.{slice_get_read}
use Rattle.jm_events.proofs.RowLemmas.{within_rows, field_at, mask_at}
use Rattle.jm_events.proofs.table.EventTable.row.Goals as goal

pub index-requires : goal.index-requires
index-requires c = omega (arith, c.self.inside.rows.ok.0, within_rows _ _ _ c.self.invariant.row_each (rw (← c.self.view_is) at c.requires))

pub returns-clause-mask : goal.returns-clause-mask
returns-clause-mask c =
    let lt : c.args.letter.0 < length c.self.inside.rows.items = within_rows _ _ _ c.self.invariant.row_each (rw (← c.self.view_is) at c.requires) in
    rw (← c.self.view_is) (field_at (λ e. e.mask) (λ r. r.mask) _ _ _ _ (λ _. refl) c.self.invariant.row_each (slice_get_read _ _ _ _ refl lt c.index.ensures))

pub returns-clause-creation : goal.returns-clause-creation
returns-clause-creation c =
    let lt : c.args.letter.0 < length c.self.inside.rows.items = within_rows _ _ _ c.self.invariant.row_each (rw (← c.self.view_is) at c.requires) in
    rw (← c.self.view_is) (field_at (λ e. e.creation) (λ r. r.creation) _ _ _ _ (λ _. refl) c.self.invariant.row_each (slice_get_read _ _ _ _ refl lt c.index.ensures))

pub returns-clause-line : goal.returns-clause-line
returns-clause-line c =
    let lt : c.args.letter.0 < length c.self.inside.rows.items = within_rows _ _ _ c.self.invariant.row_each (rw (← c.self.view_is) at c.requires) in
    rw (← c.self.view_is) (field_at (λ e. e.line) (λ r. r.line) _ _ _ _ (λ _. refl) c.self.invariant.row_each (slice_get_read _ _ _ _ refl lt c.index.ensures))

pub returns-clause-bits : goal.returns-clause-bits
returns-clause-bits c =
    let lt : c.args.letter.0 < length c.self.inside.rows.items = within_rows _ _ _ c.self.invariant.row_each (rw (← c.self.view_is) at c.requires) in
    rw (← c.self.view_is) (mask_at _ _ _ _ c.self.invariant.masks lt c.index.ensures)
