use Rattle.std.proofs.Common.{◌≡◌, arith}
use Rattle.jm_events.proofs.RowLemmas.{within_rows, option_map-at, mention_at, same_events}
use Rattle.jm_events.proofs.table.EventTable.mention.Goals as goal

pub set_row-requires : goal.set_row-requires
set_row-requires c = omega (arith, c.self.inside.rows.ok.0, within_rows _ _ _ c.self.invariant.row_each (rw (← c.self.view_is) at c.requires))

pub returns-clause-ok : goal.returns-clause-ok
returns-clause-ok c = λ known here.
    let mask : known.mask ≡ c.row-row.result.mask = option_map-at (λ e. e.mask) _ known _ here c.row-row.ensures.mask in
    let was : known.creation ≡ c.row-row.result.creation = option_map-at (λ e. e.creation) _ known _ here c.row-row.ensures.creation in
    let line : known.line ≡ c.row-row.result.line = option_map-at (λ e. e.line) _ known _ here c.row-row.ensures.line in
    rw (← c.self.view_is, c.set_row.ensures)
    (same_events _ _ _ (mention_at _ _ _ known c.row-row.result c.args.said.creation c.self.invariant.row_each (rw (← c.self.view_is) at here) mask was line))
