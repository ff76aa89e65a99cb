use Rattle.std.proofs.Common.{◌≡◌, map, take}
use Rattle.jm_events.proofs.table.EventTable.masks.Given as goal

abbrev pub invariant-loop-row : goal.invariant-loop-row
invariant-loop-row l = l.masks.items ≡ map (λ row. row.mask) (take l.row-index l.row-items)
