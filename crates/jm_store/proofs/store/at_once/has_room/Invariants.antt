use Rattle.std.proofs.Common.{◌-◌, length}
use Rattle.jm_store.proofs.store.at_once.has_room.Given as goal

abbrev pub decreases-loop-shifts : goal.decreases-loop-shifts
decreases-loop-shifts l = l.count - length l.shifts.items
