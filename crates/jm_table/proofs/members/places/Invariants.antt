use Rattle.std.specs.Fn.{FnReturnsAt}
use Rattle.jm_table.specs.Members.{ArePlaces}
use Rattle.jm_table.proofs.members.places.Given as goal

abbrev pub invariant-loop-place : goal.invariant-loop-place
invariant-loop-place g l = ArePlaces (FnReturnsAt g.F.Fn l.holds) l.items l.place l.places.items
