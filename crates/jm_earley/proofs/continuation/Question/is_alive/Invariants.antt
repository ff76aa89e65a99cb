use Rattle.std.proofs.Common.{◌≡◌, false, take}
use Rattle.std.specs.List.{list_any}
use Rattle.jm_earley.specs.Links.{keeps_alive}
use Rattle.jm_earley.proofs.continuation.Question.is_alive.Given as goal

abbrev pub invariant-loop-item : goal.invariant-loop-item
invariant-loop-item l = list_any (keeps_alive l.productions l.self.set l.self.number l.self.earlier.now l.here) (take l.item-index l.self.items.now) ≡ false
