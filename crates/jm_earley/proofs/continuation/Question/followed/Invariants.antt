use Rattle.std.proofs.Common.{◌≡◌, take}
use Rattle.jm_earley.specs.Links.{rest_rules}
use Rattle.jm_earley.proofs.continuation.Question.followed.Given as goal

abbrev pub invariant-loop-item : goal.invariant-loop-item
invariant-loop-item l = l.rules.items ≡ rest_rules l.self.grammar.now l.rest l.self.set l.self.number l.self.earlier.now (take l.item-index l.self.items.now)
