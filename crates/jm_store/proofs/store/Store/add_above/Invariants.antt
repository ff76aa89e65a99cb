use Rattle.std.proofs.Common.{◌≡◌, take}
use Rattle.jm_store.specs.Moves.{visited, has_all}
use Rattle.jm_store.proofs.store.Store.add_above.Given as goal

abbrev pub invariant-loop-domain : goal.invariant-loop-domain
invariant-loop-domain g l = l.above.items ≡ visited (has_all l.binding) l.binding l.self-inside.index.list (take l.domain-index l.domain-items)
