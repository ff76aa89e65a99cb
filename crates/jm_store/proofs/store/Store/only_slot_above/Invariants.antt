use Rattle.std.proofs.Common.{◌≡◌, ℕ, [], take}
use Rattle.std.specs.Prelude.{MatchOption}
use Rattle.jm_index.specs.Index.{asked_slots}
use Rattle.jm_store.specs.Moves.{visited, has_all}
use Rattle.jm_store.proofs.store.Store.only_slot_above.Given as goal

abbrev pub invariant-loop-domain : goal.invariant-loop-domain
invariant-loop-domain g l =
    MatchOption l.above (visited (has_all l.binding) l.binding l.self.index.list (take l.domain-index l.domain-items) ≡ [])
    (λ (d : ℕ). visited (has_all l.binding) l.binding l.self.index.list (take l.domain-index l.domain-items) ≡ asked_slots d l.binding l.self.index.list)
