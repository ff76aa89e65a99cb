use Rattle.std.proofs.Common.{List, sym, subst}
use Rattle.std.specs.Prelude.{Contains}
use Rattle.std.proofs.lemmas.Bool.{both_ways}
use Rattle.jm_index.specs.Index.{Pair, PairList, IsKey}
use Rattle.jm_index.proofs.IndexLemmas.{seen, key_unset, pair_flagged}
use Rattle.jm_index.proofs.index.Index.has_dropped.Goals as goal

pub returns-clause-keys : goal.returns-clause-keys
returns-clause-keys c =
    λ has o at gone key.
    let is_key : IsKey (seen c.self.inside.entries.items c.self.inside.trees c.self.inside.dropped) o = subst (λ (v : PairList). IsKey v o) (sym c.self.view_is) key in
    let unset = key_unset _ _ _ _ _ c.self.invariant is_key in
    both_ways _ unset.1 (c.has_dead.ensures has o at gone unset.0)

pub returns-clause-pairs : goal.returns-clause-pairs
returns-clause-pairs c =
    rw (← c.self.view_is) (λ has pair o there binds at gone. c.has_dead.ensures has o at gone (pair_flagged _ _ _ _ o pair c.self.invariant there binds))
