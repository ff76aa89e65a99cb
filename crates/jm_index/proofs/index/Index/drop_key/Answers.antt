use Rattle.std.proofs.Common.{ℕ, sym, ◌∙◌, subst, arith}
use Rattle.std.proofs.lemmas.Bool.{both_ways}
use Rattle.jm_index.specs.Index.{PairList, IsKey}
use Rattle.jm_index.proofs.IndexLemmas.{IsIndexed-dropped, seen, key_unset, all_keyed, cleared_gone, cleared_fewer}
use Rattle.jm_index.proofs.index.Index.drop_key.Goals.{else-has-via-then-has+else-not-is_set, else-has-via-else-has}
use Rattle.jm_index.proofs.index.Index.drop_key.Goals as goal

pub invariant_of-self : goal.invariant_of-self
invariant_of-self c = rw c.set.ensures (IsIndexed-dropped _ _ _ _ _ _ c.self.invariant (c.has.ensures.yes c.if-has.true) c.clear.ensures)

pub returns-then-not-is_set-clause-gone : goal.returns-then-not-is_set-clause-gone
returns-then-not-is_set-clause-gone c = cleared_gone _ _ _ c.clear.ensures

pub returns-then-not-is_set-clause-fewer : goal.returns-then-not-is_set-clause-fewer
returns-then-not-is_set-clause-fewer c = λ o key. subst (λ (v : PairList). IsKey v o) c.self.view_is (cleared_fewer _ _ _ o c.clear.ensures key)

pub returns-then-not-is_set-clause-keyed : goal.returns-then-not-is_set-clause-keyed
returns-then-not-is_set-clause-keyed c =
    rw c.set.ensures (all_keyed _ _ _ _ (IsIndexed-dropped _ _ _ _ _ _ c.self.invariant (c.has.ensures.yes c.if-has.true) c.clear.ensures))

pub returns-else-has-clause-gone : goal.returns-else-has-clause-gone
returns-else-has-clause-gone c =
    λ key. let is_key : IsKey (seen c.self.inside.entries.items c.self.inside.trees c.self.inside.dropped) c.args.object = subst (λ (v : PairList). IsKey v c.args.object) (sym c.self.view_is) key in
    let unset = key_unset _ _ _ _ _ c.self.invariant is_key in
    elim c.else-has.branch [
      | else-has-via-then-has+else-not-is_set w ↦ both_ways _ unset.1 (sym w.is_set.ensures ∙ w.if-not-is_set.false)
      | else-has-via-else-has w ↦
          let past = c.has.ensures.no w.if-has.false in
          omega (arith, unset.0, past)
    ]
