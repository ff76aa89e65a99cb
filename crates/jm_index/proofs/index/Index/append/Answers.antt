use Rattle.std.proofs.Common.{◌≡◌, length, refl, sym, subst, arith}
use Rattle.std.specs.Prelude.{Contains}
use Rattle.std.proofs.lemmas.Grind.{common_steps}
use Rattle.jm_index.specs.Index.{Pair, PairList, IsKeyed}
use Rattle.jm_index.specs.Layout.{live_pairs}
use Rattle.jm_index.proofs.EntryLemmas.{live_pairs-hole}
use Rattle.jm_index.proofs.IndexLemmas.{IsIndexed-covered, IsIndexed-position, staged, added, list_added, no_position, all_keyed}
use Rattle.jm_index.proofs.PositionLemmas.{on_err}
use Rattle.jm_index.proofs.index.Index.append.Goals as goal

pub invariant_of-self : goal.invariant_of-self
invariant_of-self c = IsIndexed-covered _ _ _ _ _ c.self.invariant c.in_err-cover.ensures.unchanged c.in_err-cover.ensures.longer

pub invariant_of-self-in_err-push : goal.invariant_of-self-in_err-push
invariant_of-self-in_err-push c =
    rw c.in_err-push.ensures.items (IsIndexed-covered _ _ _ _ _ c.self.invariant c.in_ok-cover.ensures.unchanged c.in_ok-cover.ensures.longer)

pub file_all-requires : goal.file_all-requires
file_all-requires c =
    let at : c.len-position.result ≡ length c.self.inside.entries.items = grind (arith, common_steps) in
    record { last = λ m q k there. let h = c.self.invariant.inside m q k there in omega (arith, h, at); flagged = c.in_ok-cover.ensures.in_range }

pub invariant_of-self-in_err-file_all : goal.invariant_of-self-in_err-file_all
invariant_of-self-in_err-file_all c =
    let at : c.len-position.result ≡ length c.self.inside.entries.items = grind (arith, common_steps) in
    staged _ _ _ _ _ _ _ _ _ _ c.self.invariant c.in_ok-cover.ensures.unchanged c.in_ok-cover.ensures.longer refl c.in_err-file_all.ensures.filed c.gone.ensures at c.in_ok-push.ensures.items

pub returns-in_err-file_all-clause-unchanged : goal.returns-in_err-file_all-clause-unchanged
returns-in_err-file_all-clause-unchanged c =
    let is : live_pairs c.push.new.self.items ≡ c.args.self.now.list = rw (c.in_ok-push.ensures.items, ← c.self.view_is) (live_pairs-hole c.self.inside.entries.items c.gone.result c.gone.ensures) in
    on_err _ _ is

pub insert-requires : goal.insert-requires
insert-requires c =
    no_position _ _ _ _ _ c.self.invariant
    (subst (λ (v : PairList). (pair : Pair) → Contains v.list pair → pair.binding ≡ c.args.binding → ⊥) (sym c.self.view_is) c.requires)

pub invariant_of-self-in_err-insert : goal.invariant_of-self-in_err-insert
invariant_of-self-in_err-insert c =
    let at : c.len-position.result ≡ length c.self.inside.entries.items = grind (arith, common_steps) in
    IsIndexed-position _ _ _ _ _
    (staged _ _ _ _ _ _ _ _ _ _ c.self.invariant c.in_ok-cover.ensures.unchanged c.in_ok-cover.ensures.longer refl c.in_ok-file_all.ensures.filed c.gone.ensures at c.in_ok-push.ensures.items)
    c.in_err-insert.ensures.err

pub returns-in_err-insert-clause-unchanged : goal.returns-in_err-insert-clause-unchanged
returns-in_err-insert-clause-unchanged c =
    let is : live_pairs c.push.new.self.items ≡ c.args.self.now.list = rw (c.in_ok-push.ensures.items, ← c.self.view_is) (live_pairs-hole c.self.inside.entries.items c.gone.result c.gone.ensures) in
    on_err _ _ is

pub invariant_of-self-2 : goal.invariant_of-self-2
invariant_of-self-2 c =
    let at : c.len-position.result ≡ length c.self.inside.entries.items = grind (arith, common_steps) in
    let absent : (pair : Pair) → Contains (live_pairs c.self.inside.entries.items) pair → pair.binding ≡ c.args.binding → ⊥ =
    subst (λ (v : PairList). (pair : Pair) → Contains v.list pair → pair.binding ≡ c.args.binding → ⊥) (sym c.self.view_is) c.requires
    in
    rw c.in_ok-entry.ensures
    (added _ _ _ _ _ _ _ _ _ _ _ _ _ c.self.invariant c.gone.ensures c.in_ok-cover.ensures.unchanged c.in_ok-cover.ensures.longer refl c.in_ok-file_all.ensures.filed c.in_ok-file_all.ensures.present
    c.in_ok-cover.ensures.in_range at c.in_ok-push.ensures.items c.in_ok-insert.ensures.ok absent)

pub returns-clause-added : goal.returns-clause-added
returns-clause-added c =
    let at : c.len-position.result ≡ length c.self.inside.entries.items = grind (arith, common_steps) in
    rw (c.in_ok-entry.ensures, ← c.self.view_is) (list_added _ _ _ _ _ _ at c.in_ok-push.ensures.items)

pub returns-in_err-cover-clause-keyed : goal.returns-in_err-cover-clause-keyed
returns-in_err-cover-clause-keyed c = all_keyed _ _ _ _ (IsIndexed-covered _ _ _ _ _ c.self.invariant c.in_err-cover.ensures.unchanged c.in_err-cover.ensures.longer)

pub returns-in_err-push-clause-keyed : goal.returns-in_err-push-clause-keyed
returns-in_err-push-clause-keyed c =
    rw c.in_err-push.ensures.items (all_keyed _ _ _ _ (IsIndexed-covered _ _ _ _ _ c.self.invariant c.in_ok-cover.ensures.unchanged c.in_ok-cover.ensures.longer))

pub returns-in_err-file_all-clause-keyed : goal.returns-in_err-file_all-clause-keyed
returns-in_err-file_all-clause-keyed c =
    let at : c.len-position.result ≡ length c.self.inside.entries.items = grind (arith, common_steps) in
    all_keyed _ _ _ _
    (staged _ _ _ _ _ _ _ _ _ _ c.self.invariant c.in_ok-cover.ensures.unchanged c.in_ok-cover.ensures.longer refl c.in_err-file_all.ensures.filed c.gone.ensures at c.in_ok-push.ensures.items)

pub returns-in_err-insert-clause-keyed : goal.returns-in_err-insert-clause-keyed
returns-in_err-insert-clause-keyed c =
    let at : c.len-position.result ≡ length c.self.inside.entries.items = grind (arith, common_steps) in
    all_keyed _ _ _ _
    (staged _ _ _ _ _ _ _ _ _ _ c.self.invariant c.in_ok-cover.ensures.unchanged c.in_ok-cover.ensures.longer refl c.in_ok-file_all.ensures.filed c.gone.ensures at c.in_ok-push.ensures.items)

pub returns-clause-keyed : goal.returns-clause-keyed
returns-clause-keyed c =
    let at : c.len-position.result ≡ length c.self.inside.entries.items = grind (arith, common_steps) in
    let absent : (pair : Pair) → Contains (live_pairs c.self.inside.entries.items) pair → pair.binding ≡ c.args.binding → ⊥ =
    subst (λ (v : PairList). (pair : Pair) → Contains v.list pair → pair.binding ≡ c.args.binding → ⊥) (sym c.self.view_is) c.requires
    in
    rw c.in_ok-entry.ensures
    (all_keyed _ _ _ _
    (added _ _ _ _ _ _ _ _ _ _ _ _ _ c.self.invariant c.gone.ensures c.in_ok-cover.ensures.unchanged c.in_ok-cover.ensures.longer refl c.in_ok-file_all.ensures.filed c.in_ok-file_all.ensures.present
    c.in_ok-cover.ensures.in_range at c.in_ok-push.ensures.items c.in_ok-insert.ensures.ok absent))

pub returns-in_err-entry-clause-keyed : goal.returns-in_err-entry-clause-keyed
returns-in_err-entry-clause-keyed c = subst IsKeyed c.self.view_is (all_keyed _ _ _ _ c.self.invariant)
