use Rattle.std.proofs.Common.{◌≡◌, ℕ, Some, List, sym, subst, rules}
use Rattle.std.specs.Prelude.{Contains, OnOk}
use Rattle.jm_index.specs.Index.{Pair}
use Rattle.jm_index.specs.Layout.{posting_at, pair_at}
use Rattle.jm_index.proofs.trees.Trees.add_live_slots.Goals as goal

pub returns-in-Some-one-clause-all : goal.returns-in-Some-one-clause-all
returns-in-Some-one-clause-all c =
    let is : posting_at c.args.self.now c.args.tree c.args.path ≡ c.from_ref.result.now = search rules in
    subst (λ (v : List ℕ). OnOk c.add_live_slots.result ((k : ℕ) (pair : Pair) → Contains v k → pair_at c.args.entries.now k ≡ Some pair → Contains c.add_live_slots.new.slots.items pair.slot)) (sym is)
    c.add_live_slots.ensures.all

pub returns-in-None-clause-all : goal.returns-in-None-clause-all
returns-in-None-clause-all c =
    let is : posting_at c.args.self.now c.args.tree c.args.path ≡ c.many.result.now = search rules in
    subst (λ (v : List ℕ). OnOk c.add_live_slots-in-None.result ((k : ℕ) (pair : Pair) → Contains v k → pair_at c.args.entries.now k ≡ Some pair → Contains c.add_live_slots-in-None.new.slots.items pair.slot)) (sym is)
    c.add_live_slots-in-None.ensures.all
