use Rattle.std.proofs.Common.{◌≡◌, ℕ, ◌+◌, ◌≤◌, inl, inr, length, subst, ◌∙◌, arith}
use Rattle.std.specs.Prelude.{Contains}
use Rattle.std.proofs.lemmas.Bool.{cases_lt}
use Rattle.jm_index.specs.Layout.{posting_at}
use Rattle.jm_index.proofs.ListedLemmas.{listed_all}
use Rattle.jm_index.proofs.index.Index.add_slots_of.Goals as goal

pub loop-tree-preserved : goal.loop-tree-preserved
loop-tree-preserved c =
    let inv = c.loop-tree.invariant in
    let added = c.in_ok-add_live_slots.ensures in
    record {
      kept = λ k there. added.kept k (inv.kept k there);
      all = λ m k pair low there at. elim (cases_lt m c.loop-tree.tree) [
        | inl below ↦ added.kept pair.slot (inv.all m k pair below there at)
        | inr past ↦
            let same : m ≡ c.loop-tree.tree = omega (arith, past, low) in
            added.all k pair (subst (λ (n : ℕ). Contains (posting_at c.self.inside.trees n (c.args.object + 1)) k) same there) at
      ];
      room = added.room ∙ inv.room;
    }

pub returns-clause-all : goal.returns-clause-all
returns-clause-all c =
    let end : length c.self.inside.trees ≤ c.loop-tree.tree = omega (arith, c.len-tree-end.ensures) in
    rw (← c.self.view_is) (listed_all _ _ _ _ _ c.loop-tree.tree _ _ c.self.invariant end c.as_slice-entries.ensures.value c.loop-tree.invariant.all)
