use Rattle.std.proofs.Common.{◌≡◌, ℕ, Some, List, inl, inr, sym, subst, ◌∙◌}
use Rattle.std.specs.Prelude.{Contains}
use Rattle.jm_index.specs.Layout.{pair_at}
use Rattle.jm_index.proofs.ListedLemmas.{taken_cases, take_whole}
use Rattle.jm_index.proofs.entry.add_live_slots.Goals as goal

pub loop-position-preserved : goal.loop-position-preserved
loop-position-preserved c =
    let inv = c.loop-position.invariant in
    let added = c.in_ok-add_live_slot.ensures in
    record {
      kept = λ k there. added.kept k (inv.kept k there);
      all = λ k pair there at. elim (taken_cases c.args.positions.now c.loop-position.position-index k c.loop-position-test.true there) [
        | inl before ↦ added.kept pair.slot (inv.all k pair before at)
        | inr here ↦ added.at_key pair (subst (λ (n : ℕ). pair_at c.args.entries.now n ≡ Some pair) (sym here) at)
      ];
      room = added.room ∙ inv.room;
    }

pub returns-clause-all : goal.returns-clause-all
returns-clause-all c = λ k pair there at.
    let whole = take_whole c.args.positions.now c.loop-position.position-index c.loop-position-test.false in
    c.loop-position.invariant.all k pair (subst (λ (v : List ℕ). Contains v k) (sym whole) there) at
