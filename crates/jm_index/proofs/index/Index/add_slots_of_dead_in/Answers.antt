use Rattle.std.proofs.Common.{◌≡◌, ℕ, ◌*◌, ◌/◌, ◌<◌, ◌≤◌, ◌∙◌, inl, inr, arith}
use Rattle.std.proofs.lemmas.Bool.{both_ways}
use Rattle.jm_index.specs.Index.{HasDied}
use Rattle.jm_index.proofs.ListedLemmas.{listed_either, below_or_last, flag_within}
use Rattle.jm_index.proofs.index.Index.add_slots_of_dead_in.Goals.{then-not-has_dropped+in_ok-add_slots_of_dead_at, else-not-has_dropped}
use Rattle.jm_index.proofs.index.Index.add_slots_of_dead_in.Goals as goal

pub loop-index-preserved : goal.loop-index-preserved
loop-index-preserved c =
    let inv = c.loop-index.invariant in
    let HasNew : ℕ → Type 0 = λ o. HasDied c.args.self.now c.args.objects.now o in
    elim c.if-not-has_dropped.branch [
      | then-not-has_dropped+in_ok-add_slots_of_dead_at w ↦
          let added = w.in_ok-add_slots_of_dead_at.ensures in
          rw w.slots-is
          (record {
            kept = λ k there. added.kept k (inv.kept k there);
            all =
                listed_either c.args.self.now (λ o. (64 * c.args.block ≤ o / 64) × (o / 64 < c.loop-index.index) × HasNew o) (λ o. (o / 64 ≡ c.loop-index.index) × HasNew o) _ _ _ inv.all added.kept added.all
                (λ o (low, high, died). elim (below_or_last _ _ high) [ inl below ↦ inl (low, below, died) | inr last ↦ inr (last, died) ]);
            room = added.room ∙ inv.room;
          })
      | else-not-has_dropped w ↦
          rw w.slots-is
          (record {
            kept = inv.kept;
            all = λ pair o there binds (low, high, died). elim (below_or_last _ _ high) [
              | inl below ↦ inv.all pair o there binds (low, below, died)
              | inr last ↦ absurd (both_ways _ died.1 (c.has_dropped.ensures.pairs w.if-not-has_dropped.false pair o there binds last died.0))
            ];
            room = inv.room;
          })
    ]

pub returns-clause-all : goal.returns-clause-all
returns-clause-all c = λ pair o there binds (at, died).
    let within = flag_within c.args.objects.now o died.0 in
    c.loop-index.invariant.all pair o there binds
    (omega (arith, at), omega (arith, at, within, c.min-index-end.ensures, c.saturating_add.ensures, c.div_ceil-len.ensures, c.len.ensures, c.loop-index-test.false), died)
