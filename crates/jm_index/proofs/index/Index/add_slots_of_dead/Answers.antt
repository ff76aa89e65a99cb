use Rattle.std.proofs.Common.{◌≡◌, ℕ, ◌/◌, ◌<◌, ◌∙◌, inl, inr, arith}
use Rattle.std.proofs.lemmas.Bool.{both_ways}
use Rattle.jm_index.specs.Index.{HasDied}
use Rattle.jm_index.proofs.ListedLemmas.{listed_either, below_or_last, flag_within}
use Rattle.jm_index.proofs.index.Index.add_slots_of_dead.Goals.{then-not-has_dropped_block+in_ok-add_slots_of_dead_in, else-not-has_dropped_block}
use Rattle.jm_index.proofs.index.Index.add_slots_of_dead.Goals as goal

pub loop-block-preserved : goal.loop-block-preserved
loop-block-preserved c =
    let HasNew : ℕ → Type 0 = λ o. HasDied c.args.self.now c.args.objects.now o in
    elim c.if-not-has_dropped_block.branch [
      | then-not-has_dropped_block+in_ok-add_slots_of_dead_in w ↦
          let added = w.in_ok-add_slots_of_dead_in.ensures in
          rw w.slots-is
          (record {
            all =
                listed_either c.args.self.now (λ o. (o / 4096 < c.loop-block.block) × HasNew o) (λ o. (o / 4096 ≡ c.loop-block.block) × HasNew o) _ _ _ c.loop-block.invariant.all added.kept added.all
                (λ o (low, died). elim (below_or_last _ _ low) [ inl below ↦ inl (below, died) | inr last ↦ inr (last, died) ]);
            room = added.room ∙ c.loop-block.invariant.room;
          })
      | else-not-has_dropped_block w ↦
          rw w.slots-is
          (record {
            all = λ pair o there binds (low, died). elim (below_or_last _ _ low) [
              | inl below ↦ c.loop-block.invariant.all pair o there binds (below, died)
              | inr last ↦ absurd (both_ways _ died.1 (c.has_dropped_block.ensures.pairs w.if-not-has_dropped_block.false pair o there binds last died.0))
            ];
            room = c.loop-block.invariant.room;
          })
    ]

pub returns-clause-listed : goal.returns-clause-listed
returns-clause-listed c = λ pair o there binds died.
    let within = flag_within c.args.objects.now o died.0 in
    c.loop-block.invariant.all pair o there binds (omega (arith, within, c.len.ensures, c.div_ceil-block-end.ensures, c.loop-block-test.false), died)
