-- What the moves of an event come to.
use Rattle.std.proofs.Common.{◌≡◌, ◌≢◌, ℕ, ◌⊎◌, inl, inr, Bool, true, false, List, refl, sym, ◌∙◌, subst}
use Rattle.std.specs.Prelude.{Option, Some, None, Contains, AllPairs}
use Rattle.std.proofs.lemmas.Bool.{both_ways}
use Rattle.jm_model.specs.Bindings.{is_below, is_compatible, join, mask_of}
use Rattle.jm_model.specs.Meanings.{Meaning}
use Rattle.jm_model.specs.declared.binding.Binding.{Binding}
use Rattle.jm_semantics.proofs.ListLemmas.{Contains-map}
use Rattle.jm_semantics.proofs.BindingLemmas.{below-refl, below-antisym, below-join_left, below-compatible, join-below}
use Rattle.jm_marks.specs.Marks.{dead_mask_of}
use Rattle.jm_monitors.specs.declared.stored.Stored.{Stored}
use Rattle.jm_monitors.specs.Stores.{HasInstance}
use Rattle.jm_monitors.specs.Steps.{IsBase, IsReached, IsOverAfter, AreReached}
use Rattle.jm_store.specs.declared.moves.Move.{Move}
use Rattle.jm_store.specs.Slots.{monitor_at, stored_in}
use Rattle.jm_store.specs.Moves.{IsMoved, IsOutcome, IsOutcomeIn, IsOutcomeAt, AreMovesOf, reached_by}
use Rattle.jm_store.proofs.SlotLemmas.{stored_at, place_of}
use Rattle.jm_store.proofs.GivenLemmas.{given_each, given_all, given_pairs, pairs_map, Contains-from_map}

-- a monitor that the binding lies below is its own join
pub join_above : (b t : Binding) → is_compatible t b ≡ true → is_below b t ≡ true → join t b ≡ t
join_above b t compatible below = below-antisym (join t b) t (join-below t b t (below-refl t) below) (below-join_left t b compatible)

pub compatible_above : (b t : Binding) → is_below b t ≡ true → is_compatible t b ≡ true
compatible_above b t below = below-compatible t b t (below-refl t) below

module _ (m : Meaning) {S : Type 0} (Stands : S → List ℕ → Type 0) (letter : ℕ) (b : Binding) (dead : List Bool) (marks : List Binding) (monitors : List (Option (Stored S))) where
  -- what a slot that is read gives is of its monitor
  outcome_of : (k : ℕ) (s : Stored S) (o : Option (Move S)) → monitor_at monitors k ≡ Some s → IsOutcomeAt m Stands letter b dead marks monitors k o → IsOutcome m Stands letter b dead marks k s o
  outcome_of k s o at is = subst (λ (x : Option (Stored S)). IsOutcomeIn m Stands letter b dead marks k x o) at is

  -- the monitor from which a move is made
  pub record HasBase (k : ℕ) (move : Move S) : Type 0 where
    pub base : Stored S
    pub at : monitor_at monitors k ≡ Some base
    pub moved : IsMoved m Stands letter b dead marks k base move

  pub base_of : (k : ℕ) (move : Move S) → IsOutcomeAt m Stands letter b dead marks monitors k (Some move) → HasBase k move
  base_of k move is = split (monitor_at monitors k) refl is
    where
      split : (x : Option (Stored S)) → monitor_at monitors k ≡ x → IsOutcomeIn m Stands letter b dead marks k x (Some move) → HasBase k move
      split None at none = cc
      split (Some s) at moved = record { base = s; at = at; moved = moved }

  module _ (asks : ℕ → Bool) (moves : List (Move S)) (all : AreMovesOf m Stands letter b dead marks asks monitors moves) where
    pub move_base : (move : Move S) → Contains moves move → (k : ℕ) × Contains all.slots k × HasBase k move
    move_base move there =
        let (k, among, is) = given_each (IsOutcomeAt m Stands letter b dead marks monitors) all.slots moves move all.given there in
        (k, among, base_of k move is)

    reached_of : (move : Move S) → Contains moves move → IsReached Stands letter b (stored_in monitors) marks move.monitor
    reached_of move there =
        let (k, among, has) = move_base move there in
        record {
          base = has.base;
          stored_base = stored_at monitors k has.base has.at;
          is_base = has.moved.is_base;
          joined = has.moved.advanced.instance;
          next = has.moved.advanced.next;
        }

    -- each monitor that the event reaches is asked for, or the event ends it
    module _ (may : (s : Stored S) → Contains (stored_in monitors) s → IsBase b marks s → (asks (mask_of s.instance) ≡ true) ⊎ ((is_below b s.instance ≡ false) × IsOverAfter m Stands letter s.state (dead_mask_of dead (join s.instance b)))) where
      -- what becomes of a monitor that the event reaches
      pub becomes : (k : ℕ) (s : Stored S) → monitor_at monitors k ≡ Some s → IsBase b marks s
          → ((move : Move S) × Contains moves move × IsMoved m Stands letter b dead marks k s move)
          ⊎ ((is_below b s.instance ≡ false) × IsOverAfter m Stands letter s.state (dead_mask_of dead (join s.instance b)))
      becomes k s at base =
          elim (may s (stored_at monitors k s at) base) [
            | inl asked ↦
                let (o, is, among) = given_all (IsOutcomeAt m Stands letter b dead marks monitors) all.slots moves k all.given (all.visit.all k s at base.0 asked) in
                split o (outcome_of k s o at is) among
            | inr over ↦ inr over
          ]
        where
          split : (o : Option (Move S)) → IsOutcome m Stands letter b dead marks k s o → ((y : Move S) → o ≡ Some y → Contains moves y)
              → ((move : Move S) × Contains moves move × IsMoved m Stands letter b dead marks k s move)
              ⊎ ((is_below b s.instance ≡ false) × IsOverAfter m Stands letter s.state (dead_mask_of dead (join s.instance b)))
          split None left among = elim left [ inl none ↦ absurd (none base) | inr lost ↦ inr lost ]
          split (Some move) moved among = inl (move, among move refl, moved)

      -- distinct instances, where each is made of one base
      pub distinct_moves : ((r s : Stored S) → Contains (stored_in monitors) r → Contains (stored_in monitors) s → IsBase b marks r → IsBase b marks s → join r.instance b ≡ join s.instance b
          → r.instance ≡ s.instance)
          → ((j k : ℕ) (r s : Stored S) → monitor_at monitors j ≡ Some r → monitor_at monitors k ≡ Some s → r.instance ≡ s.instance → j ≡ k)
          → AllPairs (λ x y. x.monitor.instance ≢ y.monitor.instance) moves
      distinct_moves one housed =
          given_pairs (IsOutcomeAt m Stands letter b dead marks monitors) (λ j k. j ≢ k) (λ x y. x.monitor.instance ≢ y.monitor.instance) all.slots moves all.given all.visit.apart
          (λ j k x y apart mine other same.
          let p = base_of j x mine in
          let q = base_of k y other in
          let joined = sym p.moved.advanced.instance ∙ same ∙ q.moved.advanced.instance in
          apart (housed j k p.base q.base p.at q.at
          (one p.base q.base (stored_at monitors j p.base p.at) (stored_at monitors k q.base q.at) p.moved.is_base q.moved.is_base joined)))

      -- the reached monitors, where each instance is made of one base
      pub are_reached : ((r s : Stored S) → Contains (stored_in monitors) r → Contains (stored_in monitors) s → IsBase b marks r → IsBase b marks s → join r.instance b ≡ join s.instance b
          → r.instance ≡ s.instance)
          → ((j k : ℕ) (r s : Stored S) → monitor_at monitors j ≡ Some r → monitor_at monitors k ≡ Some s → r.instance ≡ s.instance → j ≡ k)
          → AreReached m Stands letter b dead (stored_in monitors) marks (reached_by moves)
      are_reached one housed = record {
        distinct = pairs_map (λ r s. r.instance ≢ s.instance) (λ (move : Move S). move.monitor) moves
            (given_pairs (IsOutcomeAt m Stands letter b dead marks monitors) (λ j k. j ≢ k) (λ x y. x.monitor.instance ≢ y.monitor.instance) all.slots moves all.given all.visit.apart
            (λ j k x y apart mine other same.
            let p = base_of j x mine in
            let q = base_of k y other in
            let joined = sym p.moved.advanced.instance ∙ same ∙ q.moved.advanced.instance in
            apart (housed j k p.base q.base p.at q.at
            (one p.base q.base (stored_at monitors j p.base p.at) (stored_at monitors k q.base q.at) p.moved.is_base q.moved.is_base joined))));
        each = λ r there.
            let (move, among, is) = Contains-from_map (λ (x : Move S). x.monitor) moves r there in
            subst (IsReached Stands letter b (stored_in monitors) marks) is (reached_of move among);
        moved = λ s there below.
            let (k, at) = place_of monitors s there in
            above s below k at there;
        made = λ s there apart base.
            let (k, at) = place_of monitors s there in
            elim (becomes k s at base) [
              | inl got ↦ inl (got.0.monitor, Contains-map (λ (x : Move S). x.monitor) moves got.0 got.1, got.2.advanced.instance)
              | inr lost ↦ inr lost.1
            ];
      }
        where
          above : (s : Stored S) → is_below b s.instance ≡ true → (k : ℕ) → monitor_at monitors k ≡ Some s → Contains (stored_in monitors) s → HasInstance (reached_by moves) s.instance
          above s below k at there =
              let compatible = compatible_above b s.instance below in
              elim (becomes k s at (compatible, inl below)) [
                | inl got ↦
                    (got.0.monitor, Contains-map (λ (x : Move S). x.monitor) moves got.0 got.1, got.2.advanced.instance ∙ join_above b s.instance compatible below)
                | inr lost ↦ absurd (both_ways (is_below b s.instance) lost.0 below)
              ]
