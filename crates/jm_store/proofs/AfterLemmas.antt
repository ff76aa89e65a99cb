-- What the moves of a plan leave in the slots.
use Rattle.std.proofs.Common.{◌≡◌, ◌≢◌, ℕ, suc, ◌<◌, ◌⊎◌, inl, inr, Bool, true, false, cond, List, [], ◌∷◌, length, refl, sym, ap, ◌∙◌, subst, arith}
use Rattle.std.specs.Prelude.{Option, Some, None, Contains, AllPairs}
use Rattle.std.specs.List.{cons_option}
use Rattle.std.proofs.Math.ListN.{length-set}
use Rattle.std.proofs.lemmas.Bool.{both_ways, cases_Bool, cases_eq}
use Rattle.std.proofs.lemmas.Option.{same_Some, none-some}
use Rattle.std.proofs.lemmas.List.{get_or-set_same, get_or-set_other}
use Rattle.jm_model.specs.Bindings.{is_below}
use Rattle.jm_model.specs.Meanings.{Meaning}
use Rattle.jm_model.specs.declared.binding.Binding.{Binding}
use Rattle.jm_semantics.proofs.ListLemmas.{Contains-cons_cases, Contains-map, Contains-head}
use Rattle.jm_index.proofs.ReadLemmas.{Contains-none, Contains-cons}
use Rattle.jm_marks.specs.Marks.{dead_mask_of}
use Rattle.jm_monitors.specs.declared.stored.Stored.{Stored}
use Rattle.jm_monitors.specs.Steps.{IsAfterEvent, IsCutState, IsAliveState}
use Rattle.jm_store.specs.declared.moves.Move.{Move}
use Rattle.jm_store.specs.Slots.{monitor_at, stored_in}
use Rattle.jm_store.specs.Moves.{moved_at, after_moves, reached_by, AreApart}
use Rattle.jm_store.proofs.SlotLemmas.{stored_at, place_of}
use Rattle.jm_store.proofs.GivenLemmas.{pairs_head, pairs_tail, pairs_cons, pairs_none, Contains-from_map}

pub slot_is : (o : Option ℕ) (k : ℕ) → (o ≡ Some k) ⊎ (o ≡ Some k → ⊥)
slot_is None k = inr (λ e. none-some k e)
slot_is (Some j) k = elim (cases_eq j k) [ inl same ↦ inl (ap (λ (n : ℕ). Some n) same) | inr other ↦ inr (λ e. other (same_Some j k e)) ]

module _ {S : Type 0} where
  -- no instance stands in two slots
  abbrev pub AreSingle : List (Option (Stored S)) → Type 0
  AreSingle monitors = (j k : ℕ) (r s : Stored S) → monitor_at monitors j ≡ Some r → monitor_at monitors k ≡ Some s → r.instance ≡ s.instance → j ≡ k

  pub single_stored : (monitors : List (Option (Stored S))) → AreSingle monitors → AllPairs (λ r s. r.instance ≢ s.instance) (stored_in monitors)
  single_stored [] h = pairs_none (λ r s. r.instance ≢ s.instance)
  single_stored (x ∷ monitors) h =
      at x refl (single_stored monitors (λ j k r s is at same. suc_same j k (h (suc j) (suc k) r s is at same)))
    where
      suc_same : (j k : ℕ) → suc j ≡ suc k → j ≡ k
      suc_same j k e = omega (arith, e)

      at : (o : Option (Stored S)) → x ≡ o → AllPairs (λ r s. r.instance ≢ s.instance) (stored_in monitors) → AllPairs (λ r s. r.instance ≢ s.instance) (cons_option o (stored_in monitors))
      at None is rest = rest
      at (Some r) is rest =
          pairs_cons (λ r s. r.instance ≢ s.instance) r (stored_in monitors)
          (λ s there same. let (k, place) = place_of monitors s there in let no : 0 ≡ suc k = h 0 (suc k) r s is place same in omega (arith, no)) rest

  -- ---- the slots after the moves
  length-moved : (slot : Option ℕ) (next : Option (Stored S)) (monitors : List (Option (Stored S))) → length (moved_at slot next monitors) ≡ length monitors
  length-moved None next monitors = refl
  length-moved (Some k) next monitors = length-set monitors k next

  pub length-after : (moves : List (Move S)) (monitors : List (Option (Stored S))) → length (after_moves moves monitors) ≡ length monitors
  length-after [] monitors = refl
  length-after (x ∷ moves) monitors = length-moved x.slot (cond x.stays (Some x.monitor) None) (after_moves moves monitors) ∙ length-after moves monitors

  pub moved_other : (slot : Option ℕ) (next : Option (Stored S)) (monitors : List (Option (Stored S))) (k : ℕ) → (slot ≡ Some k → ⊥) → monitor_at (moved_at slot next monitors) k ≡ monitor_at monitors k
  moved_other None next monitors k other = refl
  moved_other (Some j) next monitors k other = get_or-set_other monitors j k next None (λ same. other (ap (λ (n : ℕ). Some n) (sym same)))

  pub moved_here : (slot : Option ℕ) (next : Option (Stored S)) (monitors : List (Option (Stored S))) (k : ℕ) → slot ≡ Some k → k < length monitors → monitor_at (moved_at slot next monitors) k ≡ next
  moved_here slot next monitors k is lt = rw is (get_or-set_same monitors k next None lt)

  pub after_hit : (moves : List (Move S)) (monitors : List (Option (Stored S))) (move : Move S) (k : ℕ) → AreApart moves → Contains moves move → move.slot ≡ Some k → k < length monitors
      → monitor_at (after_moves moves monitors) k ≡ cond move.stays (Some move.monitor) None
  after_hit [] monitors move k apart there slot lt = absurd (Contains-none move there)
  after_hit (x ∷ moves) monitors move k apart there slot lt =
      elim (Contains-cons_cases x moves move there) [
        | inl same ↦
            let within : k < length (after_moves moves monitors) = rw (length-after moves monitors) lt in
            moved_here x.slot (cond x.stays (Some x.monitor) None) (after_moves moves monitors) k (ap (λ (y : Move S). y.slot) same ∙ slot) within
            ∙ ap (λ (y : Move S). cond y.stays (Some y.monitor) None) same
        | inr later ↦
            moved_other x.slot (cond x.stays (Some x.monitor) None) (after_moves moves monitors) k
            (λ first. pairs_head (λ y z. (n : ℕ) → y.slot ≡ Some n → z.slot ≡ Some n → ⊥) x moves apart move later k first slot)
            ∙ after_hit moves monitors move k (pairs_tail (λ y z. (n : ℕ) → y.slot ≡ Some n → z.slot ≡ Some n → ⊥) x moves apart) later slot lt
      ]

  pub after_miss : (moves : List (Move S)) (monitors : List (Option (Stored S))) (k : ℕ) → ((move : Move S) → Contains moves move → move.slot ≡ Some k → ⊥)
      → monitor_at (after_moves moves monitors) k ≡ monitor_at monitors k
  after_miss [] monitors k none = refl
  after_miss (x ∷ moves) monitors k none =
      moved_other x.slot (cond x.stays (Some x.monitor) None) (after_moves moves monitors) k (none x (Contains-head x moves))
      ∙ after_miss moves monitors k (λ move there. none move (Contains-cons x move moves there))

  -- a slot is that of a move, or of none
  pub hit_or_miss : (moves : List (Move S)) (k : ℕ) → ((move : Move S) × Contains moves move × (move.slot ≡ Some k)) ⊎ ((move : Move S) → Contains moves move → move.slot ≡ Some k → ⊥)
  hit_or_miss [] k = inr (λ move there slot. Contains-none move there)
  hit_or_miss (x ∷ moves) k =
      elim (slot_is x.slot k) [
        | inl here ↦ inl (x, Contains-head x moves, here)
        | inr other ↦ elim (hit_or_miss moves k) [
          | inl later ↦ inl (later.0, Contains-cons x later.0 moves later.1, later.2)
          | inr none ↦ inr (λ move there slot. elim (Contains-cons_cases x moves move there) [ inl same ↦ other (ap (λ (y : Move S). y.slot) same ∙ slot) | inr later ↦ none move later slot ])
        ]
      ]

-- The moves are those of an event, and each has a slot: that of the monitor that moves, or of none.
pub record AreSlotted (m : Meaning) {S : Type 0} (Stands : S → List ℕ → Type 0) (b : Binding) (dead : List Bool) (monitors : List (Option (Stored S))) (moves : List (Move S)) : Type 0 where
  pub apart : AreApart moves
  pub slot : (move : Move S) → Contains moves move → (k : ℕ) × (move.slot ≡ Some k) × (k < length monitors) × ((s : Stored S) → monitor_at monitors k ≡ Some s → is_below b s.instance ≡ true)
  pub above : (k : ℕ) (s : Stored S) → monitor_at monitors k ≡ Some s → is_below b s.instance ≡ true → (move : Move S) × Contains moves move × (move.slot ≡ Some k)
  pub below : (move : Move S) → Contains moves move → is_below b move.monitor.instance ≡ true
  pub alive : (move : Move S) → Contains moves move → move.stays ≡ true → IsAliveState m Stands move.monitor.state (dead_mask_of dead move.monitor.instance)
  pub cut : (move : Move S) → Contains moves move → move.stays ≡ false → IsCutState m Stands move.monitor.state (dead_mask_of dead move.monitor.instance)
  pub single : (x y : Move S) (j k : ℕ) → Contains moves x → Contains moves y → x.slot ≡ Some j → y.slot ≡ Some k → x.monitor.instance ≡ y.monitor.instance → j ≡ k

module _ (m : Meaning) {S : Type 0} (Stands : S → List ℕ → Type 0) (b : Binding) (dead : List Bool) (monitors : List (Option (Stored S))) (moves : List (Move S)) (h : AreSlotted m Stands b dead monitors moves) (old : AreSingle monitors) where
  -- what is in a slot afterwards
  pub record IsMovedThere (k : ℕ) (s : Stored S) : Type 0 where
    pub move : Move S
    pub among : Contains moves move
    pub slot : move.slot ≡ Some k
    pub monitor : move.monitor ≡ s
    pub stays : move.stays ≡ true

  stays_if : (t : Bool) (r s : Stored S) → cond t (Some r) None ≡ Some s → (t ≡ true) × (r ≡ s)
  stays_if true r s e = (refl, cc)
  stays_if false r s e = cc

  pub in_after : (k : ℕ) (s : Stored S) → monitor_at (after_moves moves monitors) k ≡ Some s → IsMovedThere k s ⊎ ((monitor_at monitors k ≡ Some s) × (is_below b s.instance ≡ false))
  in_after k s at =
      elim (hit_or_miss moves k) [
        | inl hit ↦
            let (j, slot, lt, were) = h.slot hit.0 hit.1 in
            let same : j ≡ k = same_Some j k (sym slot ∙ hit.2) in
            let is = after_hit moves monitors hit.0 k h.apart hit.1 hit.2 (subst (λ (n : ℕ). n < length monitors) same lt) in
            let both = stays_if hit.0.stays hit.0.monitor s (sym is ∙ at) in
            inl (record { move = hit.0; among = hit.1; slot = hit.2; monitor = both.1; stays = both.0 })
        | inr miss ↦
            let is = sym (after_miss moves monitors k miss) ∙ at in
            inr (is, apart_of (cases_Bool (is_below b s.instance)) is miss)
      ]
    where
      apart_of : (is_below b s.instance ≡ true) ⊎ (is_below b s.instance ≡ false) → monitor_at monitors k ≡ Some s → ((move : Move S) → Contains moves move → move.slot ≡ Some k → ⊥) → is_below b s.instance ≡ false
      apart_of (inr is) at' miss = is
      apart_of (inl is) at' miss = let (move, among, slot) = h.above k s at' is in absurd (miss move among slot)

  moved_below : (k : ℕ) (s : Stored S) → IsMovedThere k s → is_below b s.instance ≡ true
  moved_below k s there = subst (λ (x : Stored S). is_below b x.instance ≡ true) there.monitor (h.below there.move there.among)

  pub single_after : AreSingle (after_moves moves monitors)
  single_after j k r s at is same =
      elim (in_after j r at) [
        | inl one ↦ elim (in_after k s is) [
          | inl other ↦ h.single one.move other.move j k one.among other.among one.slot other.slot (ap (λ (x : Stored S). x.instance) one.monitor ∙ same ∙ ap (λ (x : Stored S). x.instance) (sym other.monitor))
          | inr kept ↦ absurd (both_ways (is_below b s.instance) kept.1 (subst (λ (t : Binding). is_below b t ≡ true) same (moved_below j r one)))
        ]
        | inr kept ↦ elim (in_after k s is) [
          | inl other ↦ absurd (both_ways (is_below b r.instance) kept.1 (subst (λ (t : Binding). is_below b t ≡ true) (sym same) (moved_below k s other)))
          | inr also ↦ old j k r s kept.0 also.0 same
        ]
      ]

  pub after_event : IsAfterEvent m Stands b dead (stored_in monitors) (reached_by moves) (stored_in (after_moves moves monitors))
  after_event = record {
    distinct = single_stored (after_moves moves monitors) single_after;
    each = λ s there.
        let (k, at) = place_of (after_moves moves monitors) s there in
        elim (in_after k s at) [
          | inl moved ↦
              inl (subst (λ (x : Stored S). Contains (reached_by moves) x × IsAliveState m Stands x.state (dead_mask_of dead x.instance)) moved.monitor
              (Contains-map (λ (x : Move S). x.monitor) moves moved.move moved.among, h.alive moved.move moved.among moved.stays))
          | inr kept ↦ inr (stored_at monitors k s kept.0, kept.1)
        ];
    reached_stay = λ r there.
        let (move, among, is) = Contains-from_map (λ (x : Move S). x.monitor) moves r there in
        let (k, slot, lt, were) = h.slot move among in
        subst (λ (x : Stored S). Contains (stored_in (after_moves moves monitors)) x ⊎ IsCutState m Stands x.state (dead_mask_of dead x.instance)) is
        (stay move (cases_Bool move.stays) among k slot lt);
    others_stay = λ s there apart.
        let (k, at) = place_of monitors s there in
        stored_at (after_moves moves monitors) k s
        (after_miss moves monitors k
        (λ move among slot.
        let (j, slot', lt, were) = h.slot move among in
        let same : j ≡ k = same_Some j k (sym slot' ∙ slot) in
        both_ways (is_below b s.instance) apart (were s (ap (monitor_at monitors) same ∙ at)))
        ∙ at);
  }
    where
      stay : (move : Move S) → (move.stays ≡ true) ⊎ (move.stays ≡ false) → Contains moves move → (k : ℕ) → move.slot ≡ Some k → k < length monitors
          → Contains (stored_in (after_moves moves monitors)) move.monitor ⊎ IsCutState m Stands move.monitor.state (dead_mask_of dead move.monitor.instance)
      stay move (inl is) among k slot lt =
          inl (stored_at (after_moves moves monitors) k move.monitor (after_hit moves monitors move k h.apart among slot lt ∙ ap (λ (t : Bool). cond t (Some move.monitor) None) is))
      stay move (inr is) among k slot lt = inr (h.cut move among is)
