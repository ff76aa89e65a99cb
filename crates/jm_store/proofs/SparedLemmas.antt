-- Monitors that no death since the last pass cuts.
use Rattle.std.proofs.Common.{◌≡◌, ℕ, zero, suc, ◌<◌, ◌≤◌, ◌⊎◌, inl, inr, Bool, true, false, cond, List, [], ◌∷◌, ◌++◌, length, replicate, refl, sym, ap, ◌∙◌, subst, arith, length-append}
use Rattle.std.specs.Prelude.{Option, Some, None, Contains, ◌==◌}
use Rattle.std.specs.List.{list_any}
use Rattle.std.proofs.lemmas.Bool.{both_ways, cases_Bool, cases_eq, cases_lt, eqb-true, eq-eqb}
use Rattle.std.proofs.lemmas.List.{length-replicate, get_or_past}
use Rattle.std.proofs.lemmas.Option.{none-some, same_Some}
use Rattle.jm_model.specs.Bindings.{mask_of, empty}
use Rattle.jm_model.specs.Meanings.{Meaning}
use Rattle.jm_model.specs.declared.binding.Binding.{Binding}
use Rattle.jm_semantics.proofs.DecidingLists.{list_any-at, list_any-from}
use Rattle.jm_semantics.proofs.ListLemmas.{Contains-cons_cases, Contains-cons, Contains-head}
use Rattle.jm_marks.specs.Marks.{dead_mask_of}
use Rattle.jm_marks.proofs.DeadLemmas.{dead_mask-none}
use Rattle.jm_index.proofs.ReadLemmas.{Contains-none}
use Rattle.jm_index.specs.Index.{PairList, flag_of, IsFitting, HasDied, AreListed}
use Rattle.jm_monitors.specs.declared.stored.Stored.{Stored}
use Rattle.jm_monitors.specs.Steps.{IsCutState, IsAliveState, AreSpared}
use Rattle.jm_monitors.proofs.DeathLemmas.{cut_by_own_death-lem, object-placed}
use Rattle.jm_store.specs.declared.moves.Move.{Move}
use Rattle.jm_store.specs.Slots.{monitor_at, stored_in}
use Rattle.jm_store.specs.Moves.{after_moves, IsSwept, LieWithin}
use Rattle.jm_store.specs.Contents.{Contents, IsCutDown}
use Rattle.jm_store.proofs.SlotLemmas.{stored_at, place_of}
use Rattle.jm_store.proofs.AfterLemmas.{slot_is, moved_other, moved_here, length-after}

-- the monitors that stay after the moves aren't cut
abbrev pub StayAlive : Meaning → {S : Type 0} → (S → List ℕ → Type 0) → List Bool → List (Move S) → Type 0
StayAlive m {S} Stands dead moves =
    (move : Move S) → Contains moves move → move.stays ≡ true → IsAliveState m Stands move.monitor.state (dead_mask_of dead move.monitor.instance)

-- ---- what an index dropped
flag_none : (n o : ℕ) → flag_of (replicate n false) o ≡ false
flag_none zero o = refl
flag_none (suc n) zero = refl
flag_none (suc n) (suc o) = flag_none n o

flag_padded : (flags : List Bool) (n o : ℕ) → flag_of (flags ++ replicate n false) o ≡ flag_of flags o
flag_padded [] n o = flag_none n o
flag_padded (x ∷ flags) n zero = refl
flag_padded (x ∷ flags) n (suc o) = flag_padded flags n o

-- an index that fits whatever another fits dropped no other objects
padded_fits : (index : PairList) (dead : List Bool) → IsFitting index dead → IsFitting index (index.dropped ++ replicate (length dead) false)
padded_fits index dead fits = record {
  within = λ pair there o binds. let low = fits.within pair there o binds in omega (arith, low, length-append index.dropped (replicate (length dead) false), length-replicate {A = Bool} (length dead) false);
  reached = λ o gone. flag_padded index.dropped (length dead) o ∙ gone;
  keyed = fits.keyed;
}

padded_length : (index : PairList) (dead : List Bool) → length dead ≤ length (index.dropped ++ replicate (length dead) false)
padded_length index dead = omega (arith, length-append index.dropped (replicate (length dead) false), length-replicate {A = Bool} (length dead) false)

dropped_only : (old new : PairList) (dead : List Bool) → IsFitting new (old.dropped ++ replicate (length dead) false) → (o : ℕ) → flag_of new.dropped o ≡ true → flag_of old.dropped o ≡ true
dropped_only old new dead fits o gone = sym (flag_padded old.dropped (length dead) o) ∙ fits.reached o gone

pub opened_fewer : {S : Type 0} (old new : PairList) (dead : List Bool) (moves : List (Move S)) → IsFitting old dead → LieWithin (length dead) moves
    → ((flags : List Bool) → IsFitting old flags → LieWithin (length flags) moves → IsFitting new flags) → (o : ℕ) → flag_of new.dropped o ≡ true → flag_of old.dropped o ≡ true
opened_fewer old new dead moves fits within more =
    dropped_only old new dead
    (more (old.dropped ++ replicate (length dead) false) (padded_fits old dead fits)
    (λ move there o binds. let low = within move there o binds in omega (arith, low, padded_length old dead)))

module _ (m : Meaning) {S : Type 0} (Stands : S → List ℕ → Type 0) where
  -- the first monitor, which binds nothing
  pub spared_first : (dropped : List Bool) (stored : List (Stored S)) (s : Stored S) → stored ≡ s ∷ [] → s.instance ≡ empty → IsAliveState m Stands s.state 0 → AreSpared m Stands dropped stored
  spared_first dropped stored s one is alive r there =
      let same : s ≡ r = only (Contains-cons_cases s [] r (subst (λ (l : List (Stored S)). Contains l r) one there)) in
      let mask : dead_mask_of dropped s.instance ≡ 0 = dead_mask-none dropped s.instance (ap mask_of is) in
      subst (λ (x : Stored S). IsAliveState m Stands x.state (dead_mask_of dropped x.instance)) same (subst (IsAliveState m Stands s.state) (sym mask) alive)
    where
      only : {x y : Stored S} → (x ≡ y) ⊎ Contains {X = Stored S} [] y → x ≡ y
      only (inl same) = same
      only {x} {y} (inr none) = absurd (Contains-none y none)

  pub spared_none : (dropped : List Bool) (stored : List (Stored S)) → stored ≡ [] → AreSpared m Stands dropped stored
  spared_none dropped stored is s there = absurd (Contains-none s (subst (λ (l : List (Stored S)). Contains l s) is there))

  -- ---- fewer dead objects
  pub alive_fewer : (dead fewer : List Bool) (state : S) (t : Binding) → ((o : ℕ) → flag_of fewer o ≡ true → flag_of dead o ≡ true) → IsAliveState m Stands state (dead_mask_of dead t)
      → IsAliveState m Stands state (dead_mask_of fewer t)
  alive_fewer dead fewer state t within alive w stands cut =
      let (o, there, lives, gone) = cut_by_own_death-lem m w t dead fewer (alive w stands) cut in
      both_ways (flag_of dead o) lives (within o gone)

  pub spared_fewer : (dead fewer : List Bool) (stored : List (Stored S)) → ((o : ℕ) → flag_of fewer o ≡ true → flag_of dead o ≡ true) → AreSpared m Stands dead stored → AreSpared m Stands fewer stored
  spared_fewer dead fewer stored within spared s there = alive_fewer dead fewer s.state s.instance within (spared s there)

  -- ---- after the moves of a plan
  -- the monitor of a slot is that of a move that stays, or was there
  after_cases : (moves : List (Move S)) (monitors : List (Option (Stored S))) (k : ℕ) (s : Stored S) → monitor_at (after_moves moves monitors) k ≡ Some s
      → ((move : Move S) × Contains moves move × (move.stays ≡ true) × (move.monitor ≡ s)) ⊎ (monitor_at monitors k ≡ Some s)
  after_cases [] monitors k s at = inr at
  after_cases (x ∷ moves) monitors k s at =
      elim (slot_is x.slot k) [
        | inl here ↦ placed here (cases_lt k (length monitors))
        | inr other ↦ later (after_cases moves monitors k s (sym (moved_other x.slot (cond x.stays (Some x.monitor) None) (after_moves moves monitors) k other) ∙ at))
      ]
    where
      later : ((move : Move S) × Contains moves move × (move.stays ≡ true) × (move.monitor ≡ s)) ⊎ (monitor_at monitors k ≡ Some s)
          → ((move : Move S) × Contains (x ∷ moves) move × (move.stays ≡ true) × (move.monitor ≡ s)) ⊎ (monitor_at monitors k ≡ Some s)
      later (inl (move, there, stays, is)) = inl (move, Contains-cons x moves move there, stays, is)
      later (inr was) = inr was

      kept : (stays : Bool) → cond stays (Some x.monitor) None ≡ Some s → (stays ≡ true) × (x.monitor ≡ s)
      kept true e = (refl, same_Some x.monitor s e)
      kept false e = absurd (none-some s e)

      placed : x.slot ≡ Some k → (k < length monitors) ⊎ (length monitors ≤ k) → ((move : Move S) × Contains (x ∷ moves) move × (move.stays ≡ true) × (move.monitor ≡ s)) ⊎ (monitor_at monitors k ≡ Some s)
      placed here (inl low) =
          let within : k < length (after_moves moves monitors) = rw (length-after moves monitors) low in
          let one = kept x.stays (sym (moved_here x.slot (cond x.stays (Some x.monitor) None) (after_moves moves monitors) k here within) ∙ at) in
          inl (x, Contains-head x moves, one.0, one.1)
      placed here (inr past) = absurd (nothing (length-after (x ∷ moves) monitors))
        where
          nothing : length (after_moves (x ∷ moves) monitors) ≡ length monitors → ⊥
          nothing same = none-some s (sym (get_or_past (after_moves (x ∷ moves) monitors) k None (omega (arith, same, past))) ∙ at)

  pub spared_after : (dropped dead : List Bool) (moves : List (Move S)) (monitors : List (Option (Stored S))) → ((o : ℕ) → flag_of dropped o ≡ true → flag_of dead o ≡ true)
      → AreSpared m Stands dropped (stored_in monitors) → StayAlive m Stands dead moves → AreSpared m Stands dropped (stored_in (after_moves moves monitors))
  spared_after dropped dead moves monitors within spared stay s there =
      let (k, at) = place_of (after_moves moves monitors) s there in
      elim (after_cases moves monitors k s at) [
        | inl moved ↦
            subst (λ (r : Stored S). IsAliveState m Stands r.state (dead_mask_of dropped r.instance)) moved.3
            (alive_fewer dead dropped moved.0.monitor.state moved.0.monitor.instance within (stay moved.0 moved.1 moved.2))
        | inr was ↦ spared s (stored_at monitors k s was)
      ]

  -- ---- what a pass drops
  module _ (dead : List Bool) where
    swept_trans : (x y z : Option (Stored S)) → IsSwept m Stands dead x y → IsSwept m Stands dead y z → IsSwept m Stands dead x z
    swept_trans None y z first then' = subst (λ (v : Option (Stored S)). IsSwept m Stands dead v z) first then'
    swept_trans (Some s) None z first then' = subst (λ (v : Option (Stored S)). IsSwept m Stands dead (Some s) v) (sym then') first
    swept_trans (Some s) (Some t) None first then' = subst (λ (v : Stored S). IsCutState m Stands v.state (dead_mask_of dead v.instance)) first.0 then'
    swept_trans (Some s) (Some t) (Some u) first then' = (then'.0 ∙ first.0, first.1)

    pub down_start : (old : Contents S) → old.is_open ≡ false → IsCutDown m Stands dead old old
    down_start old closed = record { closed = closed; each = λ k. inl refl; size = refl; marks = refl; ending = refl; index = λ flags fits. fits }

    -- one slot more
    module _ (old mid new : Contents S) (slot : ℕ) (down : IsCutDown m Stands dead old mid) (others : (k : ℕ) → (k ≡ slot → ⊥) → monitor_at new.monitors k ≡ monitor_at mid.monitors k)
        (here : IsSwept m Stands dead (monitor_at mid.monitors slot) (monitor_at new.monitors slot)) where
      -- what was swept stays so
      pub swept_still : (k : ℕ) → IsSwept m Stands dead (monitor_at old.monitors k) (monitor_at mid.monitors k) → IsSwept m Stands dead (monitor_at old.monitors k) (monitor_at new.monitors k)
      swept_still k swept =
          elim (cases_eq k slot) [
            | inl same ↦ swept_trans (monitor_at old.monitors k) (monitor_at mid.monitors k) (monitor_at new.monitors k) swept
                (subst (λ (n : ℕ). IsSwept m Stands dead (monitor_at mid.monitors n) (monitor_at new.monitors n)) (sym same) here)
            | inr other ↦ subst (λ (v : Option (Stored S)). IsSwept m Stands dead (monitor_at old.monitors k) v) (sym (others k other)) swept
          ]

      pub swept_here : IsSwept m Stands dead (monitor_at old.monitors slot) (monitor_at new.monitors slot)
      swept_here =
          elim (down.each slot) [
            | inl same ↦ subst (λ (v : Option (Stored S)). IsSwept m Stands dead v (monitor_at new.monitors slot)) same here
            | inr swept ↦ swept_still slot swept
          ]

      each_more : (k : ℕ) → (monitor_at new.monitors k ≡ monitor_at old.monitors k) ⊎ IsSwept m Stands dead (monitor_at old.monitors k) (monitor_at new.monitors k)
      each_more k =
          elim (down.each k) [
            | inr swept ↦ inr (swept_still k swept)
            | inl same ↦ elim (cases_eq k slot) [
              | inl is ↦ inr (subst (λ (n : ℕ). IsSwept m Stands dead (monitor_at old.monitors n) (monitor_at new.monitors n)) (sym is) swept_here)
              | inr other ↦ inl (others k other ∙ same)
            ]
          ]

      pub down_more : new.is_open ≡ false → length new.monitors ≡ length mid.monitors → new.marks ≡ mid.marks → new.ending ≡ mid.ending
          → ((flags : List Bool) → IsFitting mid.index flags → IsFitting new.index flags) → IsCutDown m Stands dead old new
      down_more closed size marks ending index = record {
        closed = closed;
        each = each_more;
        size = size ∙ down.size;
        marks = marks ∙ down.marks;
        ending = ending ∙ down.ending;
        index = λ flags fits. index flags (down.index flags fits);
      }

    -- an alive monitor is swept where it stays
    alive_swept : (x : Option (Stored S)) → ((s : Stored S) → x ≡ Some s → IsAliveState m Stands s.state (dead_mask_of dead s.instance)) → IsSwept m Stands dead x x
    alive_swept None alive = refl
    alive_swept (Some s) alive = (refl, alive s refl)

    -- Where the monitors of instances with a newly dead object were swept, all were.
    pub all_swept : (old new : Contents S) (slots : List ℕ) → IsCutDown m Stands dead old new → AreSpared m Stands old.index.dropped (stored_in old.monitors)
        → ((k : ℕ) (s : Stored S) → monitor_at old.monitors k ≡ Some s → Contains old.index.list (record { binding = s.instance; slot = k }))
        → AreListed old.index (HasDied old.index dead) slots → ((k : ℕ) → Contains slots k → IsSwept m Stands dead (monitor_at old.monitors k) (monitor_at new.monitors k))
        → (k : ℕ) → IsSwept m Stands dead (monitor_at old.monitors k) (monitor_at new.monitors k)
    all_swept old new slots down spared paired listed there k =
        elim (cases_Bool (list_any (λ n. n == k) slots)) [
          | inl some ↦
              let (n, among, is) = list_any-from (λ n. n == k) slots some in
              there k (subst (Contains slots) (eqb-true n k is) among)
          | inr none ↦ elim (down.each k) [
            | inr swept ↦ swept
            | inl same ↦ subst (λ (v : Option (Stored S)). IsSwept m Stands dead (monitor_at old.monitors k) v) (sym same) (alive_swept (monitor_at old.monitors k) (alive none))
          ]
        ]
      where
        alive : list_any (λ n. n == k) slots ≡ false → (s : Stored S) → monitor_at old.monitors k ≡ Some s → IsAliveState m Stands s.state (dead_mask_of dead s.instance)
        alive none s at w stands cut =
            let (o, among, kept, gone) = cut_by_own_death-lem m w s.instance old.index.dropped dead (spared s (stored_at old.monitors k s at) w stands) cut in
            let within = listed (record { binding = s.instance; slot = k }) o (paired k s at) (object-placed s.instance o among) (gone, kept) in
            both_ways (list_any (λ n. n == k) slots) none (list_any-at (λ n. n == k) slots k within (eq-eqb k k refl))

    -- Where all slots were swept.
    pub swept_below : (old new : Contents S) (n : ℕ) → IsCutDown m Stands dead old new → length old.monitors ≤ n
        → ((k : ℕ) → k < n → IsSwept m Stands dead (monitor_at old.monitors k) (monitor_at new.monitors k))
        → (k : ℕ) → IsSwept m Stands dead (monitor_at old.monitors k) (monitor_at new.monitors k)
    swept_below old new n down size below k =
        elim (cases_lt k n) [
          | inl low ↦ below k low
          | inr past ↦
              let none : monitor_at old.monitors k ≡ None = get_or_past old.monitors k None (omega (arith, size, past)) in
              elim (down.each k) [
                | inr swept ↦ swept
                | inl same ↦ subst (λ (v : Option (Stored S)). IsSwept m Stands dead (monitor_at old.monitors k) v) (sym same)
                    (alive_swept (monitor_at old.monitors k) (λ s at. absurd (none-some s (sym none ∙ at))))
              ]
        ]
