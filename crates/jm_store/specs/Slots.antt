-- The slots of the container, and the monitors in them.
use Rattle.std.specs.Prelude.{ℕ, ◌≡◌, List, Option, Some, None, map, filter_map, slice_index_or}
use Rattle.jm_monitors.specs.declared.stored.Stored.{Stored}
use Rattle.jm_store.specs.declared.monitors.Slot.{Slot}
use Rattle.jm_store.specs.declared.monitors.Slot.TheVariants.{Free, Planned, Taken}

-- the monitor in a slot
abbrev pub monitor_in : {S : Type 0} → Slot S → Option (Stored S)
monitor_in (Free next) = None
monitor_in Planned = None
monitor_in (Taken s) = Some s

-- how many monitors are in a slot
abbrev pub count_in : {S : Type 0} → Slot S → ℕ
count_in (Free next) = 0
count_in Planned = 0
count_in (Taken s) = 1

-- what contracts see of the container: its slots, and the number of a free one, if there is one
pub record SlotList (S : Type 0) : Type 0 where
  pub slots : List (Slot S)
  pub free : ℕ

-- a slot is taken or planned
abbrev pub IsUsed : {S : Type 0} → Slot S → Type 0
IsUsed (Free next) = ⊥
IsUsed Planned = Unit {0}
IsUsed (Taken s) = Unit {0}

-- the slot of a number; one past the last is free
abbrev pub slot_at : {S : Type 0} → List (Slot S) → ℕ → Slot S
slot_at slots k = slice_index_or slots k (Free 0)

-- the monitors by slot
abbrev pub monitors_of : {S : Type 0} → List (Slot S) → List (Option (Stored S))
monitors_of slots = map monitor_in slots

-- the monitor of a slot's number
abbrev pub monitor_at : {S : Type 0} → List (Option (Stored S)) → ℕ → Option (Stored S)
monitor_at monitors k = slice_index_or monitors k None

-- all monitors, in the order of their slots
abbrev pub stored_in : {S : Type 0} → List (Option (Stored S)) → List (Stored S)
stored_in monitors = filter_map (λ x. x) monitors

-- slot k was made planned, which was free
pub record IsReserved {S : Type 0} (old new : List (Slot S)) (k : ℕ) : Type 0 where
  pub unused : IsUsed (slot_at old k) → ⊥
  pub here : slot_at new k ≡ Planned
  pub others : (j : ℕ) → (j ≡ k → ⊥) → slot_at new j ≡ slot_at old j
