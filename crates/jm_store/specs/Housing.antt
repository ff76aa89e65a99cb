-- How a store lies in memory.
use Rattle.std.specs.Prelude.{ℕ, ◌≡◌, ◌≢◌, ◌≤◌, Bool, true, false, List, Some, Contains, AllPairs}
use Rattle.jm_model.specs.Words.{Mask}
use Rattle.jm_model.specs.Bindings.{mask_of}
use Rattle.jm_index.specs.Index.{Pair}
use Rattle.jm_monitors.specs.declared.stored.Stored.{Stored}
use Rattle.jm_store.specs.declared.monitors.Slot.{Slot}
use Rattle.jm_store.specs.Slots.{IsUsed, slot_at, monitors_of, monitor_at}

-- The index has the pair of each monitor's instance and slot. Its slots are used, and no two pairs share a binding or a
-- slot.
pub record IsHoused {S : Type 0} (slots : List (Slot S)) (pairs : List Pair) : Type 0 where
  pub paired : (k : ℕ) (s : Stored S) → monitor_at (monitors_of slots) k ≡ Some s
      → Contains pairs (record { binding = s.instance; slot = k })
  pub used : (pair : Pair) → Contains pairs pair → IsUsed (slot_at slots pair.slot)
  pub bindings : AllPairs (λ a b. a.binding ≢ b.binding) pairs
  pub slots_apart : AllPairs (λ a b. a.slot ≢ b.slot) pairs

-- each pair's slot has a monitor
abbrev pub IsSettled : {S : Type 0} → List (Slot S) → List Pair → Type 0
IsSettled {S} slots pairs = (pair : Pair) → Contains pairs pair → (s : Stored S)
    × (monitor_at (monitors_of slots) pair.slot ≡ Some s)

-- the sets of parameters are distinct, and that of each pair's binding is among them
pub record AreDomains (domains : List Mask) (pairs : List Pair) : Type 0 where
  pub distinct : AllPairs (λ a b. a ≢ b) domains
  pub listed : (pair : Pair) → Contains pairs pair → Contains domains (mask_of pair.binding)

-- what lies in memory fits together; where no plan is open, each pair's slot has a monitor, and where one is open there
-- is room for a mark
pub record FitsTogether {S : Type 0} (slots : List (Slot S)) (pairs : List Pair) (listed : List Mask) (is_open : Bool)
    (spare : ℕ) : Type 0 where
  pub housed : IsHoused slots pairs
  pub domains : AreDomains listed pairs
  pub settled : is_open ≡ false → IsSettled slots pairs
  pub room : is_open ≡ true → 1 ≤ spare
