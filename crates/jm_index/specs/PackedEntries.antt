-- How an entry lies in memory: by the parameters and objects of its binding and its slot, where it binds one or two and
-- the slot fits four bytes, and else as a whole. An entry that isn't live keeps neither.
use Rattle.std.specs.Prelude.{ℕ, ◌<◌, Bool, true, false}
use Rattle.jm_model.specs.declared.binding.Binding.{Binding}
use Rattle.jm_model.specs.Bindings.{empty, bound}
use Rattle.jm_index.specs.declared.packed_entry.PackedEntry.{PackedEntry}
use Rattle.jm_index.specs.declared.packed_entry.PackedEntry.TheVariants.{Gone, One, Two, Whole}
use Rattle.jm_index.specs.Entries.{Kept}

abbrev pub binding_in : PackedEntry → Binding
binding_in Gone = empty
binding_in (One p o k) = bound empty p o
binding_in (Two p q o r k) = bound (bound empty p o) q r
binding_in (Whole b) = b.value.binding

abbrev pub slot_in : PackedEntry → ℕ
slot_in Gone = 0
slot_in (One p o k) = k
slot_in (Two p q o r k) = k
slot_in (Whole b) = b.value.slot

abbrev pub is_kept : PackedEntry → Bool
is_kept Gone = false
is_kept (One p o k) = true
is_kept (Two p q o r k) = true
is_kept (Whole b) = true

-- the parameters are two of the eight, in their order
abbrev pub IsPackedEntry : PackedEntry → Type 0
IsPackedEntry Gone = Unit {0}
IsPackedEntry (One p o k) = p < 8
IsPackedEntry (Two p q o r k) = (p < q) × (q < 8)
IsPackedEntry (Whole b) = Unit {0}

-- the entry that is packed
abbrev pub kept_of : PackedEntry → Kept
kept_of packed = record { binding = binding_in packed; slot = slot_in packed; live = is_kept packed }
