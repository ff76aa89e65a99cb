-- The flags of spots, by the words that they were set by.
use Rattle.std.proofs.Common.{◌≡◌, ℕ, ◌+◌, ◌-◌, ◌*◌, ◌/◌, ◌%◌, ◌^◌, ◌<◌, ◌≤◌, ◌==◌, ◌⊎◌, inl, inr, Bool, false, List, Some, length, get_or, refl, ap, sym, ◌∙◌, arith}
use Rattle.std.proofs.Math.ListN.{set, length-set}
use Rattle.std.specs.Prelude.{slice_get, bit_and, bit_or, bit_xor}
use Rattle.std.specs.List.{swap_remove}
use Rattle.std.specs.Int.{w64, bit_at, bit_not}
use Rattle.std.proofs.lemmas.Bool.{cases_eq, cases_lt}
use Rattle.std.proofs.lemmas.List.{get_or_past, get_or-set_same, get_or-set_other, get_or-take}
use Rattle.std.proofs.lemmas.Nat.{le_or_l, le_or_r}
use Rattle.std.proofs.lemmas.Nat.Bits.{bit_at_xor, bit_at-lt, bit_at-zero, bit_at_clear_other}
use Rattle.std.proofs.lemmas.Option.{same_Some, slice_get-get_or}
use Rattle.jm_marks.specs.Marks.{is_dead_object}
use Rattle.jm_marks.specs.Watch.{IsQuiet, IsSetBy, AreFlags, AreSpots}
use Rattle.jm_marks.proofs.WatchLemmas.{other_default, removed_length}

-- an object whose bit is 0 is alive, or isn't in the table
pub alive_by_bit : (dead : List Bool) (o n : ℕ) → (o < length dead → slice_get dead o ≡ Some (n == 1)) → n ≡ 0 → is_dead_object dead o ≡ false
alive_by_bit dead o n at is = elim (cases_lt o (length dead)) [
  | inl here ↦ rw is at (same_Some (get_or dead o false) (n == 1) (sym (slice_get-get_or dead o false here) ∙ at here))
  | inr past ↦ get_or_past dead o false past
]

-- a spot with a flag that is 0 has a flag
quiet_there : (flags : List ℕ) (s : ℕ) → IsQuiet flags s → s < length flags
quiet_there flags s quiet = elim (cases_lt s (length flags)) [
  | inl here ↦ here
  | inr past ↦ absurd (omega (arith, get_or_past flags s 1 past, quiet))
]

-- .. and is so wherever the flag is the same
quiet_as : (flags new : List ℕ) (s : ℕ) → length new ≡ length flags → get_or new s 0 ≡ get_or flags s 0 → IsQuiet new s → IsQuiet flags s
quiet_as flags new s size same quiet =
    let there : s < length new = quiet_there new s quiet in
    let before : s < length flags = omega (arith, there, size) in
    other_default flags s 1 0 before ∙ sym same ∙ other_default new s 0 1 there ∙ quiet

-- the flags after those of a word are set
pub AreFlags-set : (flags new words : List ℕ) (i word before_word : ℕ) → AreFlags flags words → i < length words → before_word ≡ get_or words i 0 → length new ≡ length flags
    → ((k : ℕ) → k < 64 → IsSetBy (get_or flags (i * 64 + 1 + k) 0) (get_or new (i * 64 + 1 + k) 0) (bit_at word k))
    → ((k : ℕ) → k < 64 → bit_at (bit_xor word before_word) k ≡ 1 → get_or new (i * 64 + 1 + k) 0 ≡ bit_at word k)
    → ((k : ℕ) → k < i * 64 + 1 → get_or new k 0 ≡ get_or flags k 0)
    → ((k : ℕ) → i * 64 + 1 + 64 ≤ k → get_or new k 0 ≡ get_or flags k 0) → AreFlags new (set words i word)
AreFlags-set flags new words i word before_word are there was size bits changed before behind = record {
  room = omega (arith, are.room, size, length-set words i word);
  first = λ quiet. are.first (quiet_as flags new 0 size (before 0 (omega arith)) quiet);
  each = λ o quiet. elim (cases_eq (o / 64) i) [
    | inl same ↦ (omega (arith, same, there, length-set words i word), rw (same, get_or-set_same words i word 0 there) (inside o same quiet))
    | inr other ↦
        let old = are.each o (quiet_as flags new (o + 1) size (other_word o other) quiet) in
        (omega (arith, old.0, length-set words i word), rw (get_or-set_other words i (o / 64) word 0 other) old.1)
  ];
}
  where
    other_word : (o : ℕ) → (o / 64 ≡ i → ⊥) → get_or new (o + 1) 0 ≡ get_or flags (o + 1) 0
    other_word o other = elim (cases_lt (o / 64) i) [
      | inl less ↦ before (o + 1) (omega (arith, less))
      | inr more ↦ elim (cases_lt i (o / 64)) [
        | inl further ↦ behind (o + 1) (omega (arith, further))
        | inr most ↦ absurd (other (omega (arith, more, most)))
      ]
    ]

    by_change : (k : ℕ) → bit_at before_word k ≡ 0 → (bit_at (bit_xor word before_word) k ≡ 1 → bit_at word k ≡ 0) → bit_at word k ≡ 0
    by_change k old same = elim (cases_eq (bit_at word k) 0) [
      | inl is ↦ is
      | inr isnt ↦ same (omega (arith, bit_at_xor word before_word k, old, isnt, bit_at-lt word k))
    ]

    inside : (o : ℕ) → o / 64 ≡ i → IsQuiet new (o + 1) → bit_at word (o % 64) ≡ 0
    inside o same quiet =
        let spot : i * 64 + 1 + o % 64 ≡ o + 1 = omega (arith, same) in
        let low : o % 64 < 64 = omega arith in
        let is : get_or new (o + 1) 0 ≡ 0 = other_default new (o + 1) 0 1 (quiet_there new (o + 1) quiet) ∙ quiet in
        let told = rw spot at (changed (o % 64) low) in
        elim (rw spot at (bits (o % 64) low)) [
          | inr flag ↦ sym flag ∙ is
          | inl kept ↦
              let old = are.each o (quiet_as flags new (o + 1) size kept quiet) in
              by_change (o % 64) (rw (was, ← same) old.1) (λ one. sym (told one) ∙ is)
        ]

-- what is known of the objects of a word and of those before it
abbrev pub AreKnown : List Bool → List ℕ → ℕ → Type 0
AreKnown dead words n = (o : ℕ) → o / 64 < n → bit_at (get_or words (o / 64) 0) (o % 64) ≡ 0 → is_dead_object dead o ≡ false

abbrev pub IsWordOf : List Bool → ℕ → ℕ → Type 0
IsWordOf dead i word = (o : ℕ) → o / 64 ≡ i → bit_at word (o % 64) ≡ 0 → is_dead_object dead o ≡ false

pub known_set : (dead : List Bool) (words : List ℕ) (i word : ℕ) → AreKnown dead words i → i < length words → IsWordOf dead i word → AreKnown dead (set words i word) (i + 1)
known_set dead words i word known there is o low bit = elim (cases_eq (o / 64) i) [
  | inl same ↦ is o same (rw (same, get_or-set_same words i word 0 there) at bit)
  | inr other ↦ known o (omega (arith, low, other)) (rw (get_or-set_other words i (o / 64) word 0 other) at bit)
]

pub known_same : (dead : List Bool) (words : List ℕ) (i word before : ℕ) → AreKnown dead words i → before ≡ get_or words i 0 → bit_xor word before ≤ 0 → IsWordOf dead i word → AreKnown dead words (i + 1)
known_same dead words i word before known was none is o low bit = elim (cases_eq (o / 64) i) [
  | inl same ↦ is o same (alike (o % 64) (rw (same, ← was) at bit))
  | inr other ↦ known o (omega (arith, low, other)) bit
]
  where
    alike : (k : ℕ) → bit_at before k ≡ 0 → bit_at word k ≡ 0
    alike k old =
        let no_bits : bit_xor word before ≡ 0 = omega (arith, none) in
        let no_bit : bit_at (bit_xor word before) k ≡ 0 = ap (λ (w : ℕ). bit_at w k) no_bits ∙ bit_at-zero k in
        omega (arith, no_bit, old, bit_at_xor word before k, bit_at-lt word k)

-- no flag of a stretch is more than those of the stretch together
pub together : (flags spots : List ℕ) (from at loud flag : ℕ) → ((k : ℕ) → from ≤ k → k < at → get_or flags (get_or spots k 0) 1 ≤ loud) → get_or flags (get_or spots at 0) 1 ≡ flag
    → (k : ℕ) → from ≤ k → k < at + 1 → get_or flags (get_or spots k 0) 1 ≤ bit_or loud flag
together flags spots from at loud flag each here k low high = elim (cases_eq k at) [
  | inl same ↦ rw (same, here) (le_or_r loud flag)
  | inr other ↦ omega (arith, each k low (omega (arith, high, other)), le_or_l loud flag)
]

-- the flag of a spot that stands in a row
pub flag_of_spot : (flags spots : List ℕ) (k spot flag : ℕ) → k < length spots → 0 < length flags → AreSpots spots flags → spot ≡ get_or spots k spot → flag ≡ get_or flags spot flag
    → get_or flags (get_or spots k 0) 1 ≡ flag
flag_of_spot flags spots k spot flag low some all here there =
    let is : spot ≡ get_or spots k 0 = here ∙ other_default spots k spot 0 low in
    let within : spot < length flags = omega (arith, all k, is, some) in
    rw (← is) (other_default flags spot 1 flag within ∙ sym there)

-- what is so of all that stand in a list is so after a removal
pub removed_low : (xs : List ℕ) (i d most : ℕ) → i < length xs → ((k : ℕ) → get_or xs k 0 ≤ most) → (k : ℕ) → get_or (swap_remove xs i d) k 0 ≤ most
removed_low xs i d most there all k = elim (cases_lt k (length xs - 1)) [
  | inr past ↦ omega (arith, get_or_past (swap_remove xs i d) k 0 (omega (arith, past, removed_length xs i d)))
  | inl low ↦
      let taken = get_or-take (length xs - 1) (set xs i (get_or xs (length xs - 1) d)) k 0 low in
      elim (cases_eq k i) [
        | inl same ↦
            let last : get_or xs (length xs - 1) d ≡ get_or xs (length xs - 1) 0 = other_default xs (length xs - 1) d 0 (omega (arith, there)) in
            rw (taken, same, get_or-set_same xs i (get_or xs (length xs - 1) d) 0 there, last) (all (length xs - 1))
        | inr other ↦ rw (taken, get_or-set_other xs i k (get_or xs (length xs - 1) d) 0 other) (all k)
      ]
]

-- ---- the bits of a word that are left, one of which is set and cleared
set_same : (flags : List ℕ) (first t bit k : ℕ) → first + t < length flags → k ≡ t → get_or (set flags (first + t) bit) (first + k) 0 ≡ bit
set_same flags first t bit k there same = rw (same, get_or-set_same flags (first + t) bit 0 there) refl

set_apart : (flags : List ℕ) (first t bit k : ℕ) → (k ≡ t → ⊥) → get_or (set flags (first + t) bit) (first + k) 0 ≡ get_or flags (first + k) 0
set_apart flags first t bit k other =
    let apart : first + k ≡ first + t → ⊥ = λ e. other (omega (arith, e)) in
    get_or-set_other flags (first + t) (first + k) bit 0 apart

pub elsewhere : (flags : List ℕ) (first word t k : ℕ) → (k ≡ first + t → ⊥) → get_or (set flags (first + t) (bit_at word t)) k 0 ≡ get_or flags k 0
elsewhere flags first word t k other = get_or-set_other flags (first + t) k (bit_at word t) 0 other

pub bits_set : (old flags : List ℕ) (first word t : ℕ) → first + t < length flags
    → ((k : ℕ) → k < 64 → IsSetBy (get_or old (first + k) 0) (get_or flags (first + k) 0) (bit_at word k))
    → (k : ℕ) → k < 64 → IsSetBy (get_or old (first + k) 0) (get_or (set flags (first + t) (bit_at word t)) (first + k) 0) (bit_at word k)
bits_set old flags first word t there bits k low = elim (cases_eq k t) [
  | inl same ↦ inr (set_same flags first t (bit_at word t) k there same ∙ ap (bit_at word) (sym same))
  | inr other ↦ rw (set_apart flags first t (bit_at word t) k other) (bits k low)
]

pub all_set : (flags : List ℕ) (first word changed left t : ℕ) → first + t < length flags → t < 64
    → ((k : ℕ) → k < 64 → bit_at changed k ≡ 1 → (bit_at left k ≡ 1) ⊎ (get_or flags (first + k) 0 ≡ bit_at word k))
    → (k : ℕ) → k < 64 → bit_at changed k ≡ 1
    → (bit_at (bit_and left (bit_not w64 (1 * 2 ^ t % 2 ^ 64))) k ≡ 1) ⊎ (get_or (set flags (first + t) (bit_at word t)) (first + k) 0 ≡ bit_at word k)
all_set flags first word changed left t there within all k low is = elim (cases_eq k t) [
  | inl same ↦ inr (set_same flags first t (bit_at word t) k there same ∙ ap (bit_at word) (sym same))
  | inr other ↦ elim (all k low is) [
    | inl still ↦ inl (bit_at_clear_other w64 left t within k low other ∙ still)
    | inr done ↦ inr (set_apart flags first t (bit_at word t) k other ∙ done)
  ]
]

-- where all bits that changed are set none is left
pub none_left : (word k flag : ℕ) → (bit_at 0 k ≡ 1) ⊎ (flag ≡ bit_at word k) → flag ≡ bit_at word k
none_left word k flag (inl still) = absurd (omega (arith, still, bit_at-zero k))
none_left word k flag (inr done) = done
