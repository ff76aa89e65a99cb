-- The flags of an index, 64 to a word.
use Rattle.std.proofs.Common.{◌≡◌, ℕ, ◌*◌, ◌/◌, ◌%◌, ◌-◌, ◌+◌, ◌^◌, min, ◌<◌, ◌≤◌, Bool, true, false, List, [], ◌∷◌, ◌++◌, length, get_or, refl, sym, ◌∙◌, ap, arith, eqb, ◌⊎◌, inl, inr, Some}
use Rattle.std.specs.Prelude.{bit_and, bit_or, slice_set, slice_get}
use Rattle.std.specs.Int.{w64, bit_at, bit_not}
use Rattle.std.proofs.Math.ListN.{set, length-set}
use Rattle.std.proofs.lemmas.List.{same_lists, length_push, get_or_append_left, get_or-append_right, get_or_past}
use Rattle.std.proofs.lemmas.Bool.{cases_eq, cases_lt, eqb-true, eq-eqb}
use Rattle.std.proofs.lemmas.Option.{slice_get-get_or, same_Some}
use Rattle.std.proofs.lemmas.Nat.Bits.{bit_at-zero, bit_at_and, bit_at_or, bit_at_not, bit_at-lt, same_from_bits}
use Rattle.std.proofs.lemmas.Grind.{get_or_default_zero}
use Rattle.jm_objects.specs.Flags.{flag_at, flags_of}
use Rattle.jm_objects.proofs.FlagLemmas.{length-flags_of, get_or-flags_of, flags_of-kill}
use Rattle.jm_index.specs.Index.{flag_of}

-- the flags of all bits
abbrev pub all_flags : List ℕ → List Bool
all_flags words = flags_of (64 * length words) words

pub length-all_flags : (words : List ℕ) → length (all_flags words) ≡ 64 * length words
length-all_flags words = length-flags_of (64 * length words) words

-- the flag of an object is its bit
pub flag_is_bit : (words : List ℕ) (o : ℕ) → flag_of (all_flags words) o ≡ flag_at words o
flag_is_bit words o =
    elim (cases_lt o (64 * length words)) [
      | inl below ↦ get_or-flags_of (64 * length words) words o false below
      | inr past ↦
          let beyond : length words ≤ o / 64 = omega arith in
          get_or_past (all_flags words) o false (rw length-all_flags past)
          ∙ sym (rw (get_or_past words (o / 64) 0 beyond, bit_at-zero (o % 64)) refl)
    ]

-- 64 flags more, all unset
pub flag_longer : (words : List ℕ) (o : ℕ) → flag_of (all_flags (words ++ 0 ∷ [])) o ≡ flag_of (all_flags words) o
flag_longer words o =
    flag_is_bit (words ++ 0 ∷ []) o ∙ ap (λ (w : ℕ). eqb (bit_at w (o % 64)) 1) (same (cases_lt (o / 64) (length words))) ∙ sym (flag_is_bit words o)
  where
    zero_at : (i : ℕ) → get_or {A = ℕ} (0 ∷ []) i 0 ≡ 0
    zero_at i = elim (cases_lt i 1) [ inl h ↦ rw (first i h) refl | inr h ↦ get_or_past (0 ∷ []) i 0 h ]
      where
        first : (i : ℕ) → i < 1 → i ≡ 0
        first i h = omega arith

    same : (o / 64 < length words) ⊎ (length words ≤ o / 64) → get_or {A = ℕ} (words ++ 0 ∷ []) (o / 64) 0 ≡ get_or words (o / 64) 0
    same (inl below) = get_or_append_left words (0 ∷ []) 0 (o / 64) below
    same (inr past) = get_or-append_right words (0 ∷ []) (length words) (o / 64) 0 refl past ∙ zero_at (o / 64 - length words) ∙ sym (get_or_past words (o / 64) 0 past)

pub length_longer : (words : List ℕ) → length (all_flags words) < length (all_flags (words ++ 0 ∷ []))
length_longer words = omega (arith, length-all_flags words, length-all_flags (words ++ 0 ∷ []), length_push words 0)

-- the flags after one is set
pub flags_set : (words : List ℕ) (o : ℕ) (v : List Bool) (word : ℕ) → all_flags words ≡ v → o < length v → word ≡ get_or words (o / 64) word
    → all_flags (slice_set words (o / 64) (bit_or word (1 * 2 ^ (o % 64) % 2 ^ 64))) ≡ slice_set v o true
flags_set words o v word e h is = rw (length-set words (o / 64) (bit_or word (1 * 2 ^ (o % 64) % 2 ^ 64))) (flags_of-kill (64 * length words) words o v word e h (omega arith) is)

-- a bit that is set in one of two words is set in the other, where that has all bits of both
pub bit_kept : (a b i : ℕ) → bit_or a b ≡ b → bit_at a i ≡ 1 → bit_at b i ≡ 1
bit_kept a b i e one =
    let both : bit_at b i ≡ bit_at (bit_or a b) i = ap (λ (w : ℕ). bit_at w i) (sym e) in
    omega (arith, both, bit_at_or a b i, one, bit_at-lt b i)

-- a bit that is set in one of two words is set in the other, where that lacks none of them
bit_known : (dead known j : ℕ) → known < 2 ^ 64 → bit_and dead (2 ^ 64 - 1 - known) ≡ 0 → j < 64 → bit_at dead j ≡ 1 → bit_at known j ≡ 1
bit_known dead known j fits none low one =
    let zero : bit_at (bit_and dead (bit_not w64 known)) j ≡ 0 = rw none (bit_at-zero j) in
    omega (arith, zero, bit_at_and dead (bit_not w64 known) j, bit_at_not w64 known j fits low, bit_at-lt known j, one)

or_none : (a b : ℕ) → bit_or a b ≡ 0 → (a ≡ 0) × (b ≡ 0)
or_none a b none = (same_from_bits a 0 (λ i. omega (arith, bit i, bit_at_or a b i, bit_at-zero i)), same_from_bits b 0 (λ i. omega (arith, bit i, bit_at_or a b i, bit_at-zero i)))
  where
    bit : (i : ℕ) → bit_at (bit_or a b) i ≡ 0
    bit i = rw none (bit_at-zero i)

-- of the words from one to another, the bits of the dead are set in those that are known
abbrev pub AreKnown : List ℕ → List ℕ → ℕ → ℕ → Type 0
AreKnown dead known first end = (i j : ℕ) → first ≤ i → i < end → j < 64 → bit_at (get_or dead i 0) j ≡ 1 → bit_at (get_or known i 0) j ≡ 1

pub known_more : (dead known : List ℕ) (first n news : ℕ) → get_or known n 0 < 2 ^ 64 → (news ≡ 0 → AreKnown dead known first n)
    → bit_or news (bit_and (get_or dead n 0) (2 ^ 64 - 1 - get_or known n 0)) ≡ 0 → AreKnown dead known first (n + 1)
known_more dead known first n news fits before none i j low high bit one =
    let parts = or_none _ _ none in
    elim (cases_eq i n) [
      | inl is ↦ rw is (bit_known _ _ j fits parts.1 bit (rw is at one))
      | inr apart ↦ before parts.0 i j low (omega (arith, high, apart)) bit one
    ]

pub known_block : (words read marks : List ℕ) (v dead : List Bool) (block end o : ℕ) → all_flags words ≡ v → read ≡ words → length dead ≤ 64 * length marks
    → ((k : ℕ) → k < length dead → slice_get dead k ≡ Some (eqb (bit_at (get_or marks (k / 64) 0) (k % 64)) 1)) → end ≡ min (min (length read) (length marks)) (64 * block + 64)
    → AreKnown marks read (64 * block) end → o / 4096 ≡ block → flag_of dead o ≡ true → o < length v → flag_of v o ≡ true
known_block words read marks v dead block end o e same room flags is known at gone within =
    let low : o < length (all_flags words) = rw e within in
    let here : o < length dead = below (cases_lt o (length dead)) in
    let bit : eqb (bit_at (get_or marks (o / 64) 0) (o % 64)) 1 ≡ true = sym (same_Some _ _ (sym (slice_get-get_or dead o false here) ∙ flags o here)) ∙ gone in
    let inside : o / 64 < end = omega (arith, low, length-all_flags words, ap length same, here, room, is, at) in
    let one : bit_at (get_or read (o / 64) 0) (o % 64) ≡ 1 = known (o / 64) (o % 64) (omega (arith, at)) inside (omega arith) (eqb-true _ 1 bit) in
    rw (← e) (flag_is_bit words o ∙ eq-eqb _ 1 (rw same at one))
  where
    below : (o < length dead) ⊎ (length dead ≤ o) → o < length dead
    below (inl h) = h
    below (inr h) = let none : flag_of dead o ≡ false = get_or_past dead o false h in cc

-- so the flags of a word are set where its bits are those of dead objects
pub dead_kept : (words : List ℕ) (dead : List Bool) (word known i o : ℕ) → ((k : ℕ) → k < length dead → k / 64 ≡ i → slice_get dead k ≡ Some (eqb (bit_at word (k % 64)) 1))
    → (i < length words → known ≡ get_or words i 0) → (i < length words → bit_or word known ≡ known) → o / 64 ≡ i → flag_of dead o ≡ true → o < length (all_flags words) → flag_of (all_flags words) o ≡ true
dead_kept words dead word known i o flags is kept at gone within =
    let low : i < length words = omega (arith, length-all_flags words) in
    let here : o < length dead = below (cases_lt o (length dead)) in
    let bit : eqb (bit_at word (o % 64)) 1 ≡ true = sym (same_Some _ _ (sym (slice_get-get_or dead o false here) ∙ flags o here at)) ∙ gone in
    let set' : bit_at known (o % 64) ≡ 1 = bit_kept word known (o % 64) (kept low) (eqb-true _ 1 bit) in
    flag_is_bit words o ∙ rw (at, ← is low) (eq-eqb _ 1 set')
  where
    below : (o < length dead) ⊎ (length dead ≤ o) → o < length dead
    below (inl h) = h
    below (inr h) = let none : flag_of dead o ≡ false = get_or_past dead o false h in cc

pub word_there : (words : List ℕ) (o : ℕ) (v : List Bool) → all_flags words ≡ v → o < length v → o / 64 < length words
word_there words o v e h = let low : o < length (all_flags words) = rw e h in omega (arith, low, length-all_flags words)

pub no_flags : all_flags [] ≡ []
no_flags = same_lists (all_flags []) [] (length-all_flags []) (λ k d h. absurd (none k h))
  where
    none : (k : ℕ) → k < length (all_flags []) → ⊥
    none k h = omega (arith, h, length-all_flags [])

-- what is read of the words
pub flag_read : (words read : List ℕ) (o : ℕ) (v : List Bool) (word : ℕ) → all_flags words ≡ v → read ≡ words → o / 64 < length read → word ≡ get_or read (o / 64) word
    → eqb (word / 2 ^ (o % 64) % 2) 1 ≡ flag_of v o
flag_read words read o v word e same below is =
    let here : word ≡ get_or words (o / 64) 0 = rw same at (is ∙ get_or_default_zero read (o / 64) word below) in
    rw (← e, here) (sym (flag_is_bit words o))

pub flag_missed : (words read : List ℕ) (o : ℕ) (v : List Bool) → all_flags words ≡ v → read ≡ words → length read ≤ o / 64 → false ≡ flag_of v o
flag_missed words read o v e same past =
    let high : 64 * length words ≤ o = omega (arith, ap length same, past) in
    rw (← e) (sym (get_or_past (all_flags words) o false (omega (arith, high, length-all_flags words))))

pub flag_lengthened : (words longer : List ℕ) (v : List Bool) → all_flags words ≡ v → longer ≡ words ++ 0 ∷ [] → (o : ℕ) → flag_of (all_flags longer) o ≡ flag_of v o
flag_lengthened words longer v e more o = rw (← e, more) (flag_longer words o)

pub length_lengthened : (words longer : List ℕ) (v : List Bool) → all_flags words ≡ v → longer ≡ words ++ 0 ∷ [] → length v < length (all_flags longer)
length_lengthened words longer v e more = rw (← e, more) (length_longer words)

-- the dead objects of a word have their flags set, where the bits of these are among those of the flags
pub dead_read : (words read : List ℕ) (v dead : List Bool) (word known i o : ℕ) → all_flags words ≡ v → read ≡ words
    → ((k : ℕ) → k < length dead → k / 64 ≡ i → slice_get dead k ≡ Some (eqb (bit_at word (k % 64)) 1))
    → i < length read → known ≡ get_or read i known → eqb (bit_or word known) known ≡ true → o / 64 ≡ i → flag_of dead o ≡ true → o < length v → flag_of v o ≡ true
dead_read words read v dead word known i o e same flags below is kept at gone within =
    let here : known ≡ get_or words i 0 = rw same at (is ∙ get_or_default_zero read i known below) in
    rw (← e) (dead_kept words dead word known i o flags (λ h. here) (λ h. eqb-true (bit_or word known) known kept) at gone (rw e within))

pub dead_missed : (words read : List ℕ) (v : List Bool) (i o : ℕ) → all_flags words ≡ v → read ≡ words → length read ≤ i → o / 64 ≡ i → o < length v → ⊥
dead_missed words read v i o e same past at within =
    let low : o < length (all_flags words) = rw e within in
    omega (arith, ap length same, past, low, length-all_flags words)

-- ---- the bits of dead objects whose flags are unset
pub news_all : (dead : List Bool) (word i o : ℕ) → ((k : ℕ) → k < length dead → k / 64 ≡ i → slice_get dead k ≡ Some (eqb (bit_at word (k % 64)) 1))
    → o / 64 ≡ i → flag_of dead o ≡ true → bit_at word (o % 64) ≡ 1
news_all dead word i o flags at gone =
    let here : o < length dead = below (cases_lt o (length dead)) in
    eqb-true _ 1 (sym (same_Some _ _ (sym (slice_get-get_or dead o false here) ∙ flags o here at)) ∙ gone)
  where
    below : (o < length dead) ⊎ (length dead ≤ o) → o < length dead
    below (inl h) = h
    below (inr h) = let none : flag_of dead o ≡ false = get_or_past dead o false h in cc

pub news_bit : (words read : List ℕ) (v dead : List Bool) (word known i o : ℕ) → all_flags words ≡ v → read ≡ words
    → ((k : ℕ) → k < length dead → k / 64 ≡ i → slice_get dead k ≡ Some (eqb (bit_at word (k % 64)) 1))
    → i < length read → known ≡ get_or read i known → known < 2 ^ 64 → o / 64 ≡ i → flag_of dead o ≡ true → flag_of v o ≡ false
    → bit_at (bit_and word (2 ^ 64 - 1 - known)) (o % 64) ≡ 1
news_bit words read v dead word known i o e same flags below is fits at gone kept =
    let one : bit_at word (o % 64) ≡ 1 = news_all dead word i o flags at gone in
    let here : known ≡ get_or words i 0 = rw same at (is ∙ get_or_default_zero read i known below) in
    let unset : eqb (bit_at known (o % 64)) 1 ≡ false = rw (here, ← at) (sym (flag_is_bit words o) ∙ rw e kept) in
    let zero : bit_at known (o % 64) ≡ 1 → ⊥ = λ set'. let both : eqb (bit_at known (o % 64)) 1 ≡ true = eq-eqb _ 1 set' in cc in
    omega (arith, one, zero, bit_at-lt known (o % 64), bit_at_and word (bit_not w64 known) (o % 64), bit_at_not w64 known (o % 64) fits (omega arith))
