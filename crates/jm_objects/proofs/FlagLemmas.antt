use Rattle.std.proofs.Common.{◌≡◌, ℕ, zero, suc, ◌*◌, ◌/◌, ◌%◌, ◌^◌, ◌<◌, ◌≤◌, Bool, true, false, List, length, get_or, refl, ◌≢◌, sym, ◌∙◌, ap, subst, arith, eqb, Some, replicate, ◌⊎◌, ⊎_elim, inl, inr}
use Rattle.std.specs.Prelude.{slice_get, bit_or, not}
use Rattle.std.specs.Int.{w64, bit_at}
use Rattle.std.proofs.Math.ListN.{set, length-set}
use Rattle.std.proofs.lemmas.List.{same_lists, length-replicate, get_or-replicate, get_or-set_same, get_or-set_other}
use Rattle.std.proofs.lemmas.Bool.{cases_eq, cases_lt, eq-eqb, false≢true}
use Rattle.std.proofs.lemmas.Option.{slice_get-get_or, same_Some}
use Rattle.std.proofs.lemmas.List.FromFn.{length-map-range_with_len, get_or-map-range_with_len}
use Rattle.std.proofs.lemmas.Nat.Bits.{bit_at-zero, bit_at_set_same, bit_at_set_other}
use Rattle.std.proofs.lemmas.Grind.{get_or_default_zero}
use Rattle.jm_objects.specs.Flags.{flag_at, flags_of}

pub length-flags_of : (n : ℕ) (words : List ℕ) → length (flags_of n words) ≡ n
unfolding flags_of
length-flags_of n words = length-map-range_with_len (flag_at words) 0 n

pub get_or-flags_of : (n : ℕ) (words : List ℕ) (k : ℕ) (d : Bool) → k < n → get_or (flags_of n words) k d ≡ flag_at words k
unfolding flags_of
get_or-flags_of n words k d h = get_or-map-range_with_len (flag_at words) 0 n k k d h (omega arith)

pub slice_get-flags_of : (n : ℕ) (words : List ℕ) (k : ℕ) → k < n → slice_get (flags_of n words) k ≡ Some (flag_at words k)
slice_get-flags_of n words k h =
    slice_get-get_or (flags_of n words) k true (rw length-flags_of h) ∙ ap Some (get_or-flags_of n words k true h)

-- an object below the length has its bit in one of the words
pub word_within : (n : ℕ) (words : List ℕ) (k : ℕ) → k < n → n ≤ 64 * length words → k / 64 < length words
word_within n words k h room = omega arith

pub below_len : (n : ℕ) (words : List ℕ) (k : ℕ) (v : List Bool) → flags_of n words ≡ v → k < length v → k < n
below_len n words k v e h = rw (← e, length-flags_of) at h

-- the word of an object, and its bit, by what they stand for
pub bit_within : (n : ℕ) (words : List ℕ) (k : ℕ) (v : List Bool) → flags_of n words ≡ v → k < length v → n ≤ 64 * length words → k / 64 < length words
bit_within n words k v e h room = word_within n words k (below_len n words k v e h) room

pub slice_get-word : (n : ℕ) (words : List ℕ) (k : ℕ) (v : List Bool) (word : ℕ) → flags_of n words ≡ v → k < length v → n ≤ 64 * length words
    → word ≡ get_or words (k / 64) word → slice_get v k ≡ Some (eqb (word / 2 ^ (k % 64) % 2) 1)
slice_get-word n words k v word e h room is =
    let below : k < n = below_len n words k v e h in
    let here : word ≡ get_or words (k / 64) 0 = is ∙ get_or_default_zero words (k / 64) word (word_within n words k below room) in
    rw (← e, here) (slice_get-flags_of n words k below)

-- the same by the bits of a word
pub slice_get-kept : (n : ℕ) (words : List ℕ) (k i : ℕ) (v : List Bool) (word : ℕ) → flags_of n words ≡ v → k < length v → k / 64 ≡ i → n ≤ 64 * length words
    → word ≡ get_or words i word → slice_get v k ≡ Some (eqb (bit_at word (k % 64)) 1)
slice_get-kept n words k i v word e h at room is =
    let below : k < n = below_len n words k v e h in
    let here : word ≡ get_or words (k / 64) 0 = rw at (is ∙ get_or_default_zero words i word (omega (arith, word_within n words k below room, at))) in
    rw (← e, here) (slice_get-flags_of n words k below)

-- no object is dead where no bit is set
pub flags_of-replicate : (n m : ℕ) → n ≤ 64 * m → flags_of n (replicate m 0) ≡ replicate n false
flags_of-replicate n m room = same_lists (flags_of n (replicate m 0)) (replicate n false) (length-flags_of n (replicate m 0) ∙ sym (length-replicate n false)) each
  where
    none : (k : ℕ) → k < n → flag_at (replicate m 0) k ≡ false
    none k h =
        rw (get_or-replicate {A = ℕ} m (k / 64) 0 0 (omega arith), bit_at-zero (k % 64))

    each : (k : ℕ) (d : Bool) → k < length (flags_of n (replicate m 0)) → get_or (flags_of n (replicate m 0)) k d ≡ get_or (replicate n false) k d
    each k d h =
        let below : k < n = rw length-flags_of at h in
        get_or-flags_of n (replicate m 0) k d below ∙ none k below ∙ sym (get_or-replicate n k false d below)

-- the word of object k with its bit set
abbrev pub marked : List ℕ → ℕ → ℕ
marked words k = bit_or (get_or words (k / 64) 0) (1 * 2 ^ (k % 64) % 2 ^ 64)

flag_at-marked_same : (words : List ℕ) (k : ℕ) → k / 64 < length words → flag_at (set words (k / 64) (marked words k)) k ≡ true
flag_at-marked_same words k h =
    rw (get_or-set_same words (k / 64) (marked words k) 0 h, bit_at_set_same w64 (get_or words (k / 64) 0) (k % 64) (omega arith))

flag_at-marked_other : (words : List ℕ) (k j : ℕ) → k / 64 < length words → j ≢ k → flag_at (set words (k / 64) (marked words k)) j ≡ flag_at words j
flag_at-marked_other words k j h apart = ⊎_elim here there (cases_eq (j / 64) (k / 64))
  where
    here : j / 64 ≡ k / 64 → flag_at (set words (k / 64) (marked words k)) j ≡ flag_at words j
    here e =
        let places : j % 64 ≢ k % 64 = omega arith in
        rw (e, get_or-set_same words (k / 64) (marked words k) 0 h, bit_at_set_other w64 (get_or words (k / 64) 0) (k % 64) (omega arith) (j % 64) places)

    there : (j / 64 ≡ k / 64 → ⊥) → flag_at (set words (k / 64) (marked words k)) j ≡ flag_at words j
    there e = rw (get_or-set_other words (k / 64) (j / 64) (marked words k) 0 e)

-- the flags where the bit of object k is set
pub flags_of-marked : (n : ℕ) (words : List ℕ) (k : ℕ) → n ≤ 64 * length words → k < n → flags_of n (set words (k / 64) (marked words k)) ≡ set (flags_of n words) k true
flags_of-marked n words k room h = same_lists (flags_of n after) (set (flags_of n words) k true) lengths each
  where
    after : List ℕ
    after = set words (k / 64) (marked words k)

    lengths : length (flags_of n after) ≡ length (set (flags_of n words) k true)
    lengths = length-flags_of n after ∙ sym (length-flags_of n words) ∙ sym (length-set (flags_of n words) k true)

    at : (j : ℕ) (d : Bool) → j < n → (j ≡ k) ⊎ (j ≡ k → ⊥) → flag_at after j ≡ get_or (set (flags_of n words) k true) j d
    at j d below (inl e) = rw (e, get_or-set_same (flags_of n words) k true d (rw length-flags_of h)) (flag_at-marked_same words k (word_within n words k h room))
    at j d below (inr apart) = flag_at-marked_other words k j (word_within n words k h room) apart ∙ sym (get_or-flags_of n words j d below) ∙ sym (get_or-set_other (flags_of n words) k j true d apart)

    each : (j : ℕ) (d : Bool) → j < length (flags_of n after) → get_or (flags_of n after) j d ≡ get_or (set (flags_of n words) k true) j d
    each j d b =
        let below : j < n = rw length-flags_of at b in
        get_or-flags_of n after j d below ∙ at j d below (cases_eq j k)

-- the bit of a word is one where the object is dead
pub dead_bit : (n : ℕ) → (eqb (n % 2) 0) ≡ not (eqb (n % 2) 1)
dead_bit n = elim (cases_lt (n % 2) 1) [ inl h ↦ grind (arith, eq-eqb) | inr h ↦ grind (arith, eq-eqb) ]

-- the flags after a word is marked, by what they stand for
pub flags_of-kill : (n : ℕ) (words : List ℕ) (k : ℕ) (v : List Bool) (word : ℕ) → flags_of n words ≡ v → k < length v → n ≤ 64 * length words
    → word ≡ get_or words (k / 64) word → flags_of n (set words (k / 64) (bit_or word (1 * 2 ^ (k % 64) % 2 ^ 64))) ≡ set v k true
flags_of-kill n words k v word e h room is =
    let below : k < n = below_len n words k v e h in
    let here : word ≡ get_or words (k / 64) 0 = is ∙ get_or_default_zero words (k / 64) word (word_within n words k below room) in
    rw (← e, here) (flags_of-marked n words k room below)

pub not-not : (b : Bool) → not (not b) ≡ b
not-not true = refl
not-not false = refl

-- of live objects none is dead
none_in : (n o : ℕ) → slice_get (replicate n false) o ≡ Some true → ⊥
none_in zero o is = absurd cc
none_in (suc n) zero is = false≢true (same_Some false true is)
none_in (suc n) (suc o) is = none_in n o is

pub none_dead : (n : ℕ) (words : List ℕ) → flags_of n words ≡ replicate n false → (o : ℕ) → slice_get (flags_of n words) o ≡ Some true → ⊥
none_dead n words all o is = none_in n o (subst (λ (l : List Bool). slice_get l o ≡ Some true) all is)
