-- The bytes of objects, and the marks that their bits stand for.
use Rattle.std.proofs.Common.{◌≡◌, ◌≢◌, ℕ, suc, ◌+◌, ◌-◌, ◌*◌, ◌/◌, ◌%◌, ◌^◌, ◌<◌, ◌≤◌, ◌==◌, inl, inr, Bool, true, false, cond, List, [], ◌∷◌, ◌++◌, Option, length, get_or, take, replicate, refl, sym, ◌∙◌, subst, arith}
use Rattle.std.proofs.Math.ListN.{set, length-set}
use Rattle.std.specs.Prelude.{Contains, IsTrue, bit_and, bit_or, if◌then◌else◌}
use Rattle.std.specs.List.Sorted.{IsPermutation}
use Rattle.std.specs.Int.{w8, w64, bit_at, bit_not}
use Rattle.std.proofs.lemmas.Bool.{cases_eq, cases_lt, eqb-true}
use Rattle.std.proofs.lemmas.List.{get_or_past, get_or-set_same, get_or-set_other, append-nil, append_assoc, get_or-replicate, get_or_append_left, get_or-append_right, length-append, length-replicate, take_all}
use Rattle.std.proofs.lemmas.Nat.Bits.{bit_at-lt, bit_at-zero, bit_at_set_same, bit_at_set_other, bit_at_clear_same, bit_at_clear_other}
use Rattle.jm_model.specs.Bindings.{bound, empty}
use Rattle.jm_marks.specs.Singles.{single_at, is_single, singles_before, singles_of, AreGone, IsPlaceOf, IsSingle, IsAddedTo}
use Rattle.jm_marks.proofs.WatchLemmas.{other_default}
use Rattle.jm_marks.proofs.SingleLemmas.{found_single, single_there, same_singles, put_single, same_single, no_singles}

abbrev Bound : Type 0
Bound = List (Option ℕ)

-- a mark of one parameter binds one parameter
pub single_found : (bytes : List ℕ) (b : Bound) → Contains (singles_of bytes) b → IsSingle b
single_found bytes b h = let (k, low, is, same) = found_single bytes (8 * length bytes) b h in (k % 8, k / 8, omega arith, same)

-- .. to an object that has a byte
pub beyond_bytes : (bytes : List ℕ) (b : Bound) (p o : ℕ) → p < 8 → b ≡ bound empty p o → length bytes ≤ o → Contains (singles_of bytes) b → ⊥
beyond_bytes bytes b p o few at past h =
    let (k, low, is, same) = found_single bytes (8 * length bytes) b h in
    let (_, object) = same_single p o (k % 8) (k / 8) few (omega arith) (sym at ∙ same) in
    omega (arith, past, low, object)

place_object : (p o : ℕ) → p < 8 → (8 * o + p) / 8 ≡ o
place_object p o low = omega (arith, low)

place_bit : (p o : ℕ) → p < 8 → (8 * o + p) % 8 ≡ p
place_bit p o low = omega (arith, low)

-- the bit of a place, by its object and its parameter
single_here : (bytes : List ℕ) (p o : ℕ) → p < 8 → is_single bytes (8 * o + p) ≡ (bit_at (get_or bytes o 0) p == 1)
single_here bytes p o low = rw (place_object p o low, place_bit p o low) refl

one_bit : (n : ℕ) → n ≡ 1 → (n == 1) ≡ true
one_bit n is = rw is refl

bit_one : (n : ℕ) → (n == 1) ≡ true → n ≡ 1
bit_one n is = eqb-true n 1 is

no_bit : (n : ℕ) → n < 2 → n ≢ 1 → (n == 1) ≡ false
no_bit n few isnt = let zero : n ≡ 0 = omega (arith, few, isnt) in rw zero refl

pub there_by_bit : (bytes : List ℕ) (p o : ℕ) (b : Bound) → IsPlaceOf bytes p o b → bit_at (get_or bytes o 0) p ≡ 1 → Contains (singles_of bytes) b
there_by_bit bytes p o b at is =
    let here = single_there bytes (8 * length bytes) (8 * o + p) (omega (arith, at.few, at.room)) (single_here bytes p o at.few ∙ one_bit _ is) in
    let same : single_at (8 * o + p) ≡ b = rw (place_object p o at.few, place_bit p o at.few) (sym at.is) in
    subst (λ (x : Bound). Contains (singles_of bytes) x) same here

pub bit_by_there : (bytes : List ℕ) (p o : ℕ) (b : Bound) → IsPlaceOf bytes p o b → Contains (singles_of bytes) b → bit_at (get_or bytes o 0) p ≡ 1
bit_by_there bytes p o b at h =
    let (k, low, is, same) = found_single bytes (8 * length bytes) b h in
    let (bit, object) = same_single p o (k % 8) (k / 8) at.few (omega arith) (sym at.is ∙ same) in
    bit_one _ (rw (bit, object) is)

-- one bit more in a byte
other_byte : (bytes : List ℕ) (p o w i : ℕ) → p < 8 → o < length bytes → i ≢ 8 * o + p
    → is_single (set bytes o (bit_or (get_or bytes o 0) (1 * 2 ^ p % 256))) i ≡ is_single bytes i
other_byte bytes p o w i low there other = elim (cases_eq (i / 8) o) [
  | inl same ↦
      let apart : i % 8 ≢ p = λ e. other (omega (arith, e, same)) in
      rw (same, get_or-set_same bytes o (bit_or (get_or bytes o 0) (1 * 2 ^ p % 256)) 0 there, bit_at_set_other w8 (get_or bytes o 0) p low (i % 8) apart) refl
  | inr far ↦ rw (get_or-set_other bytes o (i / 8) (bit_or (get_or bytes o 0) (1 * 2 ^ p % 256)) 0 far) refl
]

put_here : (bytes : List ℕ) (p o : ℕ) → p < 8 → o < length bytes → is_single (set bytes o (bit_or (get_or bytes o 0) (1 * 2 ^ p % 256))) (8 * o + p) ≡ true
put_here bytes p o low there =
    single_here (set bytes o (bit_or (get_or bytes o 0) (1 * 2 ^ p % 256))) p o low
    ∙ rw (get_or-set_same bytes o (bit_or (get_or bytes o 0) (1 * 2 ^ p % 256)) 0 there, bit_at_set_same w8 (get_or bytes o 0) p low) refl

pub put_byte : (bytes : List ℕ) (p o v : ℕ) (b : Bound) → IsPlaceOf bytes p o b → v ≡ get_or bytes o v → IsAddedTo (singles_of bytes) b (singles_of (set bytes o (bit_or v (1 * 2 ^ p % 256))))
put_byte bytes p o v b at value = rw (was, length-set bytes o (bit_or (get_or bytes o 0) (1 * 2 ^ p % 256))) (elim (cases_eq (bit_at (get_or bytes o 0) p) 1) [
  | inl one ↦ inl (there_by_bit bytes p o b at one, same_singles bytes next (8 * length bytes) (λ i _. known one i))
  | inr zero ↦
      let free : is_single bytes (8 * o + p) ≡ false = single_here bytes p o at.few ∙ no_bit _ (bit_at-lt (get_or bytes o 0) p) zero in
      let more = put_single bytes next (8 * length bytes) (8 * o + p) (omega (arith, at.few, at.room)) free (put_here bytes p o at.few at.room) (λ i. other_byte bytes p o v i at.few at.room) in
      let same : single_at (8 * o + p) ≡ b = rw (place_object p o at.few, place_bit p o at.few) (sym at.is) in
      inr (λ h. zero (bit_by_there bytes p o b at h), subst (λ (x : Bound). IsPermutation (x ∷ singles_before bytes (8 * length bytes)) (singles_before next (8 * length bytes))) same more)
])
  where
    was : v ≡ get_or bytes o 0
    was = value ∙ other_default bytes o v 0 at.room

    next : List ℕ
    next = set bytes o (bit_or (get_or bytes o 0) (1 * 2 ^ p % 256))

    known : bit_at (get_or bytes o 0) p ≡ 1 → (i : ℕ) → is_single next i ≡ is_single bytes i
    known one i = elim (cases_eq i (8 * o + p)) [
      | inl here ↦ rw here (put_here bytes p o at.few at.room ∙ sym (single_here bytes p o at.few ∙ one_bit _ one))
      | inr other ↦ other_byte bytes p o v i at.few at.room other
    ]

-- ---- the bits of objects whose byte is 0
pub gone_put : (bytes gone : List ℕ) (o w g : ℕ) → AreGone bytes gone → o < length bytes → g ≡ get_or gone (o / 64) g
    → AreGone (set bytes o w) (set gone (o / 64) (bit_and g (bit_not w64 (1 * 2 ^ (o % 64) % 2 ^ 64))))
gone_put bytes gone o w g are there value = record {
  few = omega (arith, are.few, length-set gone (o / 64) (bit_and g (bit_not w64 (1 * 2 ^ (o % 64) % 2 ^ 64))));
  room = omega (arith, are.room, length-set bytes o w, length-set gone (o / 64) (bit_and g (bit_not w64 (1 * 2 ^ (o % 64) % 2 ^ 64))));
  each = λ q bit. elim (cases_eq (q / 64) (o / 64)) [
    | inr far ↦
        let old = rw (get_or-set_other gone (o / 64) (q / 64) (bit_and g (bit_not w64 (1 * 2 ^ (o % 64) % 2 ^ 64))) 0 far) at bit in
        get_or-set_other bytes o q w 0 (λ e. far (omega (arith, e))) ∙ are.each q old
    | inl near ↦
        let new = rw (near, get_or-set_same gone (o / 64) (bit_and g (bit_not w64 (1 * 2 ^ (o % 64) % 2 ^ 64))) 0 word) at bit in
        elim (cases_eq (q % 64) (o % 64)) [
          | inl same ↦
              let none = bit_at_clear_same w64 g (o % 64) (omega arith) in
              let one = rw same at new in
              absurd (omega (arith, one, none))
          | inr other ↦
              let still = sym (bit_at_clear_other w64 g (o % 64) (omega arith) (q % 64) (omega arith) other) ∙ new in
              get_or-set_other bytes o q w 0 (λ e. other (omega (arith, e))) ∙ are.each q (rw (near, ← was) still)
        ]
  ];
}
  where
    word : o / 64 < length gone
    word = omega (arith, are.room, there)

    was : g ≡ get_or gone (o / 64) 0
    was = value ∙ other_default gone (o / 64) g 0 word

pub gone_clear : (bytes gone : List ℕ) (o g : ℕ) → AreGone bytes gone → o < length bytes → g ≡ get_or gone (o / 64) g
    → AreGone (set bytes o 0) (set gone (o / 64) (bit_or g (1 * 2 ^ (o % 64) % 2 ^ 64)))
gone_clear bytes gone o g are there value = record {
  few = omega (arith, are.few, length-set gone (o / 64) (bit_or g (1 * 2 ^ (o % 64) % 2 ^ 64)));
  room = omega (arith, are.room, length-set bytes o 0, length-set gone (o / 64) (bit_or g (1 * 2 ^ (o % 64) % 2 ^ 64)));
  each = λ q bit. elim (cases_eq q o) [
    | inl here ↦ rw here (get_or-set_same bytes o 0 0 there)
    | inr apart ↦ get_or-set_other bytes o q 0 0 apart ∙ are.each q (elim (cases_eq (q / 64) (o / 64)) [
      | inr far ↦ rw (get_or-set_other gone (o / 64) (q / 64) (bit_or g (1 * 2 ^ (o % 64) % 2 ^ 64)) 0 far) at bit
      | inl near ↦
          let other : q % 64 ≢ o % 64 = λ e. apart (omega (arith, e, near)) in
          let new = rw (near, get_or-set_same gone (o / 64) (bit_or g (1 * 2 ^ (o % 64) % 2 ^ 64)) 0 word) at bit in
          rw (near, ← was) (sym (bit_at_set_other w64 g (o % 64) (omega arith) (q % 64) other) ∙ new)
    ])
  ];
}
  where
    word : o / 64 < length gone
    word = omega (arith, are.room, there)

    was : g ≡ get_or gone (o / 64) 0
    was = value ∙ other_default gone (o / 64) g 0 word

-- ---- more bytes, all 0
pub more_bytes : (old new : List ℕ) → length old ≤ length new → ((i : ℕ) → i < length old → get_or new i 0 ≡ get_or old i 0)
    → ((i : ℕ) → length old ≤ i → get_or new i 0 ≡ 0) → singles_of new ≡ singles_of old
more_bytes old new more same none =
    let size : 8 * length new ≡ 8 * (length new - length old) + 8 * length old = omega (arith, more) in
    rw size (no_singles new (8 * length old) (8 * (length new - length old)) (λ i past. rw (none (i / 8) (omega (arith, past)), bit_at-zero (i % 8)) refl)
    ∙ same_singles old new (8 * length old) (λ i low. rw (same (i / 8) (omega (arith, low))) refl))

-- ---- a bit as it is read
pub bit_true : (v byte p : ℕ) → v ≡ byte → IsTrue (v / 2 ^ p % 2 == 1) → bit_at byte p ≡ 1
bit_true v byte p is set = rw (← is) (bit_one (v / 2 ^ p % 2) set)

pub true_bit : (v byte p : ℕ) → v ≡ byte → bit_at byte p ≡ 1 → IsTrue (v / 2 ^ p % 2 == 1)
true_bit v byte p is one = rw is (one_bit (byte / 2 ^ p % 2) one)

abbrev zero_list : ℕ → List ℕ
zero_list d = replicate d 0

zero_at : (d i : ℕ) → get_or (zero_list d) i 0 ≡ 0
zero_at d i = elim (cases_lt i d) [
  | inl low ↦ get_or-replicate d i 0 0 low
  | inr past ↦ get_or_past (zero_list d) i 0 (omega (arith, past, length-replicate {A = ℕ} d 0))
]

zeros : (old : List ℕ) (d : ℕ) → singles_of (old ++ zero_list d) ≡ singles_of old
zeros old d = more_bytes old (old ++ zero_list d) (omega (arith, length-append old (zero_list d))) (λ i low. get_or_append_left old (zero_list d) 0 i low)
    (λ i past. get_or-append_right old (zero_list d) (length old) i 0 refl past ∙ zero_at d (i - length old))

pub resized_bytes : (ok : Bool) (old new : List ℕ) (n m : ℕ) → m ≡ length old → length old ≤ n → new ≡ (if ok then take n old ++ replicate (n - m) 0 else old) → singles_of new ≡ singles_of old
resized_bytes false old new n m size room is = rw is refl
resized_bytes true old new n m size room is = rw (is, take_all n old room) (zeros old (n - m))

-- ---- a list that the marks are appended to, place by place
next_places : (bytes : List ℕ) (n : ℕ) → singles_before bytes (n + 1) ≡ singles_before bytes n ++ cond (is_single bytes n) (single_at n ∷ []) []
next_places bytes n = let next : n + 1 ≡ suc n = omega arith in rw next refl

abbrev Bounds : Type 0
Bounds = List Bound

pub appended : (bytes : List ℕ) (n v p o : ℕ) (old now next : Bounds) (x : Bound) → v ≡ get_or bytes (n / 8) 0 → p ≡ n % 8 → o ≡ n / 8 → v / 2 ^ p % 2 ≡ 1
    → now ≡ old ++ singles_before bytes n → x ≡ bound empty p o → next ≡ now ++ x ∷ [] → next ≡ old ++ singles_before bytes (n + 1)
appended bytes n v p o old now next x was bit object one before is pushed =
    let set : is_single bytes n ≡ true = one_bit _ (rw (was, bit) at one) in
    let same : x ≡ single_at n = rw (← bit, ← object) is in
    pushed ∙ rw (before, same, next_places bytes n, set) (append_assoc old (singles_before bytes n) (single_at n ∷ []))

pub passed : (bytes : List ℕ) (n v p : ℕ) (old now : Bounds) → v ≡ get_or bytes (n / 8) 0 → p ≡ n % 8 → (v / 2 ^ p % 2 ≡ 1 → ⊥)
    → now ≡ old ++ singles_before bytes n → now ≡ old ++ singles_before bytes (n + 1)
passed bytes n v p old now was bit isnt before =
    let unset : is_single bytes n ≡ false = no_bit _ (bit_at-lt (get_or bytes (n / 8) 0) (n % 8)) (rw (was, bit) at isnt) in
    rw (next_places bytes n, unset, append-nil (singles_before bytes n)) before
