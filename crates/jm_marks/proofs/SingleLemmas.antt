-- The bindings of one parameter, and the bits that stand for them.
use Rattle.std.proofs.Common.{◌≡◌, ◌≢◌, ℕ, zero, suc, ◌+◌, ◌-◌, ◌*◌, ◌/◌, ◌%◌, ◌^◌, ◌<◌, ◌≤◌, inl, inr, Bool, true, false, cond, not, List, [], ◌∷◌, ◌++◌, Option, Some, None, length, get_or, set, replicate, pow-suc, refl, sym, ◌∙◌, ap, subst, arith}
use Rattle.std.specs.Prelude.{Contains, filter}
use Rattle.std.specs.List.{AllPairs, list_any}
use Rattle.std.specs.List.Sorted.{IsPermutation}
use Rattle.std.specs.Int.{w8, trailing_zeros}
use Rattle.std.proofs.lemmas.Bool.{cases_eq}
use Rattle.std.proofs.lemmas.List.{append-nil}
use Rattle.std.proofs.lemmas.List.Elements.{Contains-append_cases, Contains-append_left, Contains-append_right, Contains-get_or, filter-append}
use Rattle.std.proofs.lemmas.List.Quantifiers.{all_pairs_push}
use Rattle.std.proofs.lemmas.List.Sorted.{IsPermutation-append_left, IsPermutation-sym, IsPermutation-to_front}
use Rattle.std.proofs.lemmas.Nat.Bits.{bit_at-pow_other, bit_at-trailing_zeros}
use Rattle.std.proofs.lemmas.Option.{same_Some}
use Rattle.jm_model.specs.Bindings.{object_at, objects_of, mask_of, bound, empty}
use Rattle.jm_model.proofs.BindingLemmas.{mask_of-set, object_at-set, objects_of-set}
use Rattle.jm_marks.specs.Marks.{is_dead_object, has_live}
use Rattle.jm_marks.specs.Singles.{single_at, is_single, singles_before}

abbrev Bound : Type 0
Bound = List (Option ℕ)

-- ---- one parameter

unbound : (b : Bound) → mask_of b ≡ 0 → b ≡ replicate (length b) None
unbound [] none = refl
unbound (None ∷ b) none = ap (λ (v : Bound). None ∷ v) (unbound b (omega (arith, none)))
unbound (Some o ∷ b) none = absurd (omega (arith, none))

one_bound : (b : Bound) (p o : ℕ) → mask_of b ≡ 2 ^ p → object_at b p ≡ Some o → b ≡ set (replicate (length b) None) p (Some o)
one_bound [] p o mask at = cc
one_bound (None ∷ b) zero o mask at = cc
one_bound (None ∷ b) (suc p) o mask at = ap (λ (v : Bound). None ∷ v) (one_bound b p o (omega (arith, mask, pow-suc 2 p)) at)
one_bound (Some q ∷ b) zero o mask at =
    let same : Some q ≡ Some o = at in
    let rest = unbound b (omega (arith, mask)) in
    ap (λ (x : Option ℕ). x ∷ b) same ∙ ap (λ (v : Bound). Some o ∷ v) rest
one_bound (Some q ∷ b) (suc p) o mask at = absurd (omega (arith, mask, pow-suc 2 p))

pub alone : (b : Bound) (p o : ℕ) → length b ≡ 8 → mask_of b ≡ 2 ^ p → object_at b p ≡ Some o → b ≡ bound empty p o
alone b p o eight mask at = subst (λ (n : ℕ). b ≡ set (replicate n None) p (Some o)) eight (one_bound b p o mask at)

none_at : (n p : ℕ) → object_at (replicate n None) p ≡ None
none_at zero p = refl
none_at (suc n) zero = refl
none_at (suc n) (suc p) = none_at n p

object_set : (b : Bound) (p o : ℕ) → p < length b → object_at (set b p (Some o)) p ≡ Some o
object_set [] p o low = absurd (omega (arith, low))
object_set (x ∷ b) zero o low = refl
object_set (x ∷ b) (suc p) o low = object_set b p o (omega (arith, low))

pub single_object : (p o : ℕ) → p < 8 → object_at (bound empty p o) p ≡ Some o
single_object p o low = object_set empty p o low

no_more : (n : ℕ) → 0 + n ≡ n
no_more n = omega arith

pub single_mask : (p o : ℕ) → p < 8 → mask_of (bound empty p o) ≡ 2 ^ p
single_mask p o low = mask_of-set empty p o low (none_at 8 p) ∙ no_more (2 ^ p)

single_objects : (p o : ℕ) → p < 8 → objects_of (bound empty p o) ≡ o ∷ []
single_objects p o low = objects_of-set empty p o low (λ k _. none_at 8 k)

pub same_single : (p o q r : ℕ) → p < 8 → q < 8 → bound empty p o ≡ bound empty q r → (p ≡ q) × (o ≡ r)
same_single p o q r low few same = elim (cases_eq p q) [
  | inl is ↦ (is, same_Some o r (sym (single_object p o low) ∙ ap (λ (b : Bound). object_at b p) same ∙ rw is (single_object q r few)))
  | inr other ↦ absurd (let lost : Some o ≡ None = sym (single_object p o low) ∙ ap (λ (b : Bound). object_at b p) same ∙ (object_at-set empty q p r other ∙ none_at 8 p) in cc)
]

positive : (p : ℕ) → 0 < 2 ^ p
positive zero = omega arith
positive (suc p) = omega (arith, positive p, pow-suc 2 p)

next : (d p : ℕ) → suc d + p ≡ suc (d + p)
next d p = omega arith

further : (p d : ℕ) → 2 ^ p ≤ 2 ^ (d + p)
further p zero = rw (no_more p) (omega arith)
further p (suc d) = rw (next d p) (omega (arith, further p d, pow-suc 2 (d + p), positive (d + p)))

small : (p : ℕ) → p < 8 → 2 ^ p < 256
small p low =
    let seven : 7 - p + p ≡ 7 = omega (arith, low) in
    let most : 2 ^ p ≤ 2 ^ 7 = subst (λ (n : ℕ). 2 ^ p ≤ 2 ^ n) seven (further p (7 - p)) in
    omega (arith, most)

tz_single : (p : ℕ) → p < 8 → trailing_zeros w8 (2 ^ p) ≡ p
tz_single p low =
    let (less, one, rest) = bit_at-trailing_zeros w8 (2 ^ p) (positive p) (small p low) in
    elim (cases_eq (trailing_zeros w8 (2 ^ p)) p) [
      | inl is ↦ is
      | inr other ↦ absurd (omega (arith, one, bit_at-pow_other p (trailing_zeros w8 (2 ^ p)) other))
    ]

-- the mask of one parameter is the power of two that its zeros at the end tell
pub power_of_one : (b : Bound) (m p o : ℕ) → m ≡ mask_of b → p < 8 → b ≡ bound empty p o → (m ≡ 2 ^ p) × (trailing_zeros w8 m ≡ p)
power_of_one b m p o mask low is =
    let two : m ≡ 2 ^ p = mask ∙ ap mask_of is ∙ single_mask p o low in
    (two, ap (trailing_zeros w8) two ∙ tz_single p low)

pub power_some : (b : Bound) (m p o : ℕ) → m ≡ mask_of b → p < 8 → b ≡ bound empty p o → m ≡ 0 → ⊥
power_some b m p o mask low is none = let (two, zeros) = power_of_one b m p o mask low is in omega (arith, two, none, positive p)

pub power_small : (p t : ℕ) → p < 8 → t ≡ p → 2 ^ p ≡ 1 * 2 ^ t % 256
power_small p t low is = rw is (omega (arith, small p low))

pub low_zeros : (m : ℕ) → (m ≡ 0 → ⊥) → m < 256 → trailing_zeros w8 m < 8
low_zeros m some few = let (low, one, rest) = bit_at-trailing_zeros w8 m (omega (arith, some)) few in low

pub none_single : (b : Bound) (m p o : ℕ) → m ≡ mask_of b → p < 8 → b ≡ bound empty p o → object_at b (trailing_zeros w8 m) ≡ None → ⊥
none_single b m p o mask low is none =
    let (two, zeros) = power_of_one b m p o mask low is in
    let lost : Some o ≡ None = sym (single_object p o low) ∙ ap (λ (x : Bound). object_at x p) (sym is) ∙ ap (object_at b) (sym zeros) ∙ none in
    cc

-- ---- places

-- what the marks of the first n places are
pub found_single : (bytes : List ℕ) (n : ℕ) (b : Bound) → Contains (singles_before bytes n) b → (k : ℕ) × (k < n) × (is_single bytes k ≡ true) × (b ≡ single_at k)
found_single bytes zero b (k, low, e) = absurd (omega (arith, low))
found_single bytes (suc n) b h = elim (Contains-append_cases (singles_before bytes n) (cond (is_single bytes n) (single_at n ∷ []) []) b h) [
  | inl before ↦ let (k, low, is, same) = found_single bytes n b before in (k, omega (arith, low), is, same)
  | inr here ↦ at (is_single bytes n) refl here
]
  where
    at : (v : Bool) → is_single bytes n ≡ v → Contains (cond v (single_at n ∷ []) []) b → (k : ℕ) × (k < suc n) × (is_single bytes k ≡ true) × (b ≡ single_at k)
    at true is (zero, low, e) = (n, omega arith, is, sym e)
    at true is (suc k, low, e) = absurd (omega (arith, low))
    at false is (k, low, e) = absurd (omega (arith, low))

last_single : (bytes : List ℕ) (n : ℕ) → is_single bytes n ≡ true → Contains (singles_before bytes (suc n)) (single_at n)
last_single bytes n is = rw is (Contains-append_right (singles_before bytes n) (single_at n ∷ []) (single_at n) (0, omega arith, refl))

pub single_there : (bytes : List ℕ) (n k : ℕ) → k < n → is_single bytes k ≡ true → Contains (singles_before bytes n) (single_at k)
single_there bytes zero k low is = absurd (omega (arith, low))
single_there bytes (suc n) k low is = elim (cases_eq k n) [
  | inl same ↦ subst (λ (m : ℕ). Contains (singles_before bytes (suc n)) (single_at m)) (sym same) (last_single bytes n (subst (λ (m : ℕ). is_single bytes m ≡ true) same is))
  | inr other ↦ Contains-append_left (singles_before bytes n) (cond (is_single bytes n) (single_at n ∷ []) []) (single_at k) (single_there bytes n k (omega (arith, low, other)) is)
]

pub same_singles : (old new : List ℕ) (n : ℕ) → ((i : ℕ) → i < n → is_single new i ≡ is_single old i) → singles_before new n ≡ singles_before old n
same_singles old new zero same = refl
same_singles old new (suc n) same =
    rw (same n (omega arith), same_singles old new n (λ i low. same i (omega (arith, low)))) refl

-- where no bit is 1 there is no mark
pub no_singles : (bytes : List ℕ) (n d : ℕ) → ((i : ℕ) → n ≤ i → is_single bytes i ≡ false) → singles_before bytes (d + n) ≡ singles_before bytes n
no_singles bytes n zero none = rw (no_more n) refl
no_singles bytes n (suc d) none =
    rw (next d n, none (d + n) (omega arith)) (append-nil (singles_before bytes (d + n)) ∙ no_singles bytes n d none)

-- those that are kept
pub dropped_singles : (live : Bound → Bool) (old new : List ℕ) (n : ℕ)
    → ((i : ℕ) → i < n → is_single new i ≡ cond (is_single old i) (live (single_at i)) false)
    → singles_before new n ≡ filter live (singles_before old n)
dropped_singles live old new zero kept = refl
dropped_singles live old new (suc n) kept =
    rw (kept n (omega arith), dropped_singles live old new n (λ i low. kept i (omega (arith, low))))
    (at (is_single old n) (live (single_at n)) refl ∙ sym (filter-append live (singles_before old n) (cond (is_single old n) (single_at n ∷ []) [])))
  where
    at : (v w : Bool) → live (single_at n) ≡ w → filter live (singles_before old n) ++ cond (cond v w false) (single_at n ∷ []) [] ≡ filter live (singles_before old n) ++ filter live (cond v (single_at n ∷ []) [])
    at true true is = rw is refl
    at true false is = rw is refl
    at false w is = refl

-- one more
last_put : (old new : List ℕ) (n : ℕ) → is_single old n ≡ false → is_single new n ≡ true → ((i : ℕ) → i < n → is_single new i ≡ is_single old i)
    → IsPermutation (single_at n ∷ singles_before old (suc n)) (singles_before new (suc n))
last_put old new n was is same =
    rw (was, is, append-nil (singles_before old n), same_singles old new n same)
    (IsPermutation-sym (singles_before old n ++ single_at n ∷ []) (single_at n ∷ singles_before old n) (IsPermutation-to_front (singles_before old n) (single_at n)))

pub put_single : (old new : List ℕ) (n k : ℕ) → k < n → is_single old k ≡ false → is_single new k ≡ true
    → ((i : ℕ) → i ≢ k → is_single new i ≡ is_single old i) → IsPermutation (single_at k ∷ singles_before old n) (singles_before new n)
put_single old new zero k low was is same = absurd (omega (arith, low))
put_single old new (suc n) k low was is same = elim (cases_eq k n) [
  | inl here ↦ subst (λ (m : ℕ). IsPermutation (single_at m ∷ singles_before old (suc n)) (singles_before new (suc n))) (sym here)
      (last_put old new n (subst (λ (m : ℕ). is_single old m ≡ false) here was) (subst (λ (m : ℕ). is_single new m ≡ true) here is)
      (λ i less. same i (λ e. absurd (omega (arith, e, less, here)))))
  | inr other ↦ rw (same n (λ e. absurd (omega (arith, e, other))))
      (IsPermutation-append_left (cond (is_single old n) (single_at n ∷ []) []) (single_at k ∷ singles_before old n) (singles_before new n)
      (put_single old new n k (omega (arith, low, other)) was is same))
]

-- no mark stands twice
pub apart_singles : (bytes : List ℕ) (n : ℕ) → AllPairs (λ (a b : Bound). a ≢ b) (singles_before bytes n)
apart_singles bytes zero = λ i j d low high. absurd (omega (arith, high))
apart_singles bytes (suc n) = at (is_single bytes n) (apart_singles bytes n)
  where
    other : (k : ℕ) (d : Bound) → k < length (singles_before bytes n) → get_or (singles_before bytes n) k d ≢ single_at n
    other k d low same =
        let (i, less, is, e) = found_single bytes n (get_or (singles_before bytes n) k d) (Contains-get_or (singles_before bytes n) k d low) in
        let (rest, object) = same_single (i % 8) (i / 8) (n % 8) (n / 8) (omega arith) (omega arith) (sym e ∙ same) in
        absurd (omega (arith, less, rest, object))

    at : (v : Bool) → AllPairs (λ (a b : Bound). a ≢ b) (singles_before bytes n) → AllPairs (λ (a b : Bound). a ≢ b) (singles_before bytes n ++ cond v (single_at n ∷ []) [])
    at true all = all_pairs_push (λ (a b : Bound). a ≢ b) (singles_before bytes n) (single_at n) all other
    at false all = rw (append-nil (singles_before bytes n)) all

-- whether an object is alive that alone is bound
pub single_live : (dead : List Bool) (p o : ℕ) → p < 8 → has_live dead (bound empty p o) ≡ not (is_dead_object dead o)
single_live dead p o low = rw (single_objects p o low) (at (not (is_dead_object dead o)))
  where
    at : (v : Bool) → list_any (λ (x : Bool). x) (v ∷ []) ≡ v
    at true = refl
    at false = refl
