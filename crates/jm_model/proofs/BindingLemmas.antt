-- A binding that is built parameter by parameter.
use Rattle.std.proofs.Common.{◌≡◌, ◌≢◌, ℕ, zero, suc, ◌+◌, ◌*◌, ◌/◌, ◌%◌, ◌^◌, ◌<◌, ◌≤◌, List, [], ◌∷◌, ◌++◌, length, get_or, set, take, pow-suc, refl, sym, ◌∙◌, ap, arith, length-set}
use Rattle.std.specs.Prelude.{Option, Some, None, count_ones}
use Rattle.std.specs.Int.Count.{ones_step}
use Rattle.std.proofs.lemmas.List.{take_more}
use Rattle.jm_model.specs.Bindings.{object_at, objects_of, mask_of}

-- a list of places none of which is bound has no object
none_bound : (b : List (Option ℕ)) → ((k : ℕ) → object_at b k ≡ None) → objects_of b ≡ []
none_bound [] none = refl
none_bound (None ∷ b) none = none_bound b (λ k. none (suc k))
none_bound (Some o ∷ b) none = absurd (let h : Some o ≡ None = none 0 in cc)

-- an object that is bound past all others comes last
pub objects_of-set : (b : List (Option ℕ)) (p o : ℕ) → p < length b → ((k : ℕ) → p ≤ k → object_at b k ≡ None) → objects_of (set b p (Some o)) ≡ objects_of b ++ o ∷ []
objects_of-set [] p o h none = absurd (omega arith)
objects_of-set (x ∷ b) zero o h none =
    let first : x ≡ None = none 0 (omega arith) in
    let rest = none_bound b (λ k. none (suc k) (omega arith)) in
    ap (λ l. o ∷ l) rest ∙ sym (ap (λ l. l ++ o ∷ []) (ap (λ v. objects_of (v ∷ b)) first ∙ rest))
objects_of-set (None ∷ b) (suc p) o h none = objects_of-set b p o (omega arith) (λ k above. none (suc k) (omega arith))
objects_of-set (Some q ∷ b) (suc p) o h none = ap (λ l. q ∷ l) (objects_of-set b p o (omega arith) (λ k above. none (suc k) (omega arith)))

-- one bit more
pub mask_of-set : (b : List (Option ℕ)) (p o : ℕ) → p < length b → object_at b p ≡ None → mask_of (set b p (Some o)) ≡ mask_of b + 2 ^ p
mask_of-set [] p o h free = absurd (omega arith)
mask_of-set (None ∷ b) zero o h free = omega arith
mask_of-set (Some q ∷ b) zero o h free = absurd (let e : Some q ≡ None = free in cc)
mask_of-set (None ∷ b) (suc p) o h free = omega (arith, mask_of-set b p o (omega arith) free, pow-suc 2 p)
mask_of-set (Some q ∷ b) (suc p) o h free = omega (arith, mask_of-set b p o (omega arith) free, pow-suc 2 p)

-- another parameter keeps its object
pub object_at-set : (b : List (Option ℕ)) (p k o : ℕ) → k ≢ p → object_at (set b p (Some o)) k ≡ object_at b k
object_at-set [] p k o h = refl
object_at-set (x ∷ b) zero zero o h = absurd (h refl)
object_at-set (x ∷ b) zero (suc k) o h = refl
object_at-set (x ∷ b) (suc p) zero o h = refl
object_at-set (x ∷ b) (suc p) (suc k) o h = object_at-set b p k o (λ e. h (ap suc e))

-- the parameters below p are placed: the binding has those of the mask with the first objects, and the rest is to come
pub record IsPlaced (mask : ℕ) (objects : List ℕ) (b : List (Option ℕ)) (rest next p : ℕ) : Type 0 where
  pub eight : length b ≡ 8
  pub mask_so_far : mask_of b + rest * 2 ^ p ≡ mask
  pub left : next + count_ones rest ≡ length objects
  pub objects_so_far : objects_of b ≡ take next objects
  pub to_come : (k : ℕ) → p ≤ k → object_at b k ≡ None

doubled : (m rest p odd mask : ℕ) → rest % 2 ≡ odd → m + rest * 2 ^ p ≡ mask → m + odd * 2 ^ p + rest / 2 * 2 ^ (p + 1) ≡ mask
doubled m rest p odd mask is h =
    let twice : 2 ^ (p + 1) ≡ 2 ^ p * 2 = ap (λ n. 2 ^ n) add-one' ∙ pow-suc 2 p in
    let parts : rest ≡ rest / 2 * 2 + odd = omega arith in
    let product : rest * 2 ^ p ≡ rest / 2 * (2 ^ p * 2) + odd * 2 ^ p = ap (λ n. n * 2 ^ p) parts ∙ grind arith in
    omega (arith, product, ap (λ n. rest / 2 * n) twice)
  where
    add-one' : p + 1 ≡ suc p
    add-one' = omega arith

pub placed_set : (mask : ℕ) (objects : List ℕ) (b : List (Option ℕ)) (rest next p : ℕ) → p < 8 → rest % 2 ≡ 1 → IsPlaced mask objects b rest next p → IsPlaced mask objects (set b p (Some (get_or objects next 0))) (rest / 2) (next + 1) (p + 1)
placed_set mask objects b rest next p within odd h =
    let o = get_or objects next 0 in
    let inside : p < length b = omega (arith, h.eight) in
    let ones = ones_step rest in
    let there : next < length objects = omega (arith, ones, odd, h.left) in
    let mask_is = mask_of-set b p o inside (h.to_come p (omega arith)) in
    record {
      eight = length-set b p (Some o) ∙ h.eight;
      mask_so_far = let more = doubled (mask_of b) rest p 1 mask odd h.mask_so_far in omega (arith, more, mask_is);
      left = omega (arith, ones, odd, h.left);
      objects_so_far = objects_of-set b p o inside h.to_come ∙ ap (λ l. l ++ o ∷ []) h.objects_so_far ∙ sym (take_more objects next 0 there);
      to_come = λ k above. object_at-set b p k o (omega arith) ∙ h.to_come k (omega arith);
    }

pub placed_skip : (mask : ℕ) (objects : List ℕ) (b : List (Option ℕ)) (rest next p : ℕ) → rest % 2 ≢ 1 → IsPlaced mask objects b rest next p → IsPlaced mask objects b (rest / 2) next (p + 1)
placed_skip mask objects b rest next p even h =
    let clear : rest % 2 ≡ 0 = omega arith in
    record {
      eight = h.eight;
      mask_so_far = let more = doubled (mask_of b) rest p 0 mask clear h.mask_so_far in omega (arith, more);
      left = omega (arith, ones_step rest, clear, h.left);
      objects_so_far = h.objects_so_far;
      to_come = λ k above. h.to_come k (omega arith);
    }
