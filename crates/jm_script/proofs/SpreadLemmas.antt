-- Objects at the parameters of a set: what such a binding has.
use Rattle.std.proofs.Common.{◌≡◌, ℕ, zero, suc, ◌/◌, ◌<◌, ◌^◌, List, [], ◌∷◌, length, Some, None, cond, refl, ap, arith}
use Rattle.std.specs.Prelude.{count_ones}
use Rattle.std.specs.Int.Count.{ones_step}
use Rattle.std.proofs.lemmas.Nat.{ones_le_self}
use Rattle.jm_model.specs.Bindings.{mask_of, objects_of}
use Rattle.jm_model.specs.Layout.{by_lowest_bit}
use Rattle.jm_script.specs.Events.{spread}

pub length-spread : (n mask : ℕ) (objects : List ℕ) → length (spread n mask objects) ≡ n
length-spread zero mask objects = refl
length-spread (suc n) mask [] = ap suc (length-spread n (mask / 2) [])
length-spread (suc n) mask (object ∷ objects) = by_lowest_bit mask (λ v. length (cond v (Some object ∷ spread n (mask / 2) objects) (None ∷ spread n (mask / 2) (object ∷ objects))) ≡ suc n)
    (λ odd. ap suc (length-spread n (mask / 2) objects))
    (λ even. ap suc (length-spread n (mask / 2) (object ∷ objects)))

-- a set has as many parameters as there are objects, all below n
pub objects_of-spread : (n mask : ℕ) (objects : List ℕ) → mask < 2 ^ n → count_ones mask ≡ length objects → objects_of (spread n mask objects) ≡ objects
objects_of-spread zero mask [] small count = refl
objects_of-spread zero mask (object ∷ objects) small count =
    let few = ones_le_self mask in
    absurd (omega (arith, small, few, count))
objects_of-spread (suc n) mask [] small count =
    let ones = ones_step mask in
    objects_of-spread n (mask / 2) [] (omega (arith, small)) (omega (arith, ones, count))
objects_of-spread (suc n) mask (object ∷ objects) small count =
    let ones = ones_step mask in
    by_lowest_bit mask (λ v. objects_of (cond v (Some object ∷ spread n (mask / 2) objects) (None ∷ spread n (mask / 2) (object ∷ objects))) ≡ object ∷ objects)
    (λ odd. ap (λ l. object ∷ l) (objects_of-spread n (mask / 2) objects (omega (arith, small)) (omega (arith, ones, count, odd))))
    (λ even. objects_of-spread n (mask / 2) (object ∷ objects) (omega (arith, small)) (omega (arith, ones, count, even)))

pub mask_of-spread : (n mask : ℕ) (objects : List ℕ) → mask < 2 ^ n → count_ones mask ≡ length objects → mask_of (spread n mask objects) ≡ mask
mask_of-spread zero mask objects small count = omega (arith, small)
mask_of-spread (suc n) mask [] small count =
    let ones = ones_step mask in
    let rest = mask_of-spread n (mask / 2) [] (omega (arith, small)) (omega (arith, ones, count)) in
    omega (arith, ones, count, rest)
mask_of-spread (suc n) mask (object ∷ objects) small count =
    let ones = ones_step mask in
    by_lowest_bit mask (λ v. mask_of (cond v (Some object ∷ spread n (mask / 2) objects) (None ∷ spread n (mask / 2) (object ∷ objects))) ≡ mask)
    (λ odd. omega (arith, odd, mask_of-spread n (mask / 2) objects (omega (arith, small)) (omega (arith, ones, count, odd))))
    (λ even. omega (arith, even, mask_of-spread n (mask / 2) (object ∷ objects) (omega (arith, small)) (omega (arith, ones, count, even))))
