-- What a mask and eight objects stand for, place by place.
use Rattle.std.proofs.Common.{◌≡◌, ◌≢◌, ℕ, zero, suc, ◌+◌, ◌*◌, ◌/◌, ◌%◌, ◌^◌, ◌<◌, true, false, cond, List, [], ◌∷◌, length, get_or, set, drop, pow-suc, refl, sym, ◌∙◌, ap, inl, inr, arith}
use Rattle.std.specs.Prelude.{Option, Some, None, ◌==◌, ◌&&◌, bit_and, min, max, unwrap_or}
use Rattle.std.specs.Int.RustNames.{bit_or}
use Rattle.std.specs.Int.{bit_at}
use Rattle.std.specs.Option.{option_or, option_cmp}
use Rattle.std.specs.Ordering.{nat_cmp, ordering_then, ordering_index}
use Rattle.std.specs.declared.cmp.Ordering.{Ordering}
use Rattle.std.specs.declared.cmp.Ordering.TheVariants.{Less, Equal, Greater}
use mathlib.Core.Bool.{true≢false, not}
use Rattle.std.specs.Int.Bits.{and_step, or_step}
use lib.Bits.{or_zero_r}
use borrow.Author.Count.{below_more}
use Rattle.std.proofs.lemmas.Bool.{eq-eqb, ne_eqb, eqb-true, and_parts, cases_Bool}
use Rattle.std.proofs.lemmas.List.{drop_more, map-set, get_or-set_same, get_or-set_other}
use Rattle.std.proofs.lemmas.Nat.{shr-shr}
use Rattle.std.proofs.lemmas.Nat.Bits.{bit_at-suc, bit_at_and, bit_at_or, bit_at-lt}
use Rattle.jm_model.specs.Layout.{options_of, stored_of, mask_bits, by_lowest_bit, IsStored, mask_bits-stored}
use Rattle.jm_model.specs.Bindings.{object_at, keeps, agrees, is_below, is_compatible, join, restriction, mask_of, binding_cmp}

-- what stands for parameter p: its object where its bit is set
abbrev pub option_at : ℕ → ℕ → List ℕ → Option ℕ
option_at m p os = cond (bit_at m p == 1) (Some (get_or os p 0)) None

pub length-options_of : (m : ℕ) (os : List ℕ) → length (options_of m os) ≡ length os
length-options_of m [] = refl
length-options_of m (o ∷ os) = ap suc (length-options_of (m / 2) os)

-- the places from p on
abbrev pub options_from : ℕ → ℕ → List ℕ → List (Option ℕ)
options_from m p os = options_of (m / 2 ^ p) (drop p os)

pub options_from-step : (m p : ℕ) (os : List ℕ) → p < length os → options_from m p os ≡ option_at m p os ∷ options_from m (p + 1) os
options_from-step m p os h = ap (options_of (m / 2 ^ p)) (drop_more os p 0 h) ∙ ap (λ n. option_at m p os ∷ options_of n (drop (p + 1) os)) (shr-shr m p 1)

pub object_at-options_of : (m p : ℕ) (os : List ℕ) → p < length os → object_at (options_of m os) p ≡ option_at m p os
object_at-options_of m zero (o ∷ os) h = let whole : m / 2 ^ 0 ≡ m = omega arith in ap (λ n. cond (n % 2 == 1) (Some o) None) (sym whole)
object_at-options_of m (suc p) (o ∷ os) h = object_at-options_of (m / 2) p os (omega arith) ∙ ap (λ n. cond (n == 1) (Some (get_or os p 0)) None) (sym (bit_at-suc m p))
object_at-options_of m p [] h = absurd (omega arith)

-- a place whose bit is set or not
pub option_at-set : (m p : ℕ) (os : List ℕ) → bit_at m p ≡ 1 → option_at m p os ≡ Some (get_or os p 0)
option_at-set m p os h = ap (λ v. cond v (Some (get_or os p 0)) None) (eq-eqb (bit_at m p) 1 h)

pub option_at-clear : (m p : ℕ) (os : List ℕ) → bit_at m p ≢ 1 → option_at m p os ≡ None
option_at-clear m p os h = ap (λ v. cond v (Some (get_or os p 0)) None) (ne_eqb (bit_at m p) 1 h)

-- ---- below
-- where one lies below the other, so do their masks
pub is_below-masks : (m n : ℕ) (a b : List ℕ) → m < 2 ^ length a → is_below (options_of m a) (options_of n b) ≡ true → bit_and m n ≡ m
is_below-masks m n [] b h e =
    let none : m ≡ 0 = omega arith in
    ap (λ k. bit_and k n) none ∙ sym none
is_below-masks m n (x ∷ a) [] h e = absurd (cc)
is_below-masks m n (x ∷ a) (y ∷ b) h e =
    let wide : m < 2 ^ length a * 2 = rw (← pow-suc 2 (length a)) h in
    let parts = and_parts (keeps (cond (m % 2 == 1) (Some x) None) (cond (n % 2 == 1) (Some y) None)) (is_below (options_of (m / 2) a) (options_of (n / 2) b)) e in
    let rest = is_below-masks (m / 2) (n / 2) a b (omega arith) parts.1 in
    let lowest : min (m % 2) (n % 2) ≡ m % 2 = first parts.0 in
    omega (arith, and_step m n, rest, lowest)
  where
    least : n % 2 ≡ 0 → (m % 2 ≡ 1 → ⊥) → min (m % 2) (n % 2) ≡ m % 2
    least none odd = omega arith

    first : keeps (cond (m % 2 == 1) (Some x) None) (cond (n % 2 == 1) (Some y) None) ≡ true → min (m % 2) (n % 2) ≡ m % 2
    first kept = by_lowest_bit n (λ v. keeps (cond (m % 2 == 1) (Some x) None) (cond v (Some y) None) ≡ true → min (m % 2) (n % 2) ≡ m % 2) (λ one _. omega arith) (λ none k. least none (λ one. true≢false (sym k ∙ ap (λ v. keeps (cond v (Some x) None) None) (eq-eqb (m % 2) 1 one)))) kept

-- where the masks lie so, what is compatible lies below
pub is_below-compatible : (m n : ℕ) (a b : List ℕ) → bit_and m n ≡ m → is_below (options_of m a) (options_of n b) ≡ is_compatible (options_of m a) (options_of n b)
is_below-compatible m n [] [] h = refl
is_below-compatible m n [] (y ∷ b) h = refl
is_below-compatible m n (x ∷ a) [] h = refl
is_below-compatible m n (x ∷ a) (y ∷ b) h =
    let step = and_step m n in
    let rest = is_below-compatible (m / 2) (n / 2) a b (omega (arith, step, h)) in
    let bound : m % 2 ≡ 1 → n % 2 ≡ 0 → ⊥ = λ one none. omega (arith, step, h, one, none) in
    λ j. first bound j && rest j
  where
    first : (m % 2 ≡ 1 → n % 2 ≡ 0 → ⊥) → keeps (cond (m % 2 == 1) (Some x) None) (cond (n % 2 == 1) (Some y) None) ≡ agrees (cond (m % 2 == 1) (Some x) None) (cond (n % 2 == 1) (Some y) None)
    first bound =
        by_lowest_bit m (λ v. keeps (cond v (Some x) None) (cond (n % 2 == 1) (Some y) None) ≡ agrees (cond v (Some x) None) (cond (n % 2 == 1) (Some y) None))
        (λ one. by_lowest_bit n (λ v. keeps (Some x) (cond v (Some y) None) ≡ agrees (Some x) (cond v (Some y) None)) (λ _. refl) (λ none. absurd (bound one none)))
        (λ _. refl)

-- ---- compatible
pub agrees-same : (m n p : ℕ) (a b : List ℕ) → (bit_at (bit_and m n) p ≡ 1 → get_or a p 0 ≡ get_or b p 0) → agrees (option_at m p a) (option_at n p b) ≡ true
agrees-same m n p a b e =
    let both = bit_at_and m n p in
    by_lowest_bit (m / 2 ^ p) (λ v. agrees (cond v (Some (get_or a p 0)) None) (option_at n p b) ≡ true)
    (λ one. by_lowest_bit (n / 2 ^ p) (λ v. agrees (Some (get_or a p 0)) (cond v (Some (get_or b p 0)) None) ≡ true) (λ two. eq-eqb (get_or a p 0) (get_or b p 0) (e (omega (arith, both, one, two)))) (λ _. refl))
    (λ _. refl)

pub agrees-other : (m n p : ℕ) (a b : List ℕ) → bit_at (bit_and m n) p ≡ 1 → get_or a p 0 ≢ get_or b p 0 → agrees (option_at m p a) (option_at n p b) ≡ false
agrees-other m n p a b h e =
    let both = bit_at_and m n p in
    let mine : bit_at m p ≡ 1 = omega (arith, both, h, bit_at-lt m p, bit_at-lt n p) in
    let theirs : bit_at n p ≡ 1 = omega (arith, both, h, bit_at-lt m p, bit_at-lt n p) in
    (λ j. agrees (option_at-set m p a mine j) (option_at-set n p b theirs j)) ∙ ne_eqb (get_or a p 0) (get_or b p 0) e

pub is_compatible-step : (m n p : ℕ) (a b : List ℕ) → p < length a → p < length b → agrees (option_at m p a) (option_at n p b) ≡ true → is_compatible (options_from m (p + 1) a) (options_from n (p + 1) b) ≡ is_compatible (options_from m p a) (options_from n p b)
is_compatible-step m n p a b h k e = sym ((λ j. is_compatible (options_from-step m p a h j) (options_from-step n p b k j)) ∙ ap (λ v. v && is_compatible (options_from m (p + 1) a) (options_from n (p + 1) b)) e)

pub is_compatible-stop : (m n p : ℕ) (a b : List ℕ) → p < length a → p < length b → agrees (option_at m p a) (option_at n p b) ≡ false → is_compatible (options_from m p a) (options_from n p b) ≡ false
is_compatible-stop m n p a b h k e = (λ j. is_compatible (options_from-step m p a h j) (options_from-step n p b k j)) ∙ ap (λ v. v && is_compatible (options_from m (p + 1) a) (options_from n (p + 1) b)) e

-- ---- the order
pub binding_cmp-step : (m n p : ℕ) (a b : List ℕ) → p < length a → p < length b → option_cmp nat_cmp (option_at m p a) (option_at n p b) ≡ Equal → binding_cmp (options_from m (p + 1) a) (options_from n (p + 1) b) ≡ binding_cmp (options_from m p a) (options_from n p b)
binding_cmp-step m n p a b h k e = sym ((λ j. binding_cmp (options_from-step m p a h j) (options_from-step n p b k j)) ∙ ap (λ o. ordering_then o (binding_cmp (options_from m (p + 1) a) (options_from n (p + 1) b))) e)

-- an order that isn't told from `Equal` is `Equal`
pub is_equal : (o : Ordering) → not (ordering_index o == 1) ≡ false → o ≡ Equal
is_equal Less e = absurd (true≢false e)
is_equal Equal e = refl
is_equal Greater e = absurd (true≢false e)

-- ---- memory is 0 where a parameter isn't bound
pub unbound-zero : (m : ℕ) (os : List ℕ) → stored_of (options_of m os) ≡ os → (p : ℕ) → bit_at m p ≢ 1 → p < length os → get_or os p 0 ≡ 0
unbound-zero m [] e p clear within = absurd (omega arith)
unbound-zero m (o ∷ os) e zero clear within =
    let whole : m / 2 ^ 0 ≡ m = omega arith in
    let off : (m % 2 == 1) ≡ false = ne_eqb (m % 2) 1 (λ odd. clear (ap (λ k. k % 2) whole ∙ odd)) in
    let first : unwrap_or (cond (m % 2 == 1) (Some o) None) 0 ≡ o = cc in
    sym first ∙ ap (λ v. unwrap_or (cond v (Some o) None) 0) off
unbound-zero m (o ∷ os) e (suc p) clear within =
    let rest : stored_of (options_of (m / 2) os) ≡ os = cc in
    unbound-zero (m / 2) os rest p (λ odd. clear (bit_at-suc m p ∙ odd)) (omega arith)

pub unbound-from : (m : ℕ) (os : List ℕ) → ((p : ℕ) → bit_at m p ≢ 1 → p < length os → get_or os p 0 ≡ 0) → stored_of (options_of m os) ≡ os
unbound-from m [] zeros = refl
unbound-from m (o ∷ os) zeros =
    let whole : m / 2 ^ 0 ≡ m = omega arith in
    let first : unwrap_or (cond (m % 2 == 1) (Some o) None) 0 ≡ o =
    by_lowest_bit m (λ v. unwrap_or (cond v (Some o) None) 0 ≡ o) (λ _. refl) (λ even. sym (zeros 0 (λ odd. absurd (omega (arith, odd, even, whole))) (omega arith))) in
    let rest = unbound-from (m / 2) os (λ p clear within. zeros (suc p) (λ odd. clear (sym (bit_at-suc m p) ∙ odd)) (omega arith)) in
    λ j. first j ∷ rest j

-- ---- the union
union_of_places : (m n x y o both : ℕ) → both % 2 ≡ max (m % 2) (n % 2) → o ≡ cond (m % 2 == 1) x y
    → cond (both % 2 == 1) (Some o) None ≡ option_or (cond (m % 2 == 1) (Some x) None) (cond (n % 2 == 1) (Some y) None)
union_of_places m n x y o both most here = by_lowest_bit m (λ v. o ≡ cond v x y → cond (both % 2 == 1) (Some o) None ≡ option_or (cond v (Some x) None) (cond (n % 2 == 1) (Some y) None)) mine theirs here
  where
    mine : m % 2 ≡ 1 → o ≡ x → cond (both % 2 == 1) (Some o) None ≡ Some x
    mine odd is = let set : both % 2 ≡ 1 = omega arith in ap (λ v. cond v (Some o) None) (eq-eqb (both % 2) 1 set) ∙ ap (λ q. Some q) is

    theirs : m % 2 ≡ 0 → o ≡ y → cond (both % 2 == 1) (Some o) None ≡ cond (n % 2 == 1) (Some y) None
    theirs even is = let same : both % 2 ≡ n % 2 = omega arith in λ j. cond (same j == 1) (Some (is j)) None

pub join-options : (m n : ℕ) (a b os : List ℕ) → length a ≡ length os → length b ≡ length os
    → ((p : ℕ) → p < length os → get_or os p 0 ≡ cond (bit_at m p == 1) (get_or a p 0) (get_or b p 0)) → options_of (bit_or m n) os ≡ join (options_of m a) (options_of n b)
join-options m n [] [] [] h k at = refl
join-options m n (x ∷ a) (y ∷ b) (o ∷ os) h k at =
    let whole : m / 2 ^ 0 ≡ m = omega arith in
    let step = or_step m n in
    let half : bit_or m n / 2 ≡ bit_or (m / 2) (n / 2) = omega (arith, step) in
    let rest = join-options (m / 2) (n / 2) a b os (omega arith) (omega arith) (λ p within. at (suc p) (omega arith) ∙ ap (λ v. cond (v == 1) (get_or a p 0) (get_or b p 0)) (bit_at-suc m p)) in
    let here : o ≡ cond (m % 2 == 1) x y = at 0 (omega arith) ∙ ap (λ v. cond (v % 2 == 1) x y) whole in
    let most : bit_or m n % 2 ≡ max (m % 2) (n % 2) = omega (arith, step) in
    λ j. union_of_places m n x y o (bit_or m n) most here j ∷ (ap (λ v. options_of v os) half ∙ rest) j
join-options m n [] b (o ∷ os) h k at = absurd (omega arith)
join-options m n (x ∷ a) [] (o ∷ os) h k at = absurd (omega arith)
join-options m n (x ∷ a) b [] h k at = absurd (omega arith)
join-options m n [] (y ∷ b) [] h k at = absurd (omega arith)

pub join-unbound : (m n : ℕ) (a b os : List ℕ) → length b ≡ length os → stored_of (options_of n b) ≡ b
    → ((p : ℕ) → p < length os → get_or os p 0 ≡ cond (bit_at m p == 1) (get_or a p 0) (get_or b p 0)) → stored_of (options_of (bit_or m n) os) ≡ os
join-unbound m n a b os long stored at =
    unbound-from (bit_or m n) os (λ p clear within.
    let both = bit_at_or m n p in
    let mine : bit_at m p ≢ 1 = λ odd. clear (omega (arith, both, odd, bit_at-lt n p)) in
    let theirs : bit_at n p ≢ 1 = λ odd. clear (omega (arith, both, odd, bit_at-lt m p)) in
    at p within ∙ ap (λ v. cond v (get_or a p 0) (get_or b p 0)) (ne_eqb (bit_at m p) 1 mine) ∙ unbound-zero n b stored p theirs (omega arith))

-- ---- the parameters of a mask
restriction_of_place : (m k x o both : ℕ) → both % 2 ≡ min (m % 2) (k % 2) → o ≡ cond (k % 2 == 1) x 0
    → cond (both % 2 == 1) (Some o) None ≡ cond (k % 2 == 1) (cond (m % 2 == 1) (Some x) None) None
restriction_of_place m k x o both least here = by_lowest_bit k (λ v. o ≡ cond v x 0 → cond (both % 2 == 1) (Some o) None ≡ cond v (cond (m % 2 == 1) (Some x) None) None) kept gone here
  where
    kept : k % 2 ≡ 1 → o ≡ x → cond (both % 2 == 1) (Some o) None ≡ cond (m % 2 == 1) (Some x) None
    kept odd is = let same : both % 2 ≡ m % 2 = omega arith in λ j. cond (same j == 1) (Some (is j)) None

    gone : k % 2 ≡ 0 → o ≡ 0 → cond (both % 2 == 1) (Some o) None ≡ None
    gone even is = let clear : both % 2 ≡ 0 = omega arith in ap (λ v. cond (v == 1) (Some o) None) clear

pub restriction-options : (m k : ℕ) (a os : List ℕ) → length a ≡ length os → ((p : ℕ) → p < length os → get_or os p 0 ≡ cond (bit_at k p == 1) (get_or a p 0) 0)
    → options_of (bit_and m k) os ≡ restriction (options_of m a) k
restriction-options m k [] [] h at = refl
restriction-options m k (x ∷ a) (o ∷ os) h at =
    let whole : k / 2 ^ 0 ≡ k = omega arith in
    let step = and_step m k in
    let half : bit_and m k / 2 ≡ bit_and (m / 2) (k / 2) = omega (arith, step) in
    let least : bit_and m k % 2 ≡ min (m % 2) (k % 2) = omega (arith, step) in
    let rest = restriction-options (m / 2) (k / 2) a os (omega arith) (λ p within. at (suc p) (omega arith) ∙ ap (λ v. cond (v == 1) (get_or a p 0) 0) (bit_at-suc k p)) in
    let here : o ≡ cond (k % 2 == 1) x 0 = at 0 (omega arith) ∙ ap (λ v. cond (v % 2 == 1) x 0) whole in
    λ j. restriction_of_place m k x o (bit_and m k) least here j ∷ (ap (λ v. options_of v os) half ∙ rest) j
restriction-options m k [] (o ∷ os) h at = absurd (omega arith)
restriction-options m k (x ∷ a) [] h at = absurd (omega arith)

pub restriction-unbound : (m k : ℕ) (a os : List ℕ) → length a ≡ length os → stored_of (options_of m a) ≡ a
    → ((p : ℕ) → p < length os → get_or os p 0 ≡ cond (bit_at k p == 1) (get_or a p 0) 0) → stored_of (options_of (bit_and m k) os) ≡ os
restriction-unbound m k a os long stored at =
    unbound-from (bit_and m k) os (λ p clear within.
    elim (cases_Bool (bit_at k p == 1)) [
      | inl one ↦
          let kept : bit_at k p ≡ 1 = eqb-true (bit_at k p) 1 one in
          let mine : bit_at m p ≢ 1 = λ odd. clear (omega (arith, bit_at_and m k p, odd, kept)) in
          at p within ∙ ap (λ v. cond v (get_or a p 0) 0) one ∙ unbound-zero m a stored p mine (omega arith)
      | inr none ↦ at p within ∙ ap (λ v. cond v (get_or a p 0) 0) none
    ])

-- ---- one pair more
pub options_of-set : (m p o : ℕ) (os : List ℕ) → p < length os → options_of (bit_or m (2 ^ p)) (set os p o) ≡ set (options_of m os) p (Some o)
options_of-set m p o [] h = absurd (omega arith)
options_of-set m zero o (q ∷ os) h =
    let step = or_step m 1 in
    let half : bit_or m 1 / 2 ≡ m / 2 = omega (arith, step, or_zero_r (m / 2)) in
    let odd : bit_or m 1 % 2 ≡ 1 = omega (arith, step) in
    λ j. cond (eq-eqb (bit_or m 1 % 2) 1 odd j) (Some o) None ∷ options_of (half j) os
options_of-set m (suc p) o (q ∷ os) h =
    let step = or_step m (2 ^ suc p) in
    let twice = pow-suc 2 p in
    let power : 2 ^ suc p / 2 ≡ 2 ^ p = omega (arith, twice) in
    let even : 2 ^ suc p % 2 ≡ 0 = omega (arith, twice) in
    let half : bit_or m (2 ^ suc p) / 2 ≡ bit_or (m / 2) (2 ^ suc p / 2) = omega (arith, step) in
    let lowest : bit_or m (2 ^ suc p) % 2 ≡ m % 2 = omega (arith, step, even) in
    let rest = ap (λ v. options_of v (set os p o)) (half ∙ ap (bit_or (m / 2)) power) ∙ options_of-set (m / 2) p o os (omega arith) in
    λ j. cond (lowest j == 1) (Some q) None ∷ rest j

pub set-unbound : (m p o : ℕ) (os : List ℕ) → p < length os → stored_of (options_of m os) ≡ os → stored_of (options_of (bit_or m (2 ^ p)) (set os p o)) ≡ set os p o
set-unbound m p o os h stored = ap stored_of (options_of-set m p o os h) ∙ map-set (λ x. unwrap_or x 0) (options_of m os) p (Some o) ∙ ap (λ l. set l p o) stored

-- ---- the mask
pub mask_of-bits : (b : List (Option ℕ)) → mask_of b ≡ mask_bits b
mask_of-bits [] = refl
mask_of-bits (None ∷ b) = ap (λ n. 2 * n) (mask_of-bits b)
mask_of-bits (Some o ∷ b) = ap (λ n. 1 + 2 * n) (mask_of-bits b)

pub mask_of-stored : (m : ℕ) (os : List ℕ) → IsStored m os → mask_of (options_of m os) ≡ m
mask_of-stored m os h = mask_of-bits (options_of m os) ∙ mask_bits-stored m os h

-- ---- steps of the loops over the places
pub half_more : (rest m p : ℕ) → rest ≡ m / 2 ^ p → rest / 2 ≡ m / 2 ^ (p + 1)
half_more rest m p h = ap (λ n. n / 2) h ∙ shr-shr m p 1

-- a list written from the front has one place more
pub below_set : (f : ℕ → ℕ) (os : List ℕ) (p o : ℕ) → p < length os → ((k : ℕ) → k < p → get_or os k 0 ≡ f k) → o ≡ f p → (k : ℕ) → k < p + 1 → get_or (set os p o) k 0 ≡ f k
below_set f os p o within before here =
    below_more (λ k. get_or (set os p o) k 0 ≡ f k) p
    (λ k h. let other : k ≢ p = omega arith in get_or-set_other os p k o 0 other ∙ before k h)
    (get_or-set_same os p o 0 within ∙ here)

-- the fields of a stored binding, by what it stands for
pub mask_bits-view : (mask : ℕ) (os : List ℕ) (b : List (Option ℕ)) → options_of mask os ≡ b → IsStored mask os → mask_bits b ≡ mask
mask_bits-view mask os b e h = rw (← e) (mask_bits-stored mask os h)

pub stored_of-view : (mask : ℕ) (os : List ℕ) (b : List (Option ℕ)) → options_of mask os ≡ b → IsStored mask os → stored_of b ≡ os
stored_of-view mask os b e h = rw (← e) h.unbound
