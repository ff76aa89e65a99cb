-- A binding that is placed parameter by parameter.
use Rattle.std.proofs.Common.{◌≡◌, ◌≢◌, ℕ, zero, suc, ◌+◌, ◌-◌, ◌*◌, ◌/◌, ◌%◌, ◌^◌, ◌<◌, ◌≤◌, true, false, cond, List, [], ◌∷◌, ◌++◌, length, take, drop, set, get_or, Option, Some, None, slice_get, refl, sym, ◌∙◌, ap, subst, arith, pow-suc, append_assoc, append-nil}
use Rattle.std.specs.Prelude.{◌==◌, count_ones, replicate}
use Rattle.std.specs.Int.Count.{ones_step}
use Rattle.std.proofs.lemmas.Bool.{eq-eqb, ne_eqb}
use Rattle.std.proofs.lemmas.List.{drop_more, take-append-drop}
use Rattle.jm_model.specs.Layout.{by_lowest_bit}
use Rattle.jm_model.specs.Bindings.{object_at, bound}
use Rattle.jm_history.specs.Rows.{placed_in}

-- so many parameters are placed at the front, and the others are to come
abbrev pub front : ℕ → ℕ → List (Option ℕ) → List (Option ℕ)
front n m w = take n w ++ replicate m None

-- ---- the next parameter, by the list of what is to come
front_at : (w : List (Option ℕ)) (p m : ℕ) → p ≤ length w → object_at (front p m w) p ≡ None
front_at w zero zero h = refl
front_at w zero (suc m) h = refl
front_at [] (suc p) m h = absurd (omega arith)
front_at (x ∷ w) (suc p) m h = front_at w p m (omega arith)

front_set : (w rest : List (Option ℕ)) (p m o : ℕ) → drop p w ≡ Some o ∷ rest → set (front p (suc m) w) p (Some o) ≡ front (suc p) m w
front_set [] rest zero m o e = absurd (cc)
front_set (x ∷ w) rest zero m o e =
    let here : x ≡ Some o = cc in
    ap (λ v. v ∷ replicate m None) (sym here)
front_set [] rest (suc p) m o e = absurd (cc)
front_set (x ∷ w) rest (suc p) m o e = ap (λ l. x ∷ l) (front_set w rest p m o e)

front_skip : (w rest : List (Option ℕ)) (p m : ℕ) → drop p w ≡ None ∷ rest → front p (suc m) w ≡ front (suc p) m w
front_skip [] rest zero m e = absurd (cc)
front_skip (x ∷ w) rest zero m e =
    let here : x ≡ None = cc in
    ap (λ v. v ∷ replicate m None) (sym here)
front_skip [] rest (suc p) m e = absurd (cc)
front_skip (x ∷ w) rest (suc p) m e = ap (λ l. x ∷ l) (front_skip w rest p m e)

drop_next : (w rest : List (Option ℕ)) (x : Option ℕ) (p : ℕ) → drop p w ≡ x ∷ rest → drop (suc p) w ≡ rest
drop_next [] rest x zero e = absurd (cc)
drop_next (y ∷ w) rest x zero e = cc
drop_next [] rest x (suc p) e = absurd (cc)
drop_next (y ∷ w) rest x (suc p) e = drop_next w rest x p e

-- ---- nothing is to come
pub placed_none : (n : ℕ) (os : List ℕ) → placed_in n 0 os ≡ replicate n None
unfolding placed_in
placed_none zero os = refl
placed_none (suc n) os = ap (λ l. None ∷ l) (placed_none n os)

-- ---- the steps
pub record IsPlacing (os : List ℕ) (w b : List (Option ℕ)) (rest next p : ℕ) : Type 0 where
  pub ahead : drop p w ≡ placed_in (8 - p) rest (drop next os)
  pub behind : b ≡ front p (8 - p) w
  pub enough : next + count_ones rest ≤ length os
  pub small : rest < 2 ^ (8 - p)
  pub within : p ≤ 8
  pub eight : length w ≡ 8

length-placed_in : (n mask : ℕ) (os : List ℕ) → length (placed_in n mask os) ≡ n
unfolding placed_in
length-placed_in zero mask os = refl
length-placed_in (suc n) mask os =
    by_lowest_bit mask (λ v. length (cond v (slice_get os 0 ∷ placed_in n (mask / 2) (drop 1 os)) (None ∷ placed_in n (mask / 2) os)) ≡ suc n)
    (λ odd. ap suc (length-placed_in n (mask / 2) (drop 1 os)))
    (λ even. ap suc (length-placed_in n (mask / 2) os))

placed_odd : (n mask o : ℕ) (os : List ℕ) → mask % 2 ≡ 1 → placed_in (suc n) mask (o ∷ os) ≡ Some o ∷ placed_in n (mask / 2) os
unfolding placed_in
placed_odd n mask o os odd = ap (λ v. cond v (Some o ∷ placed_in n (mask / 2) os) (None ∷ placed_in n (mask / 2) (o ∷ os))) (eq-eqb (mask % 2) 1 odd)

placed_even : (n mask : ℕ) (os : List ℕ) → mask % 2 ≢ 1 → placed_in (suc n) mask os ≡ None ∷ placed_in n (mask / 2) os
unfolding placed_in
placed_even n mask os even = ap (λ v. cond v (slice_get os 0 ∷ placed_in n (mask / 2) (drop 1 os)) (None ∷ placed_in n (mask / 2) os)) (ne_eqb (mask % 2) 1 even)

pub placing_start : (os : List ℕ) (mask start : ℕ) → start + count_ones mask ≤ length os → mask < 256 → IsPlacing os (placed_in 8 mask (drop start os)) (replicate 8 None) mask start 0
placing_start os mask start enough small = record {
  ahead = refl;
  behind = refl;
  enough = enough;
  small = small;
  within = omega arith;
  eight = length-placed_in 8 mask (drop start os);
}

-- a parameter is left while a bit is
pub placing_within : (os : List ℕ) (w b : List (Option ℕ)) (rest next p : ℕ) → IsPlacing os w b rest next p → rest ≢ 0 → p < 8
placing_within os w b rest next p h some = go (8 - p) refl h.small
  where
    go : (m : ℕ) → 8 - p ≡ m → rest < 2 ^ m → p < 8
    go zero e few = absurd (some (omega arith))
    go (suc m) e few = omega arith

pub placing_free : (os : List ℕ) (w b : List (Option ℕ)) (rest next p : ℕ) → IsPlacing os w b rest next p → object_at b p ≡ None
placing_free os w b rest next p h = ap (λ l. object_at l p) h.behind ∙ front_at w p (8 - p) (omega (arith, h.within, h.eight))

pub placing_there : (os : List ℕ) (w b : List (Option ℕ)) (rest next p : ℕ) → IsPlacing os w b rest next p → rest % 2 ≡ 1 → next < length os
placing_there os w b rest next p h odd = omega (arith, ones_step rest, odd, h.enough)

half : (rest n m : ℕ) → n ≡ m → rest < 2 ^ suc n → rest / 2 < 2 ^ m
half rest n m e few =
    let twice : rest < 2 ^ n * 2 = rw (← pow-suc 2 n) few in
    let below : rest / 2 < 2 ^ n = omega arith in
    subst (λ (k : ℕ). rest / 2 < 2 ^ k) e below

-- what lies ahead, by the lowest bit
ahead_odd : (os : List ℕ) (w b : List (Option ℕ)) (rest next p : ℕ) → IsPlacing os w b rest next p → p < 8 → rest % 2 ≡ 1
    → drop p w ≡ Some (get_or os next 0) ∷ placed_in (7 - p) (rest / 2) (drop (next + 1) os)
ahead_odd os w b rest next p h inside odd =
    let n = 7 - p in
    let more : 8 - p ≡ suc n = omega arith in
    let there = placing_there os w b rest next p h odd in
    h.ahead ∙ (λ i. placed_in (more i) rest (drop_more os next 0 there i)) ∙ placed_odd n rest (get_or os next 0) (drop (next + 1) os) odd

ahead_even : (os : List ℕ) (w b : List (Option ℕ)) (rest next p : ℕ) → IsPlacing os w b rest next p → p < 8 → rest % 2 ≢ 1
    → drop p w ≡ None ∷ placed_in (7 - p) (rest / 2) (drop next os)
ahead_even os w b rest next p h inside even =
    let n = 7 - p in
    let more : 8 - p ≡ suc n = omega arith in
    h.ahead ∙ ap (λ m. placed_in m rest (drop next os)) more ∙ placed_even n rest (drop next os) even

-- what the whole binding gives to the next parameter
here_at : (w rest : List (Option ℕ)) (x : Option ℕ) (p : ℕ) → drop p w ≡ x ∷ rest → object_at w p ≡ x
here_at [] rest x zero e = absurd (cc)
here_at (y ∷ w) rest x zero e = cc
here_at [] rest x (suc p) e = absurd (cc)
here_at (y ∷ w) rest x (suc p) e = here_at w rest x p e

pub placing_some : (os : List ℕ) (w b : List (Option ℕ)) (rest next p : ℕ) → IsPlacing os w b rest next p → p < 8 → rest % 2 ≡ 1 → object_at w p ≡ Some (get_or os next 0)
placing_some os w b rest next p h inside odd = here_at w _ _ p (ahead_odd os w b rest next p h inside odd)

pub placing_none : (os : List ℕ) (w b : List (Option ℕ)) (rest next p : ℕ) → IsPlacing os w b rest next p → p < 8 → rest % 2 ≢ 1 → object_at w p ≡ None
placing_none os w b rest next p h inside even = here_at w _ _ p (ahead_even os w b rest next p h inside even)

-- where no bit is left, no parameter to come is bound
pub placing_rest : (os : List ℕ) (w b : List (Option ℕ)) (rest next p : ℕ) → IsPlacing os w b rest next p → rest ≡ 0 → drop p w ≡ replicate (8 - p) None
placing_rest os w b rest next p h none = h.ahead ∙ ap (λ m. placed_in (8 - p) m (drop next os)) none ∙ placed_none (8 - p) (drop next os)

pub placing_set : (os : List ℕ) (w b : List (Option ℕ)) (rest next p : ℕ) → IsPlacing os w b rest next p → p < 8 → rest % 2 ≡ 1
    → IsPlacing os w (bound b p (get_or os next 0)) (rest / 2) (next + 1) (p + 1)
placing_set os w b rest next p h inside odd =
    let n = 7 - p in
    let more : 8 - p ≡ suc n = omega arith in
    let fewer : n ≡ 8 - (p + 1) = omega arith in
    let after : suc p ≡ p + 1 = omega arith in
    let o = get_or os next 0 in
    let there = placing_there os w b rest next p h odd in
    let whole = ahead_odd os w b rest next p h inside odd in
    record {
      ahead = ap (λ m. drop m w) (sym after) ∙ drop_next w (placed_in n (rest / 2) (drop (next + 1) os)) (Some o) p whole ∙ ap (λ m. placed_in m (rest / 2) (drop (next + 1) os)) fewer;
      behind = ap (λ l. set l p (Some o)) (h.behind ∙ ap (λ m. front p m w) more) ∙ front_set w (placed_in n (rest / 2) (drop (next + 1) os)) p n o whole ∙ (λ i. front (after i) (fewer i) w);
      enough = omega (arith, ones_step rest, odd, h.enough);
      small = half rest n (8 - (p + 1)) fewer (subst (λ (m : ℕ). rest < 2 ^ m) more h.small);
      within = omega arith;
      eight = h.eight;
    }

pub placing_skip : (os : List ℕ) (w b : List (Option ℕ)) (rest next p : ℕ) → IsPlacing os w b rest next p → p < 8 → rest % 2 ≢ 1
    → IsPlacing os w b (rest / 2) next (p + 1)
placing_skip os w b rest next p h inside even =
    let n = 7 - p in
    let more : 8 - p ≡ suc n = omega arith in
    let fewer : n ≡ 8 - (p + 1) = omega arith in
    let after : suc p ≡ p + 1 = omega arith in
    let whole = ahead_even os w b rest next p h inside even in
    record {
      ahead = ap (λ m. drop m w) (sym after) ∙ drop_next w (placed_in n (rest / 2) (drop next os)) None p whole ∙ ap (λ m. placed_in m (rest / 2) (drop next os)) fewer;
      behind = h.behind ∙ ap (λ m. front p m w) more ∙ front_skip w (placed_in n (rest / 2) (drop next os)) p n whole ∙ (λ i. front (after i) (fewer i) w);
      enough = omega (arith, ones_step rest, h.enough);
      small = half rest n (8 - (p + 1)) fewer (subst (λ (m : ℕ). rest < 2 ^ m) more h.small);
      within = omega arith;
      eight = h.eight;
    }

-- no bit is left, so all is placed
pub placing_end : (os : List ℕ) (w b : List (Option ℕ)) (rest next p : ℕ) → IsPlacing os w b rest next p → rest ≡ 0 → b ≡ w
placing_end os w b rest next p h none =
    h.behind
    ∙ ap (λ l. take p w ++ l) (sym (placing_rest os w b rest next p h none))
    ∙ take-append-drop p w

pub placing_same : (os : List ℕ) (w b c : List (Option ℕ)) (rest next then p : ℕ) → c ≡ b → then ≡ next → IsPlacing os w b rest next p → IsPlacing os w c rest then p
placing_same os w b c rest next then p one other h =
    subst (λ (v : List (Option ℕ)). IsPlacing os w v rest then p) (sym one)
    (subst (λ (n : ℕ). IsPlacing os w b rest n p) (sym other) h)
