-- No two handlers have one name.
use Rattle.std.proofs.Common.{◌≡◌, ◌≢◌, ◌⊎◌, inl, inr, ℕ, zero, suc, ◌+◌, ◌<◌, ◌≤◌, ◌/◌, ◌%◌, ◌==◌, Bool, true, false, cond, List, [], ◌∷◌, ◌++◌, Some, map, length, slice_get, refl, sym, ◌∙◌, ap, arith}
use Rattle.std.specs.Prelude.{decimal}
use Rattle.std.specs.Fmt.{digit_glyph, digits_onto, digits}
use Rattle.std.proofs.lemmas.Bool.{lt-ltb}
use Rattle.std.proofs.lemmas.Fmt.{decimal_injective}
use Rattle.std.proofs.lemmas.Option.{same_Some, none-some}
use Rattle.jm_machine.specs.HandlerNames.{numbered, numbered_from, names_for, AreDistinct, AreEachDistinct}

-- ---- a text up to its first dot

abbrev pub Lacks : ℕ → List ℕ → Type 0
Lacks d [] = Unit {0}
Lacks d (c ∷ cs) = (c ≢ d) × Lacks d cs

cut : (d : ℕ) (a b s t : List ℕ) → Lacks d a → Lacks d b → a ++ d ∷ s ≡ b ++ d ∷ t → (a ≡ b) × (s ≡ t)
cut d [] [] s t h k e = (refl, cc)
cut d [] (y ∷ b) s t h k e = absurd (k.0 (sym (let i : d ≡ y = cc in i)))
cut d (x ∷ a) [] s t h k e = absurd (h.0 (let i : x ≡ d = cc in i))
cut d (x ∷ a) (y ∷ b) s t h k e =
    let head : x ≡ y = cc in
    let tail : a ++ d ∷ s ≡ b ++ d ∷ t = cc in
    let rest = cut d a b s t h.1 k.1 tail in
    ((λ j. head j ∷ rest.0 j), rest.1)

abbrev AreDigits : List ℕ → Type 0
AreDigits [] = Unit {0}
AreDigits (c ∷ cs) = (48 ≤ c) × (c < 58) × AreDigits cs

glyph : (d : ℕ) (ds : List ℕ) → d < 10 → AreDigits ds → AreDigits (digit_glyph false d ∷ ds)
glyph d ds small h = rw (lt-ltb d 10 small) (omega arith, omega arith, h)

onto : (k n : ℕ) (ds : List ℕ) → AreDigits ds → AreDigits (digits_onto k 10 false n ds)
onto zero n ds h = h
onto (suc k) n ds h =
    let more = glyph (n % 10) ds (omega arith) h in
    go (n / 10 == 0) _ _ more (onto k (n / 10) (digit_glyph false (n % 10) ∷ ds) more)
  where
    go : (last : Bool) (ended longer : List ℕ) → AreDigits ended → AreDigits longer → AreDigits (cond last ended longer)
    go true ended longer here rest = here
    go false ended longer here rest = rest

decimal_digits : (n : ℕ) → AreDigits (decimal n)
unfolding digits
decimal_digits n = onto 64 n [] tt

dotless : (ds : List ℕ) → AreDigits ds → Lacks 46 ds
dotless [] h = tt
dotless (c ∷ cs) h = ((λ e. absurd (omega (arith, e, h.0))), dotless cs h.2)

pub same_numbered : (i j : ℕ) (x y : List ℕ) → i < 16 → j < 16 → numbered i x ≡ numbered j y → (i ≡ j) × (x ≡ y)
same_numbered i j x y few less e =
    let parts = cut 46 (decimal (i + 1)) (decimal (j + 1)) x y (dotless (decimal (i + 1)) (decimal_digits (i + 1))) (dotless (decimal (j + 1)) (decimal_digits (j + 1))) e in
    let same = decimal_injective (i + 1) (j + 1) (omega (arith, few)) (omega (arith, less)) parts.0 in
    (omega (arith, same), parts.1)

-- ---- lists of names

-- what stands in two lists, one after the other
in_both : {X : Type 0} (xs ys : List X) (k : ℕ) (x : X) → slice_get (xs ++ ys) k ≡ Some x → (slice_get xs k ≡ Some x) ⊎ ((i : ℕ) × (k ≡ length xs + i) × (slice_get ys i ≡ Some x))
in_both [] ys k x at = inr (k, omega arith, at)
in_both (z ∷ xs) ys zero x at = inl at
in_both (z ∷ xs) ys (suc k) x at =
    elim (in_both xs ys k x at) [ inl here ↦ inl here | inr there ↦ inr (there.0, omega (arith, there.1), there.2) ]

mapped_at : (j : ℕ) (cs : List (List ℕ)) (k : ℕ) (name : List ℕ) → slice_get (map (numbered j) cs) k ≡ Some name → (c : List ℕ) × (slice_get cs k ≡ Some c) × (name ≡ numbered j c)
mapped_at j [] k name at = absurd (none-some name at)
mapped_at j (c ∷ cs) zero name at = (c, refl, sym (same_Some (numbered j c) name at))
mapped_at j (c ∷ cs) (suc k) name at = mapped_at j cs k name at

-- a name from property j on has a number from j on
later : (all : List (List (List ℕ))) (j k : ℕ) (name : List ℕ) → slice_get (numbered_from j all) k ≡ Some name → (i : ℕ) × (c : List ℕ) × (j ≤ i) × (i < j + length all) × (name ≡ numbered i c)
later [] j k name at = absurd (none-some name at)
later (cs ∷ rest) j k name at =
    elim (in_both (map (numbered j) cs) (numbered_from (j + 1) rest) k name at) [
      | inl here ↦ let c = mapped_at j cs k name here in (j, c.0, omega arith, omega arith, c.2)
      | inr there ↦ let l = later rest (j + 1) there.0 name there.2 in (l.0, l.1, omega (arith, l.2), omega (arith, l.3), l.4)
    ]

pub numbered_distinct : (all : List (List (List ℕ))) (j : ℕ) → j + length all ≤ 16 → AreEachDistinct all → AreDistinct (numbered_from j all)
numbered_distinct [] j few each a b name at there = absurd (none-some name at)
numbered_distinct (cs ∷ rest) j few each a b name at there =
    let own = map (numbered j) cs in
    let others = numbered_from (j + 1) rest in
    let less : j < 16 = omega (arith, few) in
    let more = numbered_distinct rest (j + 1) (omega (arith, few)) each.1 in
    elim (in_both own others a name at) [
      | inl x ↦ elim (in_both own others b name there) [
        | inl y ↦
            let c = mapped_at j cs a name x in
            let d = mapped_at j cs b name y in
            let same = (same_numbered j j c.0 d.0 less less (sym c.2 ∙ d.2)).1 in
            each.0 a b d.0 (c.1 ∙ ap (λ (z : List ℕ). Some z) same) d.1
        | inr y ↦ absurd (apart x y.0 y.2)
      ]
      | inr x ↦ elim (in_both own others b name there) [
        | inl y ↦ absurd (apart_other y x.0 x.2)
        | inr y ↦ omega (arith, x.1, y.1, more x.0 y.0 name x.2 y.2)
      ]
    ]
  where
    apart : slice_get (map (numbered j) cs) a ≡ Some name → (i : ℕ) → slice_get (numbered_from (j + 1) rest) i ≡ Some name → ⊥
    apart x i y =
        let c = mapped_at j cs a name x in
        let l = later rest (j + 1) i name y in
        let same = same_numbered j l.0 c.0 l.1 (omega (arith, few)) (omega (arith, l.3, few)) (sym c.2 ∙ l.4) in
        absurd (omega (arith, same.0, l.2))

    apart_other : slice_get (map (numbered j) cs) b ≡ Some name → (i : ℕ) → slice_get (numbered_from (j + 1) rest) i ≡ Some name → ⊥
    apart_other x i y =
        let c = mapped_at j cs b name x in
        let l = later rest (j + 1) i name y in
        let same = same_numbered j l.0 c.0 l.1 (omega (arith, few)) (omega (arith, l.3, few)) (sym c.2 ∙ l.4) in
        absurd (omega (arith, same.0, l.2))

pub names_distinct : (all : List (List (List ℕ))) → length all ≤ 16 → AreEachDistinct all → AreDistinct (names_for all)
names_distinct [] few each = numbered_distinct [] 0 (omega arith) tt
names_distinct (cs ∷ []) few each = each.0
names_distinct (cs ∷ ds ∷ rest) few each = numbered_distinct (cs ∷ ds ∷ rest) 0 (omega (arith, few)) each
