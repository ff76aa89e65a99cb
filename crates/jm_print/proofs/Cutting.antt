-- Texts are cut where a byte stands that the parts before it don't have.
use Rattle.std.proofs.Common.{◌≡◌, ◌≢◌, ℕ, zero, suc, ◌<◌, ◌≤◌, ◌/◌, ◌%◌, ◌==◌, Bool, true, false, cond, List, [], ◌∷◌, ◌++◌, refl, sym, arith}
use Rattle.std.specs.Prelude.{decimal, ◌⊎◌}
use Rattle.std.specs.Fmt.{digit_glyph, digits_onto, digits}
use Rattle.std.proofs.lemmas.Bool.{lt-ltb}
use Rattle.jm_print.specs.Told.{IsName}

-- no byte of the text is d
abbrev pub Lacks : ℕ → List ℕ → Type 0
Lacks d [] = Unit {0}
Lacks d (c ∷ cs) = (c ≢ d) × Lacks d cs

-- two texts that agree up to and with the first d
pub cut : (d : ℕ) (a b s t : List ℕ) → Lacks d a → Lacks d b → a ++ d ∷ s ≡ b ++ d ∷ t → (a ≡ b) × (s ≡ t)
cut d [] [] s t h k e = (refl, cc)
cut d [] (y ∷ b) s t h k e = absurd (k.0 (sym (let i : d ≡ y = cc in i)))
cut d (x ∷ a) [] s t h k e = absurd (h.0 (let i : x ≡ d = cc in i))
cut d (x ∷ a) (y ∷ b) s t h k e =
    let head : x ≡ y = cc in
    let tail : a ++ d ∷ s ≡ b ++ d ∷ t = cc in
    let rest = cut d a b s t h.1 k.1 tail in
    ((λ j. head j ∷ rest.0 j), rest.1)

pub Lacks-append : (d : ℕ) (a b : List ℕ) → Lacks d a → Lacks d b → Lacks d (a ++ b)
Lacks-append d [] b h k = k
Lacks-append d (c ∷ a) b h k = (h.0, Lacks-append d a b h.1 k)

-- ---- what a name lacks
pub name-lacks_line_feed : (name : List ℕ) → IsName name → Lacks 10 name
name-lacks_line_feed [] h = tt
name-lacks_line_feed (c ∷ cs) h = (h.0.0, name-lacks_line_feed cs h.1)

pub name-lacks_space : (name : List ℕ) → IsName name → Lacks 32 name
name-lacks_space [] h = tt
name-lacks_space (c ∷ cs) h = (h.0.1, name-lacks_space cs h.1)

pub name-lacks_comma : (name : List ℕ) → IsName name → Lacks 44 name
name-lacks_comma [] h = tt
name-lacks_comma (c ∷ cs) h = (h.0.2, name-lacks_comma cs h.1)

pub name-lacks_equals : (name : List ℕ) → IsName name → Lacks 61 name
name-lacks_equals [] h = tt
name-lacks_equals (c ∷ cs) h = (h.0.3, name-lacks_equals cs h.1)

-- ---- what a number lacks
abbrev pub AreDigits : List ℕ → Type 0
AreDigits [] = Unit {0}
AreDigits (c ∷ cs) = (48 ≤ c) × (c < 58) × AreDigits cs

glyph-digit : (d : ℕ) (ds : List ℕ) → d < 10 → AreDigits ds → AreDigits (digit_glyph false d ∷ ds)
glyph-digit d ds small h = rw (lt-ltb d 10 small) (omega arith, omega arith, h)

-- the last digits of any number, and digits after them
onto-digits : (k n : ℕ) (ds : List ℕ) → AreDigits ds → AreDigits (digits_onto k 10 false n ds)
onto-digits zero n ds h = h
onto-digits (suc k) n ds h =
    let more = glyph-digit (n % 10) ds (omega arith) h in
    go (n / 10 == 0) _ _ more (onto-digits k (n / 10) (digit_glyph false (n % 10) ∷ ds) more)
  where
    go : (last : Bool) (ended longer : List ℕ) → AreDigits ended → AreDigits longer → AreDigits (cond last ended longer)
    go true ended longer here rest = here
    go false ended longer here rest = rest

pub decimal-digits : (n : ℕ) → AreDigits (decimal n)
unfolding digits
decimal-digits n = onto-digits 64 n [] tt

pub digits-lack : (ds : List ℕ) (d : ℕ) → (d < 48) ⊎ (58 ≤ d) → AreDigits ds → Lacks d ds
digits-lack [] d other h = tt
digits-lack (c ∷ cs) d other h = ((λ e. absurd (omega (arith, e, other))), digits-lack cs d other h.2)
