use Rattle.std.proofs.Common.{ℕ, ◌≡◌, ◌≢◌, ◌||◌, Bool, true, false, inl, inr, ◌⊎◌, List, [], ◌∷◌, ◌++◌, refl, sym, ap, subst, ◌∙◌, append_assoc, append-nil, if◌then◌else◌}
use Rattle.std.specs.List.{AllByRecursion}
use Rattle.std.specs.declared.cmp.Ordering.{Ordering}
use Rattle.std.specs.declared.cmp.Ordering.TheVariants.{Less, Equal, Greater}
use Rattle.jm_ere.specs.declared.tree.Operator.{Operator}
use Rattle.jm_ere.specs.declared.tree.Operator.TheVariants.{Or, And}
use Rattle.jm_ere.specs.Expressions.{Expression, EmptyWord, NoWord, Complement, Star, Product, Combination}
use Rattle.jm_ere.specs.Meanings.{InLanguage, IsChain, joined}
use Rattle.jm_ere.specs.NormalForms.{order, by_order, is_nothing, is_everything, is_unit, is_zero, complement_of, star_of, before, product_of, put, join, combined}
use Rattle.jm_ere.proofs.OrderLemmas.{order_tells}
use Rattle.jm_ere.proofs.LanguageLemmas.{Same, itself, through, chain_of_chains, chain_empty, decide}

-- ---- each rule keeps the language

-- `~~r` is `r`
pub complement_keeps : (r : Expression) → Same (InLanguage (complement_of r)) (InLanguage (Complement r))
complement_keeps (Complement r) w = (λ h k. k h, λ h. elim (decide w r) [ inl here ↦ here | inr none ↦ absurd (h none) ])
complement_keeps r w = (λ h. h, λ h. h)

none_first : (w : List ℕ) (words : List (List ℕ)) → AllByRecursion (λ u. (u ≢ []) × InLanguage NoWord u) words → w ≡ joined words → w ≡ []
none_first w [] all e = e
none_first w (u ∷ words) all e = absurd all.0.1

empty_first : (w : List ℕ) (words : List (List ℕ)) → AllByRecursion (λ u. (u ≢ []) × InLanguage EmptyWord u) words → w ≡ joined words → w ≡ []
empty_first w [] all e = e
empty_first w (u ∷ words) all e = absurd (all.0.0 all.0.1)

chain_of_empty : (w : List ℕ) → IsChain (InLanguage EmptyWord) w → w ≡ []
chain_of_empty w h = empty_first w h.0 h.1 h.2

chain_of_none : (w : List ℕ) → IsChain (InLanguage NoWord) w → w ≡ []
chain_of_none w h = none_first w h.0 h.1 h.2

-- `empty*` and `epsilon*` are `epsilon`, and `r**` is `r*`
pub star_keeps : (r : Expression) → Same (InLanguage (star_of r)) (InLanguage (Star r))
star_keeps NoWord w = (λ e. subst (IsChain (InLanguage NoWord)) (sym e) (chain_empty (InLanguage NoWord)), chain_of_none w)
star_keeps EmptyWord w = (λ e. subst (IsChain (InLanguage EmptyWord)) (sym e) (chain_empty (InLanguage EmptyWord)), chain_of_empty w)
star_keeps (Star r) w = let same = chain_of_chains (InLanguage r) w in (same.1, same.0)
star_keeps r w = (λ h. h, λ h. h)

-- juxtapositions are nested to the right
pub before_keeps : (r s : Expression) → Same (InLanguage (before r s)) (InLanguage (Product r s))
before_keeps NoWord s w = (λ h. absurd h, λ h. absurd h.3)
before_keeps EmptyWord s w = (λ h. ([], w, refl, refl, h), λ h. subst (InLanguage s) (ap (λ f. f ++ h.1) (sym h.3) ∙ sym h.2) h.4)
before_keeps (Product p q) s w = (
  λ h. let k = (before_keeps q s h.1).0 h.4 in
      (h.0 ++ k.0, k.1, h.2 ∙ ap (λ v. h.0 ++ v) k.2 ∙ sym (append_assoc h.0 k.0 k.1), (h.0, k.0, refl, h.3, k.3), k.4),
  λ h. let front = h.3 in
      (front.0, front.1 ++ h.1, h.2 ∙ ap (λ v. v ++ h.1) front.2 ∙ append_assoc front.0 front.1 h.1, front.3, (before_keeps q s (front.1 ++ h.1)).1 (front.1, h.1, refl, front.4, h.4)),
)
before_keeps r s w = (λ h. h, λ h. h)

-- `epsilon` is dropped, and with `empty` in it the whole is `empty`
pub product_keeps : (r s : Expression) → Same (InLanguage (product_of r s)) (InLanguage (Product r s))
product_keeps r NoWord w = (λ h. absurd h, λ h. absurd h.4)
product_keeps r EmptyWord w = (
  λ h. (w, [], sym (append-nil w), h, refl),
  λ h. subst (InLanguage r) (sym (h.2 ∙ ap (λ b. h.0 ++ b) h.4 ∙ append-nil h.0)) h.3,
)
product_keeps r s w = before_keeps r s w

-- ---- runs

nothing_is : (t : Expression) → is_nothing t ≡ true → t ≡ NoWord
nothing_is NoWord e = refl
nothing_is t e = cc

everything_is : (t : Expression) → is_everything t ≡ true → t ≡ Complement NoWord
everything_is (Complement r) e = ap Complement (nothing_is r e)
everything_is t e = cc

none_in : (t : Expression) (w : List ℕ) → is_nothing t ≡ true → InLanguage t w → ⊥
none_in t w e h = let i = nothing_is t e in subst (λ r. InLanguage r w) i h

all_in : (t : Expression) (w : List ℕ) → is_everything t ≡ true → InLanguage t w
all_in t w e = let i = everything_is t e in subst (λ r. InLanguage r w) (sym i) (λ h. h)

or_true : (a b : Bool) → (a || b) ≡ true → (a ≡ true) ⊎ (b ≡ true)
or_true true b e = inl refl
or_true false b e = inr e

-- A choice of the rules: a test, and what holds in both cases.
if_keeps : (b : Bool) (r s : Expression) (L : List ℕ → Type 0) → (b ≡ true → Same (InLanguage r) L) → (b ≡ false → Same (InLanguage s) L) → Same (InLanguage (if b then r else s)) L
if_keeps true r s L then_keeps else_keeps = then_keeps refl
if_keeps false r s L then_keeps else_keeps = else_keeps refl

-- expressions of the same words
abbrev pub Alike : Expression → Expression → Type 0
Alike r s = Same (InLanguage r) (InLanguage s)

-- what both operators have in common
swap : (op : Operator) (r s : Expression) → Alike (Combination op r s) (Combination op s r)
swap Or r s w = (elim [ inl h ↦ inr h | inr h ↦ inl h ], elim [ inl h ↦ inr h | inr h ↦ inl h ])
swap And r s w = (λ h. (h.1, h.0), λ h. (h.1, h.0))

twice : (op : Operator) (r : Expression) → Alike r (Combination op r r)
twice Or r w = (λ h. inl h, elim [ inl h ↦ h | inr h ↦ h ])
twice And r w = (λ h. (h, h), λ h. h.0)

again : (op : Operator) (r s : Expression) → Alike (Combination op r s) (Combination op r (Combination op r s))
again Or r s w = (λ h. inr h, elim [ inl h ↦ inl h | inr h ↦ h ])
again And r s w = (λ h. (h.0, h), λ h. h.1)

turn : (op : Operator) (t r s : Expression) → Alike (Combination op r (Combination op t s)) (Combination op t (Combination op r s))
turn Or t r s w = (
  elim [ inl h ↦ inr (inl h) | inr h ↦ elim h [ inl k ↦ inl k | inr k ↦ inr (inr k) ] ],
  elim [ inl h ↦ inr (inl h) | inr h ↦ elim h [ inl k ↦ inl k | inr k ↦ inr (inr k) ] ],
)
turn And t r s w = (λ h. (h.1.0, (h.0, h.1.1)), λ h. (h.1.0, (h.0, h.1.1)))

flat : (op : Operator) (p q s : Expression) → Alike (Combination op q (Combination op p s)) (Combination op (Combination op p q) s)
flat Or p q s w = (
  elim [ inl h ↦ inl (inr h) | inr h ↦ elim h [ inl k ↦ inl (inl k) | inr k ↦ inr k ] ],
  elim [ inl h ↦ elim h [ inl k ↦ inr (inl k) | inr k ↦ inl k ] | inr h ↦ inr (inr h) ],
)
flat And p q s w = (λ h. ((h.1.0, h.0), h.1.1), λ h. (h.0.1, (h.0.0, h.1)))

pub combination_keeps : (op : Operator) (r s p q : Expression) → Alike r p → Alike s q → Alike (Combination op r s) (Combination op p q)
combination_keeps Or r s p q f g w = (elim [ inl h ↦ inl ((f w).0 h) | inr h ↦ inr ((g w).0 h) ], elim [ inl h ↦ inl ((f w).1 h) | inr h ↦ inr ((g w).1 h) ])
combination_keeps And r s p q f g w = (λ h. ((f w).0 h.0, (g w).0 h.1), λ h. ((f w).1 h.0, (g w).1 h.1))

unit_drops : (op : Operator) (t r : Expression) → is_unit op t ≡ true → Alike r (Combination op t r)
unit_drops Or t r e w = (λ h. inr h, elim [ inl h ↦ absurd (none_in t w e h) | inr h ↦ h ])
unit_drops And t r e w = (λ h. (all_in t w e, h), λ h. h.1)

zero_takes : (op : Operator) (t r : Expression) → is_zero op t ≡ true → Alike t (Combination op t r)
zero_takes Or t r e w = (λ h. inl h, λ _. all_in t w e)
zero_takes And t r e w = (λ h. absurd (none_in t w e h), λ h. h.0)

-- one member put into a run, where it stands in the order
placed_keeps : (op : Operator) (o : Ordering) (t r run rest : Expression) → (o ≡ Equal → t ≡ r) → Alike run (Combination op r run) → Alike (Combination op r rest) (Combination op t run) → Alike (by_order o (Combination op t run) run (Combination op r rest)) (Combination op t run)
placed_keeps op Less t r run rest same held behind = itself (InLanguage (Combination op t run))
placed_keeps op Equal t r run rest same held behind = subst (λ e. Alike run (Combination op e run)) (sym (same refl)) held
placed_keeps op Greater t r run rest same held behind = behind

-- of what stands after the first member of the run
put_behind : (op : Operator) (t r s rest : Expression) → Alike rest (Combination op t s) → Alike (Combination op r rest) (Combination op t (Combination op r s))
put_behind op t r s rest keeps =
    through (InLanguage (Combination op r rest)) (InLanguage (Combination op r (Combination op t s))) (InLanguage (Combination op t (Combination op r s))) (combination_keeps op r rest r (Combination op t s) (itself (InLanguage r)) keeps) (turn op t r s)

put_keeps : (op : Operator) (t run : Expression) → Alike (put op t run) (Combination op t run)
put_keeps Or t (Combination Or r s) = placed_keeps Or (order t r) t r (Combination Or r s) (put Or t s) (order_tells t r) (again Or r s) (put_behind Or t r s (put Or t s) (put_keeps Or t s))
put_keeps And t (Combination And r s) = placed_keeps And (order t r) t r (Combination And r s) (put And t s) (order_tells t r) (again And r s) (put_behind And t r s (put And t s) (put_keeps And t s))
put_keeps op t r = placed_keeps op (order t r) t r r t (order_tells t r) (twice op r) (swap op r t)

-- a unit is dropped, and with a zero the whole is the zero
join_keeps : (op : Operator) (t run : Expression) → Alike (join op t run) (Combination op t run)
join_keeps op t run =
    let back : Alike (Combination op run t) (Combination op t run) = swap op run t in
    if_keeps (is_unit op t || is_zero op run) run (if is_zero op t || is_unit op run then t else put op t run) (InLanguage (Combination op t run))
    (λ test. elim (or_true (is_unit op t) (is_zero op run) test) [
      | inl unit ↦ unit_drops op t run unit
      | inr zero ↦ through (InLanguage run) (InLanguage (Combination op run t)) (InLanguage (Combination op t run)) (zero_takes op run t zero) back
    ])
    (λ _. if_keeps (is_zero op t || is_unit op run) t (put op t run) (InLanguage (Combination op t run))
    (λ test. elim (or_true (is_zero op t) (is_unit op run) test) [
      | inl zero ↦ zero_takes op t run zero
      | inr unit ↦ through (InLanguage t) (InLanguage (Combination op run t)) (InLanguage (Combination op t run)) (unit_drops op run t unit) back
    ])
    (λ _. put_keeps op t run))

-- the members of a run inside another
nest_keeps : (op : Operator) (p q run inner outer : Expression) → Alike inner (Combination op p run) → Alike outer (Combination op q inner) → Alike outer (Combination op (Combination op p q) run)
nest_keeps op p q run inner outer keeps more =
    through (InLanguage outer) (InLanguage (Combination op q inner)) (InLanguage (Combination op (Combination op p q) run)) more
    (through (InLanguage (Combination op q inner)) (InLanguage (Combination op q (Combination op p run))) (InLanguage (Combination op (Combination op p q) run)) (combination_keeps op q inner q (Combination op p run) (itself (InLanguage q)) keeps) (flat op p q run))

-- flattened, sorted and without doubles
pub combined_keeps : (op : Operator) (r run : Expression) → Alike (combined op r run) (Combination op r run)
combined_keeps Or (Combination Or p q) run = nest_keeps Or p q run (combined Or p run) (combined Or q (combined Or p run)) (combined_keeps Or p run) (combined_keeps Or q (combined Or p run))
combined_keeps And (Combination And p q) run = nest_keeps And p q run (combined And p run) (combined And q (combined And p run)) (combined_keeps And p run) (combined_keeps And q (combined And p run))
combined_keeps op r run = join_keeps op r run
