use Rattle.std.proofs.Common.{◌≡◌, ℕ, zero, suc, true, ◌⊎◌, inl, inr, List, [], ◌∷◌, ◌++◌, length, replicate, refl, sym, ◌∙◌, ap, subst, arith}
use Rattle.std.specs.Prelude.{Contains, Option, Some, None}
use Rattle.std.specs.Option.{option_or}
use Rattle.std.proofs.lemmas.Bool.{false≢true, and_parts, and_from, eqb-true, eq-eqb}
use Rattle.std.proofs.lemmas.Option.{none-some, same_Some}
use Rattle.jm_model.specs.Bindings.{keeps, agrees, is_below, is_compatible, object_at, join, join_of}
use Rattle.jm_model.specs.declared.binding.Binding.{Binding}
use Rattle.jm_semantics.proofs.ListLemmas.{Contains-nil, Contains-head, Contains-cons, Contains-cons_cases}

-- ---- one parameter
pub keeps-Some : (x y : Option ℕ) (o : ℕ) → keeps x y ≡ true → x ≡ Some o → y ≡ Some o
keeps-Some None y o k e = absurd (none-some o e)
keeps-Some (Some q) None o k e = absurd (false≢true k)
keeps-Some (Some q) (Some r) o k e = ap Some (sym (eqb-true q r k)) ∙ e

pub keeps-from_Some : (x y : Option ℕ) → ((o : ℕ) → x ≡ Some o → y ≡ Some o) → keeps x y ≡ true
keeps-from_Some None y h = refl
keeps-from_Some (Some q) y h = rw (h q refl) (eq-eqb q q refl)

pub keeps-refl : (x : Option ℕ) → keeps x x ≡ true
keeps-refl x = keeps-from_Some x x (λ o e. e)

pub keeps-antisym : (x y : Option ℕ) → keeps x y ≡ true → keeps y x ≡ true → x ≡ y
keeps-antisym None None h k = refl
keeps-antisym None (Some q) h k = absurd (false≢true k)
keeps-antisym (Some q) y h k = sym (keeps-Some (Some q) y q h refl)

-- ---- the union of two that lie below a third
pub keeps-or : (x y z : Option ℕ) → keeps x z ≡ true → keeps y z ≡ true → keeps (option_or x y) z ≡ true
keeps-or None y z h k = k
keeps-or (Some q) y z h k = h

pub keeps-or_left : (x y : Option ℕ) → keeps x (option_or x y) ≡ true
keeps-or_left None y = refl
keeps-or_left (Some q) y = eq-eqb q q refl

pub keeps-or_right : (x y : Option ℕ) → agrees x y ≡ true → keeps y (option_or x y) ≡ true
keeps-or_right None y a = keeps-refl y
keeps-or_right (Some q) None a = refl
keeps-or_right (Some q) (Some r) a = eq-eqb r q (sym (eqb-true q r a))

pub keeps-agrees : (x y z : Option ℕ) → keeps x z ≡ true → keeps y z ≡ true → agrees x y ≡ true
keeps-agrees None y z h k = refl
keeps-agrees (Some q) None z h k = refl
keeps-agrees (Some q) (Some r) z h k = eq-eqb q r (same_Some q r (sym (keeps-Some (Some q) z q h refl) ∙ keeps-Some (Some r) z r k refl))

-- ---- bindings
pub below-object : (b t : Binding) (p o : ℕ) → is_below b t ≡ true → object_at b p ≡ Some o → object_at t p ≡ Some o
below-object [] t p o h e = absurd (none-some o e)
below-object (x ∷ b) [] p o h e = absurd (false≢true h)
below-object (x ∷ b) (y ∷ t) zero o h e = keeps-Some x y o (and_parts (keeps x y) (is_below b t) h).0 e
below-object (x ∷ b) (y ∷ t) (suc p) o h e = below-object b t p o (and_parts (keeps x y) (is_below b t) h).1 e

pub below-from_objects : (b t : Binding) → length b ≡ length t → ((p o : ℕ) → object_at b p ≡ Some o → object_at t p ≡ Some o) → is_below b t ≡ true
below-from_objects [] [] l h = refl
below-from_objects [] (y ∷ t) l h = absurd (omega (arith, l))
below-from_objects (x ∷ b) [] l h = absurd (omega (arith, l))
below-from_objects (x ∷ b) (y ∷ t) l h =
    and_from (keeps x y) (is_below b t) (keeps-from_Some x y (h zero)) (below-from_objects b t (omega (arith, l)) (λ p. h (suc p)))

pub below-length : (b t : Binding) → is_below b t ≡ true → length b ≡ length t
below-length [] [] h = refl
below-length [] (y ∷ t) h = absurd (false≢true h)
below-length (x ∷ b) [] h = absurd (false≢true h)
below-length (x ∷ b) (y ∷ t) h = ap suc (below-length b t (and_parts (keeps x y) (is_below b t) h).1)

pub below-refl : (b : Binding) → is_below b b ≡ true
below-refl b = below-from_objects b b refl (λ p o e. e)

pub below-trans : (a b c : Binding) → is_below a b ≡ true → is_below b c ≡ true → is_below a c ≡ true
below-trans a b c h k =
    below-from_objects a c (below-length a b h ∙ below-length b c k) (λ p o e. below-object b c p o k (below-object a b p o h e))

pub below-antisym : (b t : Binding) → is_below b t ≡ true → is_below t b ≡ true → b ≡ t
below-antisym [] [] h k = refl
below-antisym [] (y ∷ t) h k = absurd (false≢true h)
below-antisym (x ∷ b) [] h k = absurd (false≢true h)
below-antisym (x ∷ b) (y ∷ t) h k =
    let hs = and_parts (keeps x y) (is_below b t) h in
    let ks = and_parts (keeps y x) (is_below t b) k in
    let same : x ≡ y = keeps-antisym x y hs.0 ks.0 in
    let rest : b ≡ t = below-antisym b t hs.1 ks.1 in
    cc

-- ---- joins
pub join-below : (a b t : Binding) → is_below a t ≡ true → is_below b t ≡ true → is_below (join a b) t ≡ true
join-below [] b [] h k = refl
join-below [] b (z ∷ t) h k = absurd (false≢true h)
join-below (x ∷ a) b [] h k = absurd (false≢true h)
join-below (x ∷ a) [] (z ∷ t) h k = absurd (false≢true k)
join-below (x ∷ a) (y ∷ b) (z ∷ t) h k =
    let hs = and_parts (keeps x z) (is_below a t) h in
    let ks = and_parts (keeps y z) (is_below b t) k in
    and_from (keeps (option_or x y) z) (is_below (join a b) t) (keeps-or x y z hs.0 ks.0) (join-below a b t hs.1 ks.1)

-- two bindings below a third are compatible
pub below-compatible : (a b t : Binding) → is_below a t ≡ true → is_below b t ≡ true → is_compatible a b ≡ true
below-compatible [] [] t h k = refl
below-compatible [] (y ∷ b) [] h k = absurd (false≢true k)
below-compatible [] (y ∷ b) (z ∷ t) h k = absurd (false≢true h)
below-compatible (x ∷ a) b [] h k = absurd (false≢true h)
below-compatible (x ∷ a) [] (z ∷ t) h k = absurd (false≢true k)
below-compatible (x ∷ a) (y ∷ b) (z ∷ t) h k =
    let hs = and_parts (keeps x z) (is_below a t) h in
    let ks = and_parts (keeps y z) (is_below b t) k in
    and_from (agrees x y) (is_compatible a b) (keeps-agrees x y z hs.0 ks.0) (below-compatible a b t hs.1 ks.1)

-- compatible bindings lie below their union
pub below-join_left : (a b : Binding) → is_compatible a b ≡ true → is_below a (join a b) ≡ true
below-join_left [] [] c = refl
below-join_left [] (y ∷ b) c = absurd (false≢true c)
below-join_left (x ∷ a) [] c = absurd (false≢true c)
below-join_left (x ∷ a) (y ∷ b) c =
    and_from (keeps x (option_or x y)) (is_below a (join a b)) (keeps-or_left x y)
    (below-join_left a b (and_parts (agrees x y) (is_compatible a b) c).1)

pub below-join_right : (a b : Binding) → is_compatible a b ≡ true → is_below b (join a b) ≡ true
below-join_right [] [] c = refl
below-join_right [] (y ∷ b) c = absurd (false≢true c)
below-join_right (x ∷ a) [] c = absurd (false≢true c)
below-join_right (x ∷ a) (y ∷ b) c =
    let cs = and_parts (agrees x y) (is_compatible a b) c in
    and_from (keeps y (option_or x y)) (is_below b (join a b)) (keeps-or_right x y cs.0) (below-join_right a b cs.1)

-- the union gives what one of the two gives
pub join-gives : (a b : Binding) (p o : ℕ) → object_at (join a b) p ≡ Some o → (object_at a p ≡ Some o) ⊎ (object_at b p ≡ Some o)
join-gives [] b p o e = absurd (none-some o e)
join-gives (x ∷ a) [] p o e = absurd (none-some o e)
join-gives (None ∷ a) (y ∷ b) zero o e = inr e
join-gives (Some q ∷ a) (y ∷ b) zero o e = inl e
join-gives (x ∷ a) (y ∷ b) (suc p) o e = join-gives a b p o e

pub unbound-below : (n : ℕ) (t : Binding) → length t ≡ n → is_below (replicate n None) t ≡ true
unbound-below zero [] l = refl
unbound-below zero (y ∷ t) l = absurd (omega (arith, l))
unbound-below (suc n) [] l = absurd (omega (arith, l))
unbound-below (suc n) (y ∷ t) l = unbound-below n t (omega (arith, l))

pub unbound-gives : (n p o : ℕ) → object_at (replicate n None) p ≡ Some o → ⊥
unbound-gives zero p o e = none-some o e
unbound-gives (suc n) zero o e = none-some o e
unbound-gives (suc n) (suc p) o e = unbound-gives n p o e

-- the union of bindings below t lies below t, and above each of them
pub join_of-below : (bs : List Binding) (t : Binding) → length t ≡ 8 → ((b : Binding) → Contains bs b → is_below b t ≡ true) → is_below (join_of bs) t ≡ true
join_of-below [] t l h = unbound-below 8 t l
join_of-below (b ∷ bs) t l h =
    join-below b (join_of bs) t (h b (Contains-head b bs)) (join_of-below bs t l (λ c k. h c (Contains-cons b bs c k)))

pub below-join_of : (bs : List Binding) (t : Binding) → length t ≡ 8 → ((b : Binding) → Contains bs b → is_below b t ≡ true) → (b : Binding) → Contains bs b → is_below b (join_of bs) ≡ true
below-join_of [] t l h b k = absurd (Contains-nil b k)
below-join_of (c ∷ bs) t l h b k =
    let first : is_below c t ≡ true = h c (Contains-head c bs) in
    let others : (d : Binding) → Contains bs d → is_below d t ≡ true = λ d m. h d (Contains-cons c bs d m) in
    let rest : is_below (join_of bs) t ≡ true = join_of-below bs t l others in
    elim (Contains-cons_cases c bs b k) [
      | inl same ↦ subst (λ d. is_below d (join c (join_of bs)) ≡ true) same (below-join_left c (join_of bs) (below-compatible c (join_of bs) t first rest))
      | inr there ↦
          below-trans b (join_of bs) (join c (join_of bs)) (below-join_of bs t l others b there) (below-join_right c (join_of bs) (below-compatible c (join_of bs) t first rest))
    ]

-- what the union gives, one of them gives
pub join_of-gives : (bs : List Binding) (p o : ℕ) → object_at (join_of bs) p ≡ Some o → (b : Binding) × Contains bs b × (object_at b p ≡ Some o)
join_of-gives [] p o e = absurd (unbound-gives 8 p o e)
join_of-gives (b ∷ bs) p o e =
    elim (join-gives b (join_of bs) p o e) [
      | inl here ↦ (b, Contains-head b bs, here)
      | inr there ↦ let g = join_of-gives bs p o there in (g.0, Contains-cons b bs g.0 g.1, g.2)
    ]

-- ---- the union as an operation
or_assoc : (x y z : Option ℕ) → option_or x (option_or y z) ≡ option_or (option_or x y) z
or_assoc None y z = refl
or_assoc (Some o) y z = refl

or-None : (x : Option ℕ) → option_or x None ≡ x
or-None None = refl
or-None (Some o) = refl

pub join_assoc : (a b c : Binding) → join a (join b c) ≡ join (join a b) c
join_assoc [] b c = refl
join_assoc (x ∷ a) [] c = refl
join_assoc (x ∷ a) (y ∷ b) [] = refl
join_assoc (x ∷ a) (y ∷ b) (z ∷ c) = let head = or_assoc x y z in let tail = join_assoc a b c in cc

pub join-unbound : (n : ℕ) (b : Binding) → length b ≡ n → join b (replicate n None) ≡ b
join-unbound n [] l = refl
join-unbound zero (x ∷ b) l = absurd (omega (arith, l))
join-unbound (suc n) (x ∷ b) l = let head = or-None x in let tail = join-unbound n b (omega (arith, l)) in cc

pub unbound-join : (n : ℕ) (b : Binding) → length b ≡ n → join (replicate n None) b ≡ b
unbound-join zero [] l = refl
unbound-join zero (x ∷ b) l = absurd (omega (arith, l))
unbound-join (suc n) [] l = refl
unbound-join (suc n) (x ∷ b) l = let tail = unbound-join n b (omega (arith, l)) in cc

pub join_of-push : (bs : List Binding) (b : Binding) → length b ≡ 8 → join_of (bs ++ b ∷ []) ≡ join (join_of bs) b
join_of-push [] b l = join-unbound 8 b l ∙ sym (unbound-join 8 b l)
join_of-push (c ∷ bs) b l = ap (join c) (join_of-push bs b l) ∙ join_assoc c (join_of bs) b
