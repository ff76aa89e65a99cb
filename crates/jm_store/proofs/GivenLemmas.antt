-- Lists of what a relation gives for the elements of another.
use Rattle.std.proofs.Common.{◌≡◌, ℕ, suc, ◌+◌, ◌<◌, inl, inr, false, List, [], ◌∷◌, ◌++◌, length, take, map, get_or, refl, sym, ap, ◌∙◌, subst, append_assoc, append-nil, arith}
use Rattle.std.specs.Prelude.{Option, Some, None, Contains, AllPairs, All}
use Rattle.std.specs.List.{cons_option}
use Rattle.std.specs.Option.{is_some, option_to_list}
use Rattle.std.proofs.lemmas.Bool.{false≢true}
use Rattle.std.proofs.lemmas.List.{take_more, get_or_default}
use Rattle.std.proofs.lemmas.List.Elements.{Contains-append_cases}
use Rattle.std.proofs.lemmas.List.Kept.{AllPairs-cons}
use Rattle.jm_index.proofs.ReadLemmas.{Contains-none, Contains-cons}
use Rattle.jm_semantics.proofs.ListLemmas.{Contains-cons_cases, Contains-head}
use Rattle.jm_store.specs.Moves.{AreGiven, IsPushed}

module _ {X Y : Type 0} (R : X → Option Y → Type 0) where
  pub cons-append : (o : Option Y) (ys zs : List Y) → cons_option o ys ++ zs ≡ cons_option o (ys ++ zs)
  cons-append None ys zs = refl
  cons-append (Some y) ys zs = refl

  one-given : (o : Option Y) → option_to_list o ≡ cons_option o []
  one-given None = refl
  one-given (Some y) = refl

  -- one element more
  pub pushed : (xs : List X) (x : X) (old new : List Y) → AreGiven R xs old → IsPushed R x old new → AreGiven R (xs ++ x ∷ []) new
  pushed [] x old new is (o, gives, more) = (o, gives, ([], refl, more ∙ ap (λ (l : List Y). l ++ option_to_list o) is ∙ one-given o))
  pushed (z ∷ xs) x old new (p, first, (rest, given, is)) (o, gives, more) =
      (p, first, (rest ++ option_to_list o, pushed xs x rest (rest ++ option_to_list o) given (o, gives, refl), more ∙ ap (λ (l : List Y). l ++ option_to_list o) is ∙ cons-append p rest (option_to_list o)))

  pub pushed_next : (before xs : List X) (i : ℕ) (x : X) (old new : List Y) → i < length xs → AreGiven R (before ++ take i xs) old → IsPushed R (get_or xs i x) old new
      → AreGiven R (before ++ take (i + 1) xs) new
  pushed_next before xs i x old new lt given more =
      subst (λ (l : List X). AreGiven R l new) (append_assoc before (take i xs) (get_or xs i x ∷ []) ∙ ap (λ (l : List X). before ++ l) (sym (take_more xs i x lt)))
      (pushed (before ++ take i xs) (get_or xs i x) old new given more)

  -- the first one that is given, and none that is given
  pub first_pushed : (x : X) (old found : Option Y) → is_some old ≡ false → R x found → IsPushed R x (option_to_list old) (option_to_list found)
  first_pushed x None found none gives = (found, gives, refl)
  first_pushed x (Some y) found none gives = absurd (false≢true (sym none))

  pub none_pushed : (x : X) (old : List Y) (found : Option Y) → is_some found ≡ false → R x found → IsPushed R x old old
  none_pushed x old None none gives = (None, gives, sym (append-nil old))
  none_pushed x old (Some y) none gives = absurd (false≢true (sym none))

  -- each one is given for an element
  pub given_each : (xs : List X) (ys : List Y) (y : Y) → AreGiven R xs ys → Contains ys y → (x : X) × Contains xs x × R x (Some y)
  given_each [] ys y is there = absurd (Contains-none y (subst (λ (l : List Y). Contains l y) is there))
  given_each (x ∷ xs) ys y (o, gives, (rest, given, is)) there = at o gives (given_each xs rest y given) (subst (λ (l : List Y). Contains l y) is there)
    where
      later : ((z : X) × Contains xs z × R z (Some y)) → (z : X) × Contains (x ∷ xs) z × R z (Some y)
      later (z, among, r) = (z, Contains-cons x z xs among, r)

      at : (p : Option Y) → R x p → (Contains rest y → (z : X) × Contains xs z × R z (Some y)) → Contains (cons_option p rest) y → (z : X) × Contains (x ∷ xs) z × R z (Some y)
      at None r ih h = later (ih h)
      at (Some v) r ih h =
          elim (Contains-cons_cases v rest y h) [
            | inl same ↦ (x, Contains-head x xs, subst (λ (u : Y). R x (Some u)) same r)
            | inr behind ↦ later (ih behind)
          ]

  -- what is given for an element is among them
  pub given_all : (xs : List X) (ys : List Y) (x : X) → AreGiven R xs ys → Contains xs x → (o : Option Y) × R x o × ((y : Y) → o ≡ Some y → Contains ys y)
  given_all [] ys x is there = absurd (Contains-none x there)
  given_all (z ∷ xs) ys x (o, gives, (rest, given, is)) there =
      elim (Contains-cons_cases z xs x there) [
        | inl same ↦ (o, subst (λ (u : X). R u o) same gives, λ y some. subst (λ (l : List Y). Contains l y) (sym (is ∙ ap (λ (p : Option Y). cons_option p rest) some)) (Contains-head y rest))
        | inr later ↦
            let (p, r, among) = given_all xs rest x given later in
            (p, r, λ y some. subst (λ (l : List Y). Contains l y) (sym is) (behind o y (among y some)))
      ]
    where
      behind : (p : Option Y) (y : Y) → Contains rest y → Contains (cons_option p rest) y
      behind None y h = h
      behind (Some v) y h = Contains-cons v y rest h

-- ---- pairs of elements
pub pairs_head : {X : Type 0} (Q : X → X → Type 0) (x : X) (xs : List X) → AllPairs Q (x ∷ xs) → (y : X) → Contains xs y → Q x y
pairs_head Q x xs apart y (k, lt, is) = subst (λ v. Q x v) is (apart 0 (suc k) y (omega arith) (omega (arith, lt)))

pub pairs_tail : {X : Type 0} (Q : X → X → Type 0) (x : X) (xs : List X) → AllPairs Q (x ∷ xs) → AllPairs Q xs
pairs_tail Q x xs apart i j d lt within = apart (suc i) (suc j) d (omega (arith, lt)) (omega (arith, within))

pub pairs_none : {X : Type 0} (Q : X → X → Type 0) → AllPairs Q []
pairs_none Q i j d lt within = absurd (omega (arith, lt, within))

all_from : {X : Type 0} (P : X → Type 0) (xs : List X) → ((x : X) → Contains xs x → P x) → All P xs
all_from {X} P xs h k d lt = h (get_or xs k d) (k, lt, get_or_default xs k (get_or xs k d) d lt)

pub pairs_cons : {X : Type 0} (Q : X → X → Type 0) (x : X) (xs : List X) → ((y : X) → Contains xs y → Q x y) → AllPairs Q xs → AllPairs Q (x ∷ xs)
pairs_cons Q x xs first rest = AllPairs-cons Q x xs (all_from (Q x) xs first) rest

pub one_pair : {X : Type 0} (Q : X → X → Type 0) (x : X) → AllPairs Q (x ∷ [])
one_pair Q x = pairs_cons Q x [] (λ y there. absurd (Contains-none y there)) (pairs_none Q)

-- two lists in a row
pub pairs_append : {X : Type 0} (Q : X → X → Type 0) (xs ys : List X) → AllPairs Q xs → AllPairs Q ys → ((x y : X) → Contains xs x → Contains ys y → Q x y) → AllPairs Q (xs ++ ys)
pairs_append Q [] ys h g cross = g
pairs_append {X} Q (x ∷ xs) ys h g cross =
    pairs_cons Q x (xs ++ ys) both (pairs_append Q xs ys (pairs_tail Q x xs h) g (λ z y c d. cross z y (Contains-cons x z xs c) d))
  where
    both : (y : X) → Contains (xs ++ ys) y → Q x y
    both y c = elim (Contains-append_cases xs ys y c) [ inl left ↦ pairs_head Q x xs h y left | inr right ↦ cross x y (Contains-head x xs) right ]

-- what a map has comes from the list
pub Contains-from_map : {X Y : Type 0} (f : X → Y) (xs : List X) (y : Y) → Contains (map f xs) y → (x : X) × Contains xs x × (f x ≡ y)
Contains-from_map f [] y h = absurd (Contains-none y h)
Contains-from_map f (x ∷ xs) y h =
    elim (Contains-cons_cases (f x) (map f xs) y h) [
      | inl same ↦ (x, Contains-head x xs, same)
      | inr there ↦ let g = Contains-from_map f xs y there in (g.0, Contains-cons x g.0 xs g.1, g.2)
    ]

pub pairs_map : {X Y : Type 0} (Q : Y → Y → Type 0) (f : X → Y) (xs : List X) → AllPairs (λ a b. Q (f a) (f b)) xs → AllPairs Q (map f xs)
pairs_map Q f [] h = pairs_none Q
pairs_map {X} {Y} Q f (x ∷ xs) h =
    pairs_cons Q (f x) (map f xs) (λ y c. let (z, among, is) = Contains-from_map f xs y c in subst (λ (v : Y). Q (f x) v) is (pairs_head (λ a b. Q (f a) (f b)) x xs h z among))
    (pairs_map Q f xs (pairs_tail (λ a b. Q (f a) (f b)) x xs h))

pub pairs_weaker : {X : Type 0} (P Q : X → X → Type 0) (xs : List X) → AllPairs P xs → ((x y : X) → Contains xs x → Contains xs y → P x y → Q x y) → AllPairs Q xs
pairs_weaker P Q [] h w = pairs_none Q
pairs_weaker P Q (x ∷ xs) h w =
    pairs_cons Q x xs (λ y c. w x y (Contains-head x xs) (Contains-cons x y xs c) (pairs_head P x xs h y c))
    (pairs_weaker P Q xs (pairs_tail P x xs h) (λ y z c d. w y z (Contains-cons x y xs c) (Contains-cons x z xs d)))

-- what is given for distinct elements
pub given_pairs : {X Y : Type 0} (R : X → Option Y → Type 0) (P : X → X → Type 0) (Q : Y → Y → Type 0) (xs : List X) (ys : List Y) → AreGiven R xs ys → AllPairs P xs
    → ((x z : X) (y w : Y) → P x z → R x (Some y) → R z (Some w) → Q y w) → AllPairs Q ys
given_pairs {X} {Y} R P Q [] ys is h w = subst (λ (l : List Y). AllPairs Q l) (sym is) (pairs_none Q)
given_pairs {X} {Y} R P Q (x ∷ xs) ys (o, gives, (rest, given, is)) h w =
    subst (λ (l : List Y). AllPairs Q l) (sym is) (at o gives (given_pairs R P Q xs rest given (pairs_tail P x xs h) w))
  where
    at : (p : Option Y) → R x p → AllPairs Q rest → AllPairs Q (cons_option p rest)
    at None r tail = tail
    at (Some y) r tail = pairs_cons Q y rest (λ v c. let (z, among, g) = given_each R xs rest v given c in w x z y v (pairs_head P x xs h z among) r g) tail
