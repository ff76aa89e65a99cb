-- Values that may be there.
use Rattle.std.proofs.Common.{◌≡◌, ℕ, Bool, true, false, Option, Some, None, List, map, refl, sym, ◌∙◌, ap, subst}
use Rattle.std.specs.Prelude.{IsSomeAnd, ◌↔◌, is_some, option_map, slice_get}
use Rattle.std.proofs.lemmas.Option.{slice_get-map}

pub same_some : {X : Type 0} {x y : X} → Some x ≡ Some y → x ≡ y
same_some e = cc

pub never_some : {X : Type 0} {x : X} → None ≡ Some x → ⊥
never_some e = cc

pub none_of_not_some : (o : Option ℕ) → is_some o ≡ false → o ≡ None
none_of_not_some None e = refl
none_of_not_some (Some x) e = absurd cc

pub same_bool : (a b : Bool) → (a ≡ true → b ≡ true) → (b ≡ true → a ≡ true) → a ≡ b
same_bool true b f g = sym (f refl)
same_bool false true f g = g refl
same_bool false false f g = refl

-- what follows for a value that is there
pub some_more : {X : Type 0} (P Q : X → Type 0) (o : Option X) → ((x : X) → o ≡ Some x → P x → Q x) → IsSomeAnd o P → IsSomeAnd o Q
some_more P Q None f h = h
some_more P Q (Some x) f h = f x refl h

-- a value that is there is one that was looked up
option_same : {X : Type 0} (P : ℕ → Type 0) (f : X → Option ℕ) (a : Option ℕ) (b : Option X) → option_map {T = ℕ} {U = Option ℕ} Some a ≡ option_map f b → IsSomeAnd a P ↔ IsSomeAnd b (λ x. IsSomeAnd (f x) P)
option_same P f None None e = (λ h. h, λ h. h)
option_same P f None (Some x) e = absurd cc
option_same P f (Some n) None e = absurd cc
option_same P f (Some n) (Some x) e =
    let found : Some n ≡ f x = same_some e in
    (λ h. subst (λ o. IsSomeAnd o P) found h, λ h. subst (λ o. IsSomeAnd o P) (sym found) h)

-- the same at a place of a list of values that were all looked up
pub looked_up : {X : Type 0} (P : ℕ → Type 0) (f : X → Option ℕ) (ns : List ℕ) (xs : List X) (k : ℕ) → map {A = ℕ} {B = Option ℕ} Some ns ≡ map f xs → IsSomeAnd (slice_get ns k) P ↔ IsSomeAnd (slice_get xs k) (λ x. IsSomeAnd (f x) P)
looked_up P f ns xs k e = option_same P f (slice_get ns k) (slice_get xs k) (sym (slice_get-map Some ns k) ∙ ap (λ os. slice_get os k) e ∙ slice_get-map f xs k)
