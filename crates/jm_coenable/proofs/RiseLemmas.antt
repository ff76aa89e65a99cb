use Rattle.std.proofs.Common.{ℕ, suc, ◌≡◌, ◌<◌, ◌+◌, ◌↔◌, ◌⊎◌, inl, inr, Bool, true, false, List, [], ◌∷◌, ◌++◌, Contains, refl, sym, subst, arith}
use Rattle.std.specs.List.{AllByRecursion}
use Rattle.std.specs.List.Sorted.{IsStrictlySortedBy}
use Rattle.std.specs.Ordering.{nat_cmp}
use Rattle.std.specs.Cmp.{nat_cmp_is}
use Rattle.std.specs.declared.cmp.Ordering.TheVariants.{Less}
use Rattle.std.proofs.lemmas.Bool.{false≢true}
use Rattle.std.proofs.lemmas.List.Elements.{Contains-push, Contains-push_cases, Contains-append_left}
use Rattle.jm_coenable.proofs.FillLemmas.{filled_more}

all_push : (x n : ℕ) (xs : List ℕ) → AllByRecursion (λ y. nat_cmp x y ≡ Less) xs → x < n → AllByRecursion (λ y. nat_cmp x y ≡ Less) (xs ++ n ∷ [])
all_push x n [] all lt = (sym (nat_cmp_is x n Less lt), tt)
all_push x n (y ∷ xs) all lt = (all.0, all_push x n xs all.1 lt)

push_rises : (xs : List ℕ) (n : ℕ) → IsStrictlySortedBy nat_cmp xs → ((m : ℕ) → Contains xs m → m < n) → IsStrictlySortedBy nat_cmp (xs ++ n ∷ [])
unfolding IsStrictlySortedBy
push_rises [] n rises below = (tt, tt)
push_rises (x ∷ xs) n rises below =
    (all_push x n xs rises.0 (below x (0, omega arith, refl)), push_rises xs n rises.1 (λ m h. below m (suc h.0, omega (arith, h.1), h.2)))

pub none_rises : IsStrictlySortedBy nat_cmp []
unfolding IsStrictlySortedBy
none_rises = tt

-- the masks of a set below a number, in order, with the next number asked
pub rises_more : (self before after : List ℕ) (number : ℕ) (wanted : Bool) → IsStrictlySortedBy nat_cmp before → ((m : ℕ) → Contains before m ↔ ((m < number) × Contains self m))
    → (wanted ≡ true → after ≡ before ++ number ∷ []) → (wanted ≡ false → after ≡ before) → IsStrictlySortedBy nat_cmp after
rises_more self before after number true rises members pushed kept =
    subst (λ (s : List ℕ). IsStrictlySortedBy nat_cmp s) (sym (pushed refl)) (push_rises before number rises (λ m h. ((members m).0 h).0))
rises_more self before after number false rises members pushed kept = subst (λ (s : List ℕ). IsStrictlySortedBy nat_cmp s) (sym (kept refl)) rises

step_of : (before after : List ℕ) (number : ℕ) (wanted : Bool) → (wanted ≡ true → after ≡ before ++ number ∷ []) → (wanted ≡ false → after ≡ before)
    → (m : ℕ) → Contains after m ↔ (Contains before m ⊎ ((wanted ≡ true) × (m ≡ number)))
step_of before after number true pushed kept m = (
  λ h. elim (Contains-push_cases before number m (subst (λ (s : List ℕ). Contains s m) (pushed refl) h)) [ inl old ↦ inl old | inr e ↦ inr (refl, sym e) ],
  λ h. subst (λ (s : List ℕ). Contains s m) (sym (pushed refl)) (elim h [
    | inl old ↦ Contains-append_left before (number ∷ []) m old
    | inr new ↦ subst (λ (k : ℕ). Contains (before ++ number ∷ []) k) (sym new.1) (Contains-push before number)
  ]),
)
step_of before after number false pushed kept m = (
  λ h. inl (subst (λ (s : List ℕ). Contains s m) (kept refl) h),
  λ h. elim h [ inl old ↦ subst (λ (s : List ℕ). Contains s m) (sym (kept refl)) old | inr new ↦ absurd (false≢true new.0) ],
)

pub members_more : (self before after : List ℕ) (number : ℕ) (wanted : Bool) → ((m : ℕ) → Contains before m ↔ ((m < number) × Contains self m)) → (wanted ≡ true ↔ Contains self number)
    → (wanted ≡ true → after ≡ before ++ number ∷ []) → (wanted ≡ false → after ≡ before) → (m : ℕ) → Contains after m ↔ ((m < number + 1) × Contains self m)
members_more self before after number wanted members tells pushed kept =
    filled_more (λ (m : ℕ). Contains self m) before after number wanted members tells (step_of before after number wanted pushed kept)
