-- What an addition and a sweep leave of the marks.
use Rattle.std.proofs.Common.{◌≡◌, ◌≢◌, ℕ, Bool, true, false, cond, zero, suc, ◌-◌, ◌≤◌, ◌⊎◌, inl, inr, List, [], ◌∷◌, ◌++◌, Option, length, get_or, refl, sym, ◌∙◌, subst, arith}
use Rattle.indexmap.specs.IndexSet.{insert_key}
use Rattle.std.proofs.lemmas.Bool.{cases_lt}
use Rattle.std.proofs.lemmas.List.{append_assoc, length-append, get_or_append_left, get_or-append_right}
use Rattle.std.proofs.lemmas.List.Elements.{Contains-push_cases, Contains-append_cases, Contains-append_left, Contains-append_right, Contains-get_or, filter-append}
use Rattle.std.proofs.lemmas.List.Sorted.{Contains-permutation, IsPermutation-sym, IsPermutation-to_front, IsPermutation-append_left, IsPermutation-append_right}
use Rattle.std.specs.Prelude.{filter, Contains, IsTrue}
use Rattle.std.specs.List.{list_any, AllPairs, IsDistinct}
use Rattle.std.specs.List.Sorted.{IsPermutation}
use Rattle.jm_model.specs.Layout.{binding_eq}
use Rattle.jm_model.specs.Bindings.{mask_of}
use Rattle.jm_model.proofs.EqLemmas.{found-Contains, Contains-found}
use Rattle.jm_marks.specs.Objects.{IsWithin}
use Rattle.jm_marks.specs.Layout.{AreMarks, AreApart}
use Rattle.jm_marks.specs.Singles.{IsSingle, IsAddedTo}

abbrev Keys : Type 0
Keys = List (List (Option ℕ))

-- the marks where there is at most one more, with its set of parameters listed and its objects below the limit
pub AreMarks-more : (ks new : Keys) (masks listed : List ℕ) (limit raised : ℕ) (b : List (Option ℕ)) (mask : ℕ) → AreMarks ks masks limit → limit ≤ raised → IsWithin raised b
    → ((m : ℕ) → Contains masks m → Contains listed m) → Contains listed mask → mask ≡ mask_of b → ((x : List (Option ℕ)) → Contains new x → Contains ks x ⊎ (b ≡ x)) → AreMarks new listed raised
AreMarks-more ks new masks listed limit raised b mask are more fits kept there is cases = record {
  listed = λ x h. elim (cases x h) [
    | inl old ↦ kept (mask_of x) (are.listed x old)
    | inr e ↦ subst (λ (w : List (Option ℕ)). Contains listed (mask_of w)) e (subst (λ (n : ℕ). Contains listed n) is there)
  ];
  within = λ x h. elim (cases x h) [
    | inl old ↦ λ p o here. omega (arith, are.within x old p o here, more)
    | inr e ↦ subst (λ (w : List (Option ℕ)). IsWithin raised w) e fits
  ];
}

pub added-unknown : (ks : List (List (Option ℕ))) (b : List (Option ℕ)) → (Contains ks b → ⊥) → insert_key binding_eq ks b ≡ ks ++ b ∷ []
added-unknown ks b h = at (list_any (binding_eq b) ks) (found-Contains ks b)
  where
    at : (v : Bool) → (v ≡ true → Contains ks b) → cond v ks (ks ++ b ∷ []) ≡ ks ++ b ∷ []
    at true found = absurd (h (found refl))
    at false found = refl

-- fewer marks are marks
pub AreMarks-fewer : (ks new : Keys) (masks : List ℕ) (limit : ℕ) → AreMarks ks masks limit → ((x : List (Option ℕ)) → Contains new x → Contains ks x) → AreMarks new masks limit
AreMarks-fewer ks new masks limit are within = record { listed = λ b h. are.listed b (within b h); within = λ b h. are.within b (within b h) }

pub AreApart-fewer : (singles left ks new : Keys) (has_strays : Bool) → AreApart singles ks has_strays → IsDistinct binding_eq new → ((x : List (Option ℕ)) → Contains left x → Contains singles x)
    → ((x : List (Option ℕ)) → Contains new x → Contains ks x) → AreApart left new has_strays
AreApart-fewer singles left ks new has_strays are distinct fewer within = record {
  distinct = distinct;
  apart = λ b h k. are.apart b (fewer b h) (within b k);
  none = λ no b h. are.none no b (within b h);
}

Contains-cons : (x y : List (Option ℕ)) (ks : List (List (Option ℕ))) → Contains ks x → Contains (y ∷ ks) x
Contains-cons x y ks (k, h, e) = (suc k, omega arith, e)

-- what a filter keeps is in the list
pub Contains-filter : (test : List (Option ℕ) → Bool) (ks : List (List (Option ℕ))) (x : List (Option ℕ)) → Contains (filter test ks) x → Contains ks x
Contains-filter test [] x h = h
Contains-filter test (y ∷ ks) x h = at (Contains-filter test ks x) (test y) h
  where
    at : (Contains (filter test ks) x → Contains ks x) → (v : Bool) → Contains (cond v (y ∷ filter test ks) (filter test ks)) x → Contains (y ∷ ks) x
    at ih true (zero, l, e) = (zero, omega arith, e)
    at ih true (suc k, l, e) = Contains-cons x y ks (ih (k, (omega arith), e))
    at ih false g = Contains-cons x y ks (ih g)

-- ---- one more among those of one parameter
more_front : (ks : Keys) (b x : List (Option ℕ)) → Contains (b ∷ ks) x → Contains ks x ⊎ (b ≡ x)
more_front ks b x (zero, low, e) = inr e
more_front ks b x (suc k, low, e) = inl (k, omega (arith, low), e)

pub put_cases : (singles new : Keys) (b : List (Option ℕ)) → IsAddedTo singles b new → (x : List (Option ℕ)) → Contains new x → Contains singles x ⊎ (b ≡ x)
put_cases singles new b (inl (there, same)) x h = inl (rw same at h)
put_cases singles new b (inr (fresh, more)) x h = more_front singles b x (Contains-permutation new (b ∷ singles) x (IsPermutation-sym (b ∷ singles) new more) h)

pub put_within : (singles new ks : Keys) (b : List (Option ℕ)) → IsAddedTo singles b new → (x : List (Option ℕ)) → Contains (new ++ ks) x → Contains (singles ++ ks) x ⊎ (b ≡ x)
put_within singles new ks b added x h = elim (Contains-append_cases new ks x h) [
  | inr key ↦ inl (Contains-append_right singles ks x key)
  | inl single ↦ elim (put_cases singles new b added x single) [
    | inl old ↦ inl (Contains-append_left singles ks x old)
    | inr e ↦ inr e
  ]
]

pub put_apart : (singles new ks : Keys) (b : List (Option ℕ)) (has_strays : Bool) → IsAddedTo singles b new → (Contains ks b → ⊥) → AreApart singles ks has_strays → AreApart new ks has_strays
put_apart singles new ks b has_strays added stranger are = record {
  distinct = are.distinct;
  apart = λ x h key. elim (put_cases singles new b added x h) [
    | inl old ↦ are.apart x old key
    | inr e ↦ stranger (subst (λ (w : List (Option ℕ)). Contains ks w) (sym e) key)
  ];
  none = are.none;
}

pub put_known : (singles new ks : Keys) (b : List (Option ℕ)) → IsAddedTo singles b new → (Contains ks b → ⊥) → Contains (singles ++ ks) b → new ++ ks ≡ singles ++ ks
put_known singles new ks b (inl (there, same)) stranger h = rw same refl
put_known singles new ks b (inr (fresh, more)) stranger h = elim (Contains-append_cases singles ks b h) [
  | inl old ↦ absurd (fresh old)
  | inr key ↦ absurd (stranger key)
]

pub put_unknown : (singles new ks : Keys) (b : List (Option ℕ)) → IsAddedTo singles b new → (Contains (singles ++ ks) b → ⊥) → IsPermutation (b ∷ (singles ++ ks)) (new ++ ks)
put_unknown singles new ks b (inl (there, same)) lacks = absurd (lacks (Contains-append_left singles ks b there))
put_unknown singles new ks b (inr (fresh, more)) lacks = IsPermutation-append_left ks (b ∷ singles) new more

-- ---- one more in the set
inserted_cases : (ks new : Keys) (b : List (Option ℕ)) → new ≡ insert_key binding_eq ks b → (x : List (Option ℕ)) → Contains new x → Contains ks x ⊎ (b ≡ x)
inserted_cases ks new b is x h = at (list_any (binding_eq b) ks) (subst (λ (w : Keys). Contains w x) is h)
  where
    at : (v : Bool) → Contains (cond v ks (ks ++ b ∷ [])) x → Contains ks x ⊎ (b ≡ x)
    at true h = inl h
    at false h = Contains-push_cases ks b x h

pub insert_within : (singles ks new : Keys) (b : List (Option ℕ)) → new ≡ insert_key binding_eq ks b → (x : List (Option ℕ)) → Contains (singles ++ new) x → Contains (singles ++ ks) x ⊎ (b ≡ x)
insert_within singles ks new b is x h = elim (Contains-append_cases singles new x h) [
  | inl single ↦ inl (Contains-append_left singles ks x single)
  | inr key ↦ elim (inserted_cases ks new b is x key) [
    | inl old ↦ inl (Contains-append_right singles ks x old)
    | inr e ↦ inr e
  ]
]

pub insert_apart : (singles ks new : Keys) (b : List (Option ℕ)) (has_strays now : Bool) → new ≡ insert_key binding_eq ks b → IsDistinct binding_eq new → (Contains singles b → ⊥)
    → (now ≡ false → (has_strays ≡ false) × (IsSingle b → ⊥)) → AreApart singles ks has_strays → AreApart singles new now
insert_apart singles ks new b has_strays now is distinct fresh strays are = record {
  distinct = distinct;
  apart = λ x h key. elim (inserted_cases ks new b is x key) [
    | inl old ↦ are.apart x h old
    | inr e ↦ fresh (subst (λ (w : List (Option ℕ)). Contains singles w) (sym e) h)
  ];
  none = λ no x key. elim (inserted_cases ks new b is x key) [
    | inl old ↦ are.none (strays no).0 x old
    | inr e ↦ subst (λ (w : List (Option ℕ)). IsSingle w → ⊥) e (strays no).1
  ];
}

pub insert_known : (singles ks new : Keys) (b : List (Option ℕ)) → new ≡ insert_key binding_eq ks b → (Contains singles b → ⊥) → Contains (singles ++ ks) b → singles ++ new ≡ singles ++ ks
insert_known singles ks new b is fresh h = elim (Contains-append_cases singles ks b h) [
  | inl single ↦ absurd (fresh single)
  | inr key ↦ let there = Contains-found ks b key in rw (is, there) refl
]

pub insert_unknown : (singles ks new : Keys) (b : List (Option ℕ)) → new ≡ insert_key binding_eq ks b → (Contains (singles ++ ks) b → ⊥) → IsPermutation (b ∷ (singles ++ ks)) (singles ++ new)
insert_unknown singles ks new b is lacks =
    let last : singles ++ new ≡ (singles ++ ks) ++ b ∷ [] = rw (is, added-unknown ks b (λ key. lacks (Contains-append_right singles ks b key))) (sym (append_assoc singles ks (b ∷ []))) in
    rw last (IsPermutation-sym ((singles ++ ks) ++ b ∷ []) (b ∷ (singles ++ ks)) (IsPermutation-to_front (singles ++ ks) b))

-- ---- the lists of both
pub apart_both : (singles ks : Keys) → AllPairs (λ (a b : List (Option ℕ)). a ≢ b) singles → AllPairs (λ (a b : List (Option ℕ)). a ≢ b) ks → ((x : List (Option ℕ)) → Contains singles x → Contains ks x → ⊥)
    → AllPairs (λ (a b : List (Option ℕ)). a ≢ b) (singles ++ ks)
apart_both singles ks first second apart i j d low high same = elim (cases_lt j (length singles)) [
  | inl early ↦ first i j d low early (sym (get_or_append_left singles ks d i (omega (arith, low, early))) ∙ same ∙ get_or_append_left singles ks d j early)
  | inr late ↦ elim (cases_lt i (length singles)) [
    | inl here ↦ apart (get_or singles i d) (Contains-get_or singles i d here)
        (subst (λ (w : List (Option ℕ)). Contains ks w) (sym (right j late) ∙ sym same ∙ get_or_append_left singles ks d i here) (Contains-get_or ks (j - length singles) d (omega (arith, late, high, length-append singles ks))))
    | inr past ↦ second (i - length singles) (j - length singles) d (omega (arith, past, low)) (omega (arith, late, high, length-append singles ks)) (sym (right i past) ∙ same ∙ right j late)
  ]
]
  where
    right : (k : ℕ) → length singles ≤ k → get_or (singles ++ ks) k d ≡ get_or ks (k - length singles) d
    right k more = get_or-append_right singles ks (length singles) k d refl more

pub swept_both : (live : List (Option ℕ) → Bool) (singles left ks new : Keys) → left ≡ filter live singles → IsPermutation (filter live ks) new → IsPermutation (filter live (singles ++ ks)) (left ++ new)
swept_both live singles left ks new is swept = rw (filter-append live singles ks, is) (IsPermutation-append_right (filter live singles) (filter live ks) new swept)

pub unfound : (ks : Keys) (b : List (Option ℕ)) (there : Bool) → there ≡ list_any (binding_eq b) ks → there ≡ false → Contains ks b → ⊥
unfound ks b there is isnt key = let lost : true ≡ false = sym (Contains-found ks b key) ∙ sym is ∙ isnt in cc

pub true_false : true ≡ false → ⊥
true_false lost = cc

pub not_told : (r : Bool) → r ≡ false → IsTrue r → ⊥
not_told r isnt is = let lost : true ≡ false = sym is ∙ isnt in cc

-- ---- a binding that isn't among those of one parameter
pub in_set : (singles ks : Keys) (b : List (Option ℕ)) (r : Bool) → (Contains singles b → ⊥) → (IsTrue r → Contains ks b) → (Contains ks b → IsTrue r) → (IsTrue r → Contains (singles ++ ks) b) × (Contains (singles ++ ks) b → IsTrue r)
in_set singles ks b r fresh sound whole = (
  λ told. Contains-append_right singles ks b (sound told),
  λ h. elim (Contains-append_cases singles ks b h) [
    | inl single ↦ absurd (fresh single)
    | inr key ↦ whole key
  ],
)

pub in_neither : (singles ks : Keys) (b : List (Option ℕ)) → (Contains singles b → ⊥) → (Contains ks b → ⊥) → (IsTrue false → Contains (singles ++ ks) b) × (Contains (singles ++ ks) b → IsTrue false)
in_neither singles ks b fresh stranger = in_set singles ks b false fresh (λ told. absurd (not_told false refl told)) (λ key. absurd (stranger key))

pub fewer_both : (singles left ks new : Keys) → ((x : List (Option ℕ)) → Contains left x → Contains singles x) → ((x : List (Option ℕ)) → Contains new x → Contains ks x)
    → (x : List (Option ℕ)) → Contains (left ++ new) x → Contains (singles ++ ks) x
fewer_both singles left ks new fewer within x h = elim (Contains-append_cases left new x h) [
  | inl single ↦ Contains-append_left singles ks x (fewer x single)
  | inr key ↦ Contains-append_right singles ks x (within x key)
]

pub kept_singles : (live : List (Option ℕ) → Bool) (singles left : Keys) → left ≡ filter live singles → (x : List (Option ℕ)) → Contains left x → Contains singles x
kept_singles live singles left is x h = Contains-filter live singles x (rw is at h)

pub kept_keys : (live : List (Option ℕ) → Bool) (ks new : Keys) → IsPermutation (filter live ks) new → (x : List (Option ℕ)) → Contains new x → Contains ks x
kept_keys live ks new swept x h = Contains-filter live ks x (Contains-permutation new (filter live ks) x (IsPermutation-sym (filter live ks) new swept) h)
