use Rattle.std.proofs.Common.{◌≡◌, ℕ, zero, suc, true, ◌⊎◌, inl, inr, List, [], ◌∷◌, ◌++◌, refl, sym, ◌∙◌, ap, subst, lit<}
use Rattle.std.specs.Prelude.{Contains, bit_or}
use Rattle.std.specs.List.Sorted.{IsStrictlySortedBy}
use Rattle.std.specs.Ordering.{nat_cmp}
use Rattle.std.proofs.lemmas.Bool.{false≢true}
use Rattle.std.proofs.lemmas.List.{append_assoc}
use Rattle.jm_semantics.specs.Families.{params_of, IsFamily}
use Rattle.jm_semantics.specs.UnsafeIterExamples.{unsafe_iter, is_unsafe_use, after_create, after_update}
use Rattle.jm_semantics.proofs.ListLemmas.{Contains-nil, Contains-head, Contains-cons, Contains-cons_cases}

abbrev TwoOrThree : ℕ → Type 0
TwoOrThree n = (n ≡ 2) ⊎ (n ≡ 3)

update-params : (u : List ℕ) → after_update u ≡ true → TwoOrThree (params_of unsafe_iter u)
update-params [] h = absurd (false≢true h)
update-params (zero ∷ u) h = absurd (false≢true h)
update-params (suc zero ∷ u) h =
    elim (update-params u h) [ inl two ↦ inr (ap (bit_or 1) two) | inr three ↦ inr (ap (bit_or 1) three) ]
update-params (suc (suc zero) ∷ []) h = inl refl
update-params (suc (suc zero) ∷ x ∷ u) h = absurd (false≢true h)
update-params (suc (suc (suc x)) ∷ u) h = absurd (false≢true h)

-- what follows an update is `update* next`
update-rest : (w u : List ℕ) → after_update (w ++ 1 ∷ u) ≡ true → after_update u ≡ true
update-rest [] u h = h
update-rest (zero ∷ w) u h = absurd (false≢true h)
update-rest (suc zero ∷ w) u h = update-rest w u h
update-rest (suc (suc zero) ∷ []) u h = absurd (false≢true h)
update-rest (suc (suc zero) ∷ x ∷ w) u h = absurd (false≢true h)
update-rest (suc (suc (suc x)) ∷ w) u h = absurd (false≢true h)

create-rest : (w u : List ℕ) → after_create (w ++ 1 ∷ u) ≡ true → after_update u ≡ true
create-rest [] u h = h
create-rest (zero ∷ w) u h = absurd (false≢true h)
create-rest (suc zero ∷ w) u h = update-rest w u h
create-rest (suc (suc zero) ∷ w) u h = create-rest w u h
create-rest (suc (suc (suc x)) ∷ w) u h = absurd (false≢true h)

iter-rest : (w u : List ℕ) → is_unsafe_use (w ++ 1 ∷ u) ≡ true → after_update u ≡ true
iter-rest [] u h = absurd (false≢true h)
iter-rest (zero ∷ w) u h = create-rest w u h
iter-rest (suc x ∷ w) u h = absurd (false≢true h)

rising : IsStrictlySortedBy nat_cmp (2 ∷ 3 ∷ [])
unfolding IsStrictlySortedBy
rising = ((refl, tt), (tt, tt))

-- after an update the iterator is needed, or both
pub update_family-lem : IsFamily unsafe_iter 1 (2 ∷ 3 ∷ [])
update_family-lem = record {
  rising = rising;
  exact = λ mask. (
    (λ c. elim (Contains-cons_cases 2 (3 ∷ []) mask c) [
      | inl two ↦ (
        0 ∷ [],
        (lit< tt, tt),
        record {
          next = 2;
          rest = [];
          handler = 0;
          letters = (lit< tt, tt);
          hit = ((λ e. cc), inl refl, lit< tt, refl);
          params = sym two;
        },
      )
      | inr more ↦ elim (Contains-cons_cases 3 [] mask more) [
        | inl three ↦ (
          0 ∷ [],
          (lit< tt, tt),
          record {
            next = 1;
            rest = 2 ∷ [];
            handler = 0;
            letters = (lit< tt, (lit< tt, tt));
            hit = ((λ e. cc), inl refl, lit< tt, refl);
            params = sym three;
          },
        )
        | inr none ↦ absurd (Contains-nil mask none)
      ]
    ]),
    (λ n.
        let need = n.2 in
        let rest : after_update (need.next ∷ need.rest) ≡ true =
        iter-rest n.0 (need.next ∷ need.rest)
        (ap is_unsafe_use (sym (append_assoc n.0 (1 ∷ []) (need.next ∷ need.rest))) ∙ need.hit.3) in
        elim (update-params (need.next ∷ need.rest) rest) [
          | inl two ↦ subst (Contains (2 ∷ 3 ∷ [])) (sym (need.params ∙ two)) (Contains-head 2 (3 ∷ []))
          | inr three ↦ subst (Contains (2 ∷ 3 ∷ [])) (sym (need.params ∙ three)) (Contains-cons 2 (3 ∷ []) 3 (Contains-head 3 []))
        ]),
  );
}
