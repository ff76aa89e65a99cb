use Rattle.std.proofs.Common.{ℕ, ◌≡◌, ◌≢◌, ◌<◌, ◌≤◌, ◌+◌, inl, inr, List, length, get_or, set, sym, ap, subst, ◌∙◌, arith}
use Rattle.std.proofs.lemmas.Bool.{cases_lt, eqb-true}
use Rattle.std.proofs.lemmas.Bool.Decides.{eqb_tells}
use Rattle.std.proofs.lemmas.List.{get_or-set_same, get_or-set_other, get_or_default}
use Rattle.std.proofs.lemmas.Map.Keys.{IsDistinct-from_apart}
use Rattle.std.proofs.lemmas.Map.Steps.{length-le_from_distinct_below}
use Rattle.std.proofs.lemmas.Map.Views.{Contains-from_any}
use Rattle.std.proofs.Common.{eqb}
use Rattle.jm_table.specs.Partitions.{IsPartition, IsKnown, AreGiven, FitClasses, AreNumbered}

-- Classes by keys.

-- numbers below n that stand in different places only are at most n
pub few_below : (xs : List ℕ) (n : ℕ) → ((i : ℕ) → i < length xs → get_or xs i 0 < n)
    → ((i j : ℕ) → i < length xs → j < length xs → get_or xs i 0 ≡ get_or xs j 0 → i ≡ j) → length xs ≤ n
few_below xs n below apart =
    length-le_from_distinct_below xs n
    (IsDistinct-from_apart eqb xs (
    λ i j d before within.
    let here : i < length xs = omega (arith, before, within) in
    elim (eqb_tells (get_or xs i d) (get_or xs j d)) [
      | inl same ↦ absurd (omega (arith, before, apart i j here within (sym (get_or_default xs i d 0 here) ∙ same.1 ∙ get_or_default xs j d 0 within)))
      | inr differs ↦ differs.0
    ]
    ))
    (λ q found.
    let there = Contains-from_any (λ x y e. eqb-true x y e) q xs found in
    subst (λ k. k < n) (sym (get_or_default xs there.0 q 0 there.1) ∙ there.2) (below there.0 there.1))

module _ (keys numbers firsts : List ℕ) where
  -- what is known of the states below i, after state i got its number
  pub seen_more : (classes : List ℕ) (i number : ℕ) → i < length classes
      → ((p : ℕ) → p < i → IsKnown keys numbers firsts (get_or keys p 0) (get_or classes p 0))
      → IsKnown keys numbers firsts (get_or keys i 0) number
      → (p : ℕ) → p < i + 1 → IsKnown keys numbers firsts (get_or keys p 0) (get_or (set classes i number) p 0)
  seen_more classes i number within seen known p below =
      elim (cases_lt p i) [
        | inl before ↦ let away : p ≢ i = omega (arith, before) in rw (get_or-set_other classes i p number 0 away) (seen p before)
        | inr last ↦
            let here : i ≡ p = omega (arith, below, last) in
            subst (λ q. IsKnown keys numbers firsts (get_or keys q 0) (get_or (set classes i number) q 0)) here (rw (get_or-set_same classes i number 0 within) known)
      ]

  -- all states have their numbers
  pub numbered : (n : ℕ) (old_classes old_firsts classes : List ℕ)
      → IsPartition n old_classes old_firsts → FitClasses n old_firsts keys
      → AreGiven n keys numbers firsts
      → ((p : ℕ) → p < n → IsKnown keys numbers firsts (get_or keys p 0) (get_or classes p 0))
      → ((c : ℕ) → c < length old_firsts → get_or firsts c 0 ≡ get_or old_firsts c 0)
      → length old_firsts ≤ length firsts
      → length classes ≡ n
      → AreNumbered n keys old_firsts classes firsts
  numbered n old_classes old_firsts classes before fit given seen prefix grown count = record {
    partition = record {
      count = count;
      some_class = omega (arith, before.some_class, grown);
      few = few_below firsts n (λ i lt. (given i lt).0) (λ i j here there e. sym (given i here).1 ∙ ap (λ p. get_or numbers (get_or keys p 0) 0) e ∙ (given j there).1);
      start = prefix 0 before.some_class ∙ before.start;
      within = λ p lt. (seen p lt).within;
      first = λ c lt. ((given c lt).0, sym (seen (get_or firsts c 0) (given c lt).0).here ∙ (given c lt).1);
    };
    by_keys = λ p q below_p below_q. (
      λ e. sym (seen p below_p).first ∙ ap (λ c. get_or keys (get_or firsts c 0) 0) e ∙ (seen q below_q).first,
      λ e. sym (seen p below_p).here ∙ ap (λ k. get_or numbers k 0) e ∙ (seen q below_q).here,
    );
    grown = grown;
    more = λ p below key.
        elim (cases_lt (get_or classes p 0) (length old_firsts)) [
          | inl old ↦
              let same : get_or keys p 0 ≡ get_or classes p 0 =
              sym (seen p below).first ∙ ap (λ q. get_or keys q 0) (prefix (get_or classes p 0) old) ∙ fit.first (get_or classes p 0) old in
              absurd (omega (arith, same, old, key))
          | inr new ↦ omega (arith, new, (seen p below).within)
        ];
  }
