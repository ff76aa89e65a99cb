use Rattle.std.proofs.Common.{ℕ, zero, suc, ◌≡◌, ◌≢◌, ◌<◌, ◌≤◌, ◌+◌, ◌*◌, ◌↔◌, inl, inr, Bool, true, false, List, [], ◌∷◌, length, get_or, refl, sym, ap, subst, ◌∙◌, arith}
use mathlib.Core.Bool.{not, beq}
use Rattle.std.specs.Bool.{IsTrue, OnFalse}
use Rattle.std.specs.Prelude.{Result, OnOk}
use Rattle.std.proofs.lemmas.Result.{IfOk-weaker}
use Rattle.std.proofs.lemmas.Bool.Decides.{eqb_tells}
use Rattle.std.proofs.lemmas.Bool.{cases_lt}
use Rattle.std.proofs.lemmas.Nat.{mul-add-lt}
use Rattle.std.proofs.lemmas.List.Elements.{All-nil, All-get_or, All-from_get_or}
use Rattle.jm_table.specs.Tables.{Transitions, next_of, IsTable, IsInGroup}
use Rattle.jm_table.specs.Minimal.{GroupTells, AreDistinguishable}
use Rattle.jm_table.specs.Partitions.{IsPartition, IsSound, IsStable, IsFiner, Tells, FindsAlike, IsKeyOf, AreNumbered, first_of}
use Rattle.jm_table.specs.declared.refinement.Test.{Test}
use Rattle.jm_table.specs.declared.refinement.Test.TheVariants.{Group, Letters}

-- How classes are split.

-- these are the keys of all states
pub record AreKeys (test : Test) (t : Transitions) (classes firsts keys : List ℕ) : Type 0 where
  pub count : length keys ≡ t.states
  pub each : (p : ℕ) → p < t.states → IsKeyOf test t classes firsts p (get_or keys p 0)

-- two tests that give one answer, of two facts
pub equal_tests : (a b : Bool) (P Q : Type 0) → IsTrue a ↔ P → IsTrue b ↔ Q → OnFalse (not (beq a b)) (P ↔ Q)
equal_tests true true P Q of_p of_q = (λ _. of_q.0 refl, λ _. of_p.0 refl)
equal_tests true false P Q of_p of_q = tt
equal_tests false true P Q of_p of_q = tt
equal_tests false false P Q of_p of_q = (λ p. of_q.0 (of_p.1 p), λ q. of_p.0 (of_q.1 q))

-- a letter leads to a state of the table
pub next_within : (t : Transitions) (state letter : ℕ) → IsTable t → state < t.states → letter < t.letters → next_of t state letter < t.states
next_within t state letter table at lt =
    let place : state * t.letters + letter < length t.next = omega (arith, table.whole, mul-add-lt state t.letters letter t.states at lt) in
    All-get_or (λ s. s < t.states) t.next (state * t.letters + letter) 0 place table.within

module _ (t : Transitions) (classes : List ℕ) where
  -- states that a letter leads to distinguishable states are distinguishable
  pub letter_first : (p q letter : ℕ) → letter < t.letters → AreDistinguishable t (next_of t p letter) (next_of t q letter) → AreDistinguishable t p q
  letter_first p q letter lt tells = (
    letter ∷ tells.0,
    All-from_get_or (λ a. a < t.letters) (letter ∷ tells.0) 0 (λ i within. first_or_rest i within),
    tells.2,
  )
    where
      first_or_rest : (i : ℕ) → i < length (letter ∷ tells.0) → get_or (letter ∷ tells.0) i 0 < t.letters
      first_or_rest zero within = lt
      first_or_rest (suc i) within = All-get_or (λ a. a < t.letters) tells.0 i 0 (omega (arith, within)) tells.1

  pub AreDistinguishable-sym : (p q : ℕ) → AreDistinguishable t p q → AreDistinguishable t q p
  AreDistinguishable-sym p q h = (h.0, h.1, (h.2.0, elim h.2.1 [ inl a ↦ inr a | inr b ↦ inl b ]))

  module _ (table : IsTable t) (sound : IsSound t classes) where
    -- the test tells one of two states from a third, and not the other
    pub told : (test : Test) (p q f : ℕ) → p < t.states → q < t.states → FindsAlike test t classes p f → Tells test t classes q f → AreDistinguishable t p q
    told (Group group) p q f at_p at_q alike tells =
        ([], All-nil (λ a. a < t.letters), (group, elim tells [ inl a ↦ inr (a.0, λ there. a.1 (alike.0 there)) | inr b ↦ inl (alike.1 b.0, b.1) ]))
    told Letters p q f at_p at_q alike tells =
        letter_first p q tells.0 tells.1
        (sound (next_of t p tells.0) (next_of t q tells.0) (next_within t p tells.0 table at_p tells.1) (next_within t q tells.0 table at_q tells.1)
        (λ e. tells.2 (sym e ∙ alike tells.0 tells.1)))

  module _ (test : Test) (firsts keys : List ℕ) (partition : IsPartition t.states classes firsts) (made : AreKeys test t classes firsts keys) where
    -- states of different keys can be told apart
    pub keys_are_sound : IsTable t → IsSound t classes → (p q : ℕ) → p < t.states → q < t.states → get_or keys p 0 ≢ get_or keys q 0 → AreDistinguishable t p q
    keys_are_sound table sound p q at_p at_q differ =
        elim (eqb_tells (get_or classes p 0) (get_or classes q 0)) [
          | inr apart ↦ sound p q at_p at_q apart.1
          | inl same ↦
              let one : first_of classes firsts q ≡ first_of classes firsts p = ap (λ c. get_or firsts c 0) (sym same.1) in
              elim (made.each p at_p) [
                | inl alike_p ↦ elim (made.each q at_q) [
                  | inl alike_q ↦ absurd (differ (alike_p.0 ∙ same.1 ∙ sym alike_q.0))
                  | inr told_q ↦ told table sound test p q (first_of classes firsts p) at_p at_q alike_p.1 (subst (λ f. Tells test t classes q f) one told_q.1)
                ]
                | inr told_p ↦ elim (made.each q at_q) [
                  | inl alike_q ↦
                      AreDistinguishable-sym q p (told table sound test q p (first_of classes firsts p) at_q at_p (subst (λ f. FindsAlike test t classes q f) one alike_q.1) told_p.1)
                  | inr told_q ↦ absurd (differ (told_p.0 ∙ ap (λ c. c + length firsts) same.1 ∙ sym told_q.0))
                ]
              ]
        ]

    module _ (new_classes new_firsts : List ℕ) (by_keys : AreNumbered t.states keys firsts new_classes new_firsts) where
      pub split_is_sound : IsTable t → IsSound t classes → IsSound t new_classes
      split_is_sound table sound p q at_p at_q differ = keys_are_sound table sound p q at_p at_q (λ e. differ ((by_keys.by_keys p q at_p at_q).1 e))

      -- a key below the number of classes is that of a state that the test finds like the first of its class
      key_is_alike : (p : ℕ) → p < t.states → get_or keys p 0 < length firsts → (get_or keys p 0 ≡ get_or classes p 0) × FindsAlike test t classes p (first_of classes firsts p)
      key_is_alike p at below = elim (made.each p at) [ inl alike ↦ alike | inr tells ↦ absurd (omega (arith, tells.0, below)) ]

      pub split_is_stable : test ≡ Letters → IsTable t → length new_firsts ≡ length firsts → IsStable t new_classes
      split_is_stable letters table same_count p q at_p at_q same letter lt =
          let below = λ (s : ℕ) (at : s < t.states).
          let none : length firsts ≤ get_or keys s 0 → get_or keys s 0 < length firsts = λ many. absurd (omega (arith, same_count, by_keys.more s at many)) in
          let yes : get_or keys s 0 < length firsts = elim (cases_lt (get_or keys s 0) (length firsts)) [ inl less ↦ less | inr many ↦ none many ] in
          yes in
          let p_alike = key_is_alike p at_p (below p at_p) in
          let q_alike = key_is_alike q at_q (below q at_q) in
          let class : get_or classes p 0 ≡ get_or classes q 0 = sym p_alike.0 ∙ (by_keys.by_keys p q at_p at_q).0 same ∙ q_alike.0 in
          let p_next : get_or classes (next_of t p letter) 0 ≡ get_or classes (next_of t (first_of classes firsts p) letter) 0 =
          (let h : FindsAlike Letters t classes p (first_of classes firsts p) = subst (λ x. FindsAlike x t classes p (first_of classes firsts p)) letters p_alike.1 in h letter lt) in
          let q_next : get_or classes (next_of t q letter) 0 ≡ get_or classes (next_of t (first_of classes firsts q) letter) 0 =
          (let h : FindsAlike Letters t classes q (first_of classes firsts q) = subst (λ x. FindsAlike x t classes q (first_of classes firsts q)) letters q_alike.1 in h letter lt) in
          let after_p = next_within t p letter table at_p lt in
          let after_q = next_within t q letter table at_q lt in
          let one : get_or classes (next_of t p letter) 0 ≡ get_or classes (next_of t q letter) 0 =
          p_next ∙ ap (λ c. get_or classes (next_of t (get_or firsts c 0) letter) 0) class ∙ sym q_next in
          (by_keys.by_keys (next_of t p letter) (next_of t q letter) after_p after_q).1
          ((key_is_alike (next_of t p letter) after_p (below (next_of t p letter) after_p)).0 ∙ one ∙ sym (key_is_alike (next_of t q letter) after_q (below (next_of t q letter) after_q)).0)

      pub split_is_finer : IsFiner t.states classes new_classes
      split_is_finer p q at_p at_q same =
          let key = (by_keys.by_keys p q at_p at_q).0 same in
          elim (made.each p at_p) [
            | inl alike_p ↦ elim (made.each q at_q) [ inl alike_q ↦ omega (arith, key, alike_p.0, alike_q.0) | inr told_q ↦ absurd (omega (arith, key, alike_p.0, told_q.0, partition.within p at_p)) ]
            | inr told_p ↦ elim (made.each q at_q) [ inl alike_q ↦ absurd (omega (arith, key, told_p.0, alike_q.0, partition.within q at_q)) | inr told_q ↦ omega (arith, key, told_p.0, told_q.0) ]
          ]

      pub split_agrees : (group : ℕ) → test ≡ Group group → (p q : ℕ) → p < t.states → q < t.states → get_or new_classes p 0 ≡ get_or new_classes q 0
          → IsInGroup t p group ↔ IsInGroup t q group
      split_agrees group asked p q at_p at_q same =
          let key = (by_keys.by_keys p q at_p at_q).0 same in
          elim (made.each p at_p) [
            | inl alike_p ↦ elim (made.each q at_q) [
              | inl alike_q ↦
                  let one : first_of classes firsts q ≡ first_of classes firsts p = ap (λ c. get_or firsts c 0) (sym alike_q.0 ∙ sym key ∙ alike_p.0) in
                  let of_p : IsInGroup t p group ↔ IsInGroup t (first_of classes firsts p) group = subst (λ x. FindsAlike x t classes p (first_of classes firsts p)) asked alike_p.1 in
                  let of_q : IsInGroup t q group ↔ IsInGroup t (first_of classes firsts p) group = subst (λ f. FindsAlike (Group group) t classes q f) one (subst (λ x. FindsAlike x t classes q (first_of classes firsts q)) asked alike_q.1) in
                  (λ there. of_q.1 (of_p.0 there), λ there. of_p.1 (of_q.0 there))
              | inr told_q ↦ absurd (omega (arith, key, alike_p.0, told_q.0, partition.within p at_p))
            ]
            | inr told_p ↦ elim (made.each q at_q) [
              | inl alike_q ↦ absurd (omega (arith, key, told_p.0, alike_q.0, partition.within q at_q))
              | inr told_q ↦
                  let class : get_or classes q 0 ≡ get_or classes p 0 = omega (arith, key, told_p.0, told_q.0) in
                  let one : first_of classes firsts q ≡ first_of classes firsts p = ap (λ c. get_or firsts c 0) class in
                  let of_p : GroupTells t group p (first_of classes firsts p) = subst (λ x. Tells x t classes p (first_of classes firsts p)) asked told_p.1 in
                  let of_q : GroupTells t group q (first_of classes firsts p) = subst (λ f. Tells (Group group) t classes q f) one (subst (λ x. Tells x t classes q (first_of classes firsts q)) asked told_q.1) in
                  elim of_p [
                    | inl in_p ↦ elim of_q [ inl in_q ↦ (λ _. in_q.0, λ _. in_p.0) | inr out_q ↦ absurd (in_p.1 out_q.0) ]
                    | inr out_p ↦ elim of_q [ inl in_q ↦ absurd (in_q.1 out_p.0) | inr out_q ↦ (λ there. absurd (out_p.1 there), λ there. absurd (out_q.1 there)) ]
                  ]
            ]
          ]

-- what follows from classes by keys, where the keys are lent as this list
pub on_split : {E : Type 0} (r : Result (Unit {0}) E) (n : ℕ) (keys list firsts classes new_firsts : List ℕ) (Q : Type 0) → list ≡ keys → length keys ≡ n
    → (AreNumbered n keys firsts classes new_firsts → Q) → OnOk r (AreNumbered (length list) list firsts classes new_firsts) → OnOk r Q
on_split r n keys list firsts classes new_firsts Q same count follows =
    IfOk-weaker r (λ _. AreNumbered (length list) list firsts classes new_firsts) (λ _. Q)
    (λ _ h. follows (subst (λ m. AreNumbered m keys firsts classes new_firsts) count (subst (λ ks. AreNumbered (length ks) ks firsts classes new_firsts) same h)))
