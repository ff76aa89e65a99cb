use Rattle.std.proofs.Common.{ℕ, zero, suc, ◌≡◌, ◌≢◌, ◌<◌, ◌+◌, ◌*◌, ◌/◌, ◌%◌, ◌↔◌, inl, inr, List, [], ◌∷◌, ◌++◌, All, Contains, Some, length, get_or, slice_get, refl, sym, ap, subst, ◌∙◌, arith}
use Rattle.std.specs.Prelude.{IsSomeAnd}
use Rattle.std.proofs.lemmas.Bool.{cases_lt}
use Rattle.std.proofs.lemmas.Nat.{div-mul-add, mod-mul-add, mul-add-lt}
use Rattle.std.proofs.lemmas.List.Elements.{All-head, All-tail, All-from_get_or}
use Rattle.jm_table.specs.Tables.{Transitions, next_of, state_from, state_after_of, IsTable, IsWord, IsInGroup}
use Rattle.jm_table.specs.Minimal.{GroupTells, IsReduced, IsReachable, HaveSameGroups}
use Rattle.jm_table.specs.Partitions.{IsPartition, IsSound, IsStable, AgreesBelow}
use Rattle.jm_table.proofs.PlaceLemmas.{slice_get-push}
use Rattle.jm_table.proofs.ClassLemmas.{place_within}
use Rattle.jm_table.proofs.SplitLemmas.{next_within}

-- The table of classes.

-- the states of the new table are the classes: letters lead where they lead from the first states
pub record IsQuotient (t : Transitions) (classes firsts : List ℕ) (u : Transitions) : Type 0 where
  pub states : u.states ≡ length firsts
  pub letters : u.letters ≡ t.letters
  pub groups : length u.groups ≡ length t.groups
  pub next : (c letter : ℕ) → c < length firsts → letter < t.letters
      → next_of u c letter ≡ get_or classes (next_of t (get_or firsts c 0) letter) 0
  pub each : (c group : ℕ) → c < length firsts → group < length t.groups
      → IsInGroup u c group ↔ IsInGroup t (get_or firsts c 0) group

-- what stands in a group is in one that is there
pub group_is_there : (groups : List (List ℕ)) (group state : ℕ) → IsSomeAnd (slice_get groups group) (λ states. Contains states state) → group < length groups
group_is_there [] group state h = absurd h
group_is_there (g ∷ groups) zero state h = omega arith
group_is_there (g ∷ groups) (suc group) state h = omega (arith, group_is_there groups group state h)

-- a group that is there stays
pub slice_get-push_old : {X : Type 0} (xs : List X) (x : X) (k : ℕ) → k < length xs → slice_get (xs ++ x ∷ []) k ≡ slice_get xs k
slice_get-push_old [] x k lt = absurd (omega (arith, lt))
slice_get-push_old (y ∷ xs) x zero lt = refl
slice_get-push_old (y ∷ xs) x (suc k) lt = slice_get-push_old xs x k (omega (arith, lt))

-- the states of the groups below one more, where a group was added whose states are these
pub groups_more : (groups : List (List ℕ)) (n : ℕ) (added members : List ℕ) (P : ℕ → ℕ → Type 0) (classes : ℕ) → length groups ≡ n
    → ((c group : ℕ) → c < classes → group < n → IsSomeAnd (slice_get groups group) (λ states. Contains states c) ↔ P c group)
    → ((c : ℕ) → Contains added c ↔ Contains members c)
    → ((c : ℕ) → c < classes → Contains members c ↔ P c n)
    → (c group : ℕ) → c < classes → group < n + 1 → IsSomeAnd (slice_get (groups ++ added ∷ []) group) (λ states. Contains states c) ↔ P c group
groups_more groups n added members P classes count before same exact c group below within =
    elim (cases_lt group n) [
      | inl old ↦ let there : group < length groups = omega (arith, old, count) in rw (slice_get-push_old groups added group there) (before c group below old)
      | inr last ↦
          let here : n ≡ group = omega (arith, last, within) in
          let place : slice_get (groups ++ added ∷ []) n ≡ Some added = subst (λ k. slice_get (groups ++ added ∷ []) k ≡ Some added) count (slice_get-push groups added) in
          subst (λ g. IsSomeAnd (slice_get (groups ++ added ∷ []) g) (λ states. Contains states c) ↔ P c g) here
          (rw place (λ h. (exact c below).0 ((same c).0 h), λ h. (same c).1 ((exact c below).1 h)))
    ]

module _ (t : Transitions) (classes firsts : List ℕ) (u : Transitions) (table : IsTable t) (partition : IsPartition t.states classes firsts) (quotient : IsQuotient t classes firsts u) where
  module _ (agrees : AgreesBelow t classes (length t.groups)) (stable : IsStable t classes) where
    -- the class of a state
    abbrev class_of : ℕ → ℕ
    class_of p = get_or classes p 0

    -- the first state of a state's class is of its class
    first_is_of_class : (p : ℕ) → p < t.states → (get_or firsts (class_of p) 0 < t.states) × (class_of (get_or firsts (class_of p) 0) ≡ class_of p)
    first_is_of_class p at = partition.first (class_of p) (partition.within p at)

    letter_leads : (p letter : ℕ) → p < t.states → letter < t.letters → next_of u (class_of p) letter ≡ class_of (next_of t p letter)
    letter_leads p letter at lt =
        let first = first_is_of_class p at in
        quotient.next (class_of p) letter (partition.within p at) lt ∙ stable (get_or firsts (class_of p) 0) p first.0 at first.1 letter lt

    -- a word leads from the class of a state to the class of where it leads from the state
    pub word_leads : (word : List ℕ) (p : ℕ) → p < t.states → IsWord t word → (state_from t p word < t.states) × (state_from u (class_of p) word ≡ class_of (state_from t p word))
    word_leads [] p at below = (at, refl)
    word_leads (letter ∷ word) p at below =
        let lt = All-head (λ a. a < t.letters) letter word below in
        let rest = word_leads word (next_of t p letter) (next_within t p letter table at lt) (All-tail (λ a. a < t.letters) letter word below) in
        (rest.0, ap (λ s. state_from u s word) (letter_leads p letter at lt) ∙ rest.1)

    -- the class of a state is in the state's groups
    class_groups : (p group : ℕ) → p < t.states → IsInGroup u (class_of p) group ↔ IsInGroup t p group
    class_groups p group at =
        elim (cases_lt group (length t.groups)) [
          | inl there ↦
              let first = first_is_of_class p at in
              let one = quotient.each (class_of p) group (partition.within p at) there in
              let two = agrees group there (get_or firsts (class_of p) 0) p first.0 at first.1 in
              (λ h. two.0 (one.0 h), λ h. one.1 (two.1 h))
          | inr away ↦ (
            λ h. absurd (omega (arith, away, quotient.groups, group_is_there u.groups group (class_of p) h)),
            λ h. absurd (omega (arith, away, group_is_there t.groups group p h)),
          )
        ]

    word_groups : (word : List ℕ) (p group : ℕ) → p < t.states → IsWord t word → IsInGroup u (state_from u (class_of p) word) group ↔ IsInGroup t (state_from t p word) group
    word_groups word p group at below =
        let leads = word_leads word p at below in
        subst (λ s. IsInGroup u s group ↔ IsInGroup t (state_from t p word) group) (sym leads.1) (class_groups (state_from t p word) group leads.0)

    start_is_class_0 : class_of 0 ≡ 0
    start_is_class_0 = ap class_of (sym partition.start) ∙ (partition.first 0 partition.some_class).1

    pub same_groups : HaveSameGroups t u
    same_groups word below group =
        subst (λ s. IsInGroup u (state_from u s word) group ↔ IsInGroup t (state_after_of t word) group) start_is_class_0 (word_groups word 0 group table.some_states below)

    pub is_reduced : IsSound t classes → IsReduced u
    is_reduced sound c d at_c at_d differ =
        let first_c = partition.first c (omega (arith, at_c, quotient.states)) in
        let first_d = partition.first d (omega (arith, at_d, quotient.states)) in
        let p = get_or firsts c 0 in
        let q = get_or firsts d 0 in
        let apart : class_of p ≢ class_of q = λ e. differ (sym first_c.1 ∙ e ∙ first_d.1) in
        let tells = sound p q first_c.0 first_d.0 apart in
        let of_c : IsInGroup u (state_from u c tells.0) tells.2.0 ↔ IsInGroup t (state_from t p tells.0) tells.2.0 =
        subst (λ s. IsInGroup u (state_from u s tells.0) tells.2.0 ↔ IsInGroup t (state_from t p tells.0) tells.2.0) first_c.1 (word_groups tells.0 p tells.2.0 first_c.0 tells.1) in
        let of_d : IsInGroup u (state_from u d tells.0) tells.2.0 ↔ IsInGroup t (state_from t q tells.0) tells.2.0 =
        subst (λ s. IsInGroup u (state_from u s tells.0) tells.2.0 ↔ IsInGroup t (state_from t q tells.0) tells.2.0) first_d.1 (word_groups tells.0 q tells.2.0 first_d.0 tells.1) in
        let group_tells : GroupTells u tells.2.0 (state_from u c tells.0) (state_from u d tells.0) =
        elim tells.2.1 [ inl a ↦ inl (of_c.1 a.0, λ h. a.1 (of_d.0 h)) | inr b ↦ inr (of_d.1 b.0, λ h. b.1 (of_c.0 h)) ] in
        (tells.0, subst (λ n. All (λ a. a < n) tells.0) (sym quotient.letters) tells.1, (tells.2.0, group_tells))

    pub is_reachable : IsReachable t → IsReachable u
    is_reachable reached c at =
        let first = partition.first c (omega (arith, at, quotient.states)) in
        let way = reached (get_or firsts c 0) first.0 in
        let leads = word_leads way.0 0 table.some_states way.1 in (
          way.0,
          subst (λ n. All (λ a. a < n) way.0) (sym quotient.letters) way.1,
          ap (λ s. state_from u s way.0) (sym start_is_class_0) ∙ leads.1 ∙ ap class_of way.2 ∙ first.1,
        )

module _ (t : Transitions) (classes firsts next : List ℕ) (count : length next ≡ length firsts * t.letters)
    (each : (k : ℕ) → k < length next → get_or next k 0 ≡ get_or classes (next_of t (get_or firsts (k / t.letters) 0) (k % t.letters)) 0) where
  -- these next states are classes
  pub next_are_classes : IsTable t → IsPartition t.states classes firsts → All (λ c. c < length firsts) next
  next_are_classes table partition =
      All-from_get_or (λ c. c < length firsts) next 0 (
      λ k lt.
      let place = place_within k (length firsts) t.letters (omega (arith, lt, count)) in
      let some : 0 < t.letters = place.0 in
      let class : k / t.letters < length firsts = place.1 in
      let letter : k % t.letters < t.letters = omega (arith, some) in
      let first = partition.first (k / t.letters) class in
      subst (λ c. c < length firsts) (sym (each k lt)) (partition.within (next_of t (get_or firsts (k / t.letters) 0) (k % t.letters)) (next_within t (get_or firsts (k / t.letters) 0) (k % t.letters) table first.0 letter))
      )

  -- where a table's next states are these, letters lead where they lead from the first states
  next_is_quotient : (u : Transitions) → u.letters ≡ t.letters → u.next ≡ next
      → (c letter : ℕ) → c < length firsts → letter < t.letters → next_of u c letter ≡ get_or classes (next_of t (get_or firsts c 0) letter) 0
  next_is_quotient u letters same c letter at lt =
      let within : c * t.letters + letter < length next = omega (arith, count, mul-add-lt c t.letters letter (length firsts) at lt) in
      ap (λ n. get_or u.next (c * n + letter) 0) letters
      ∙ ap (λ xs. get_or xs (c * t.letters + letter) 0) same
      ∙ each (c * t.letters + letter) within
      ∙ ap (λ k. get_or classes (next_of t (get_or firsts k 0) ((c * t.letters + letter) % t.letters)) 0) (div-mul-add c t.letters letter lt)
      ∙ ap (λ k. get_or classes (next_of t (get_or firsts c 0) k) 0) (mod-mul-add c t.letters letter lt)

  -- a table of these next states, with as many groups, each of which has the classes whose first states are in it
  pub is_quotient : (u : Transitions) (n : ℕ) → u.states ≡ length firsts → u.letters ≡ t.letters → u.next ≡ next → n ≡ length t.groups → length u.groups ≡ n
      → ((c group : ℕ) → c < length firsts → group < n → IsInGroup u c group ↔ IsInGroup t (get_or firsts c 0) group)
      → IsQuotient t classes firsts u
  is_quotient u n states letters same all groups in_groups = record {
    states = states;
    letters = letters;
    groups = groups ∙ all;
    next = next_is_quotient u letters same;
    each = λ c group at within. in_groups c group at (omega (arith, within, all));
  }
