use Rattle.std.proofs.Common.{ℕ, zero, suc, ◌≡◌, ◌<◌, ◌+◌, ◌*◌, ◌↔◌, inl, inr, Bool, true, false, List, [], ◌∷◌, length, get_or, Contains, bit_or, refl, sym, ap, subst, ◌∙◌, arith, ◌||◌}
use Rattle.std.specs.Prelude.{slice_get, option_map, unwrap_or, Some, Option, if◌then◌else◌}
use Rattle.std.proofs.lemmas.Nat.{or_lt}
use Rattle.std.specs.Int.Bits.{or_zero_r}
use Rattle.std.proofs.lemmas.List.{get_or_default}
use borrow.Author.Count.{below_more}
use Rattle.jm_events.specs.Events.{EventDefinitions}
use Rattle.jm_goal.specs.Goals.{GoalDefinition}
use Rattle.jm_table.specs.Tables.{Transitions, IsTable, IsWord, next_of}
use Rattle.jm_coenable.specs.Needs.{params_at, params_of, set_at, is_reset, origin_of, step_of, IsHandled, IsHitBy, IsNeededFrom}
use Rattle.jm_coenable.proofs.SetLemmas.{part_put, part_then}
use Rattle.jm_coenable.specs.Rounds.{IsPut, IsPart, AreNeeded, IsClosedBelow, AreClosedStates}

-- ---- words

pub word_cons : (t : Transitions) (first : ℕ) (rest : List ℕ) → first < t.letters → IsWord t rest → IsWord t (first ∷ rest)
word_cons t first rest lt word zero d h = lt
word_cons t first rest lt word (suc k) d h = word k d (omega (arith, h))

pub word_head : (t : Transitions) (first : ℕ) (rest : List ℕ) → IsWord t (first ∷ rest) → first < t.letters
word_head t first rest word = word 0 0 (omega arith)

pub word_tail : (t : Transitions) (first : ℕ) (rest : List ℕ) → IsWord t (first ∷ rest) → IsWord t rest
word_tail t first rest word = λ k d lt. word (suc k) d (omega (arith, lt))

next_within : (t : Transitions) (state letter : ℕ) → IsTable t → state < t.states → letter < t.letters → next_of t state letter < t.states
next_within t state letter table lt below =
    table.within (state * t.letters + letter) 0 (grind (arith, table.whole))

origin_within : (t : Transitions) (g : GoalDefinition) (state : ℕ) → IsTable t → state < t.states → origin_of t g state < t.states
origin_within t g state table lt = by_case (is_reset t g state)
  where
    by_case : (b : Bool) → (if b then 0 else state) < t.states
    by_case true = table.some_states
    by_case false = lt

pub step_within : (t : Transitions) (g : GoalDefinition) (state letter : ℕ) → IsTable t → state < t.states → letter < t.letters → step_of t g state letter < t.states
step_within t g state letter table lt below = next_within t (origin_of t g state) letter table (origin_within t g state table lt) below

pub or_none : (n : ℕ) → bit_or n 0 ≡ n
or_none n = or_zero_r n

pub params_few : (t : Transitions) (v : EventDefinitions) → ((letter : ℕ) → letter < t.letters → params_at v letter < 256) → (word : List ℕ) → IsWord t word → params_of v word < 256
params_few t v few [] word = omega arith
params_few t v few (letter ∷ rest) word =
    or_lt 8 (params_at v letter) (params_of v rest) (few letter (word_head t letter rest word)) (params_few t v few rest (word_tail t letter rest word))

-- ---- sound

module _ (t : Transitions) (g : GoalDefinition) (v : EventDefinitions) (state letter : ℕ) where
  pub needs_one : letter < t.letters → IsHandled t g (step_of t g state letter) → IsNeededFrom t g v state (params_at v letter)
  needs_one lt hit = (letter, [], record { letters = word_cons t letter [] lt (λ k d h. absurd (omega (arith, h))); hit = hit; params = sym (or_none (params_at v letter)) })

  pub needs_more : (mask : ℕ) → letter < t.letters → IsNeededFrom t g v (step_of t g state letter) mask → IsNeededFrom t g v state (bit_or (params_at v letter) mask)
  needs_more mask lt need =
      let h = need.2 in
      (letter, need.0 ∷ need.1, record { letters = word_cons t letter (need.0 ∷ need.1) lt h.letters; hit = h.hit; params = ap (λ (m : ℕ). bit_or (params_at v letter) m) h.params })

pub needs_put : (t : Transitions) (g : GoalDefinition) (v : EventDefinitions) (a b : List (List ℕ)) (wanted : Bool) (place member : ℕ) (changed : Bool)
    → IsPut a b wanted place member changed → (AreNeeded t g v a → wanted ≡ true → IsNeededFrom t g v place member) → AreNeeded t g v a → AreNeeded t g v b
needs_put t g v a b wanted place member changed put need sound state mask lt h =
    elim (put.only state mask h) [
      | inl old ↦ sound state mask lt old
      | inr new ↦ subst (λ (s : ℕ). IsNeededFrom t g v s mask) (sym new.1) (subst (λ (m : ℕ). IsNeededFrom t g v place m) (sym new.2) (need sound new.0))
    ]

-- ---- the part of a round for a letter

module _ (t : Transitions) (g : GoalDefinition) (v : EventDefinitions) (state letter next params : ℕ) (below : letter < t.letters) (leads : next ≡ step_of t g state letter)
    (bound : option_map (λ e. e.mask) (slice_get v.events letter) ≡ Some params) where
  params_is : params_at v letter ≡ params
  params_is = ap (λ (o : Option ℕ). unwrap_or o 0) bound

  pub follow_begins : (a b : List (List ℕ)) (hit changed : Bool) → params < 256 → (hit ≡ true ↔ IsHandled t g next) → IsPut a b hit state params changed
      → IsPart (AreNeeded t g v) (IsClosedBelow t g v state letter 0) a b changed
  follow_begins a b hit changed few tells put =
      part_put (AreNeeded t g v) (IsClosedBelow t g v state letter 0) a b hit state params changed put
      (needs_put t g v a b hit state params changed put (λ _ is_hit.
      subst (λ (m : ℕ). IsNeededFrom t g v state m) params_is (needs_one t g v state letter below (subst (λ (s : ℕ). IsHandled t g s) leads (tells.0 is_hit)))))
      (λ _. record {
        few = subst (λ (m : ℕ). m < 256) (sym params_is) few;
        hit = λ handled. subst (λ (m : ℕ). Contains (set_at b state) m) (sym params_is) (put.here (tells.1 (subst (λ (s : ℕ). IsHandled t g s) (sym leads) handled)));
        more = λ mask lt. absurd (omega (arith, lt));
      })

  pub follow_more : (a b c : List (List ℕ)) (found : List ℕ) (number : ℕ) (wanted changed more : Bool) → next < t.states → length b ≡ t.states → found ≡ get_or b next found
      → (wanted ≡ true ↔ Contains found number) → IsPart (AreNeeded t g v) (IsClosedBelow t g v state letter number) a b changed → IsPut b c wanted state (bit_or params number) more
      → IsPart (AreNeeded t g v) (IsClosedBelow t g v state letter (number + 1)) a c (changed || more)
  follow_more a b c found number wanted changed more within count is tells part put =
      let at : found ≡ get_or b next [] = is ∙ get_or_default b next found [] (omega (arith, within, count)) in
      let Here : List (List ℕ) → Type 0 =
      λ sets. Contains (set_at sets (step_of t g state letter)) number → Contains (set_at sets state) (bit_or (params_at v letter) number) in
      part_then (AreNeeded t g v) (IsClosedBelow t g v state letter number) Here (IsClosedBelow t g v state letter (number + 1)) a b c changed more part
      (part_put (AreNeeded t g v) Here b c wanted state (bit_or params number) more put
      (needs_put t g v b c wanted state (bit_or params number) more put (λ sound is_wanted.
      subst (λ (m : ℕ). IsNeededFrom t g v state (bit_or m number)) params_is (needs_more t g v state letter number below
      (subst (λ (s : ℕ). IsNeededFrom t g v s number) leads (sound next number within (subst (λ (s : List ℕ). Contains s number) at (tells.0 is_wanted)))))))
      (λ same there.
      let before : Contains (set_at b (step_of t g state letter)) number = subst (λ (s : List (List ℕ)). Contains (set_at s (step_of t g state letter)) number) same there in
      let held : Contains found number = subst (λ (s : List ℕ). Contains s number) (sym at) (subst (λ (s : ℕ). Contains (set_at b s) number) (sym leads) before) in
      subst (λ (m : ℕ). Contains (set_at c state) (bit_or m number)) (sym params_is) (put.here (tells.1 held))))
      (λ closed here. record {
        few = closed.few;
        hit = closed.hit;
        more = below_more (λ (mask : ℕ). Contains (set_at c (step_of t g state letter)) mask → Contains (set_at c state) (bit_or (params_at v letter) mask)) number closed.more here;
      })

-- ---- complete

pub needs_all : (t : Transitions) (g : GoalDefinition) (v : EventDefinitions) (sets : List (List ℕ)) → IsTable t → AreClosedStates t g v sets
    → (rest : List ℕ) (state first mask : ℕ) → state < t.states → IsHitBy t g v state first rest mask → Contains (set_at sets state) mask
needs_all t g v sets table closed [] state first mask lt h =
    let here = closed state lt first (word_head t first [] h.letters) in
    let e : mask ≡ params_at v first = h.params ∙ or_none (params_at v first) in
    subst (λ (m : ℕ). Contains (set_at sets state) m) (sym e) (here.hit h.hit)
needs_all t g v sets table closed (second ∷ rest) state first mask lt h =
    let below = word_head t first (second ∷ rest) h.letters in
    let word = word_tail t first (second ∷ rest) h.letters in
    let here = closed state lt first below in
    let few : (letter : ℕ) → letter < t.letters → params_at v letter < 256 = λ letter l. (closed state lt letter l).few in
    let there = needs_all t g v sets table closed rest (step_of t g state first) second (params_of v (second ∷ rest)) (step_within t g state first table lt below)
    (record { letters = word; hit = h.hit; params = refl }) in
    subst (λ (m : ℕ). Contains (set_at sets state) m) (sym h.params) (here.more (params_of v (second ∷ rest)) (params_few t v few (second ∷ rest) word) there)
