use Rattle.std.specs.Prelude.{slice_get, option_map, unwrap_or, Some, Option}
use Rattle.std.proofs.Common.{ℕ, ◌≡◌, ◌<◌, ◌+◌, ◌↔◌, ◌⊎◌, inl, inr, Bool, true, List, [], ◌∷◌, Contains, bit_or, refl, sym, ap, subst, ◌∙◌, arith}
use Rattle.std.proofs.lemmas.Bool.Decides.{eqb_tells}
use Rattle.jm_events.specs.Events.{EventDefinitions}
use Rattle.jm_goal.specs.Goals.{GoalDefinition}
use Rattle.jm_table.specs.Tables.{Transitions, IsTable}
use Rattle.jm_coenable.specs.Needs.{params_at, params_of, set_at, step_of, IsHandled, IsFirst, IsHitBy, IsNeededFrom, IsNeededAtStart}
use Rattle.jm_coenable.specs.Searches.{IsJoined, IsStep, IsStart}
use Rattle.jm_coenable.proofs.NeedLemmas.{step_within, word_cons, word_head, word_tail, or_none}

-- the masks that are joined with those below a number, with the next number asked
pub joined_more : (params : ℕ) (rests begin before after : List ℕ) (number : ℕ) (wanted : Bool)
    → ((m : ℕ) → Contains before m ↔ (Contains begin m ⊎ ((rest : ℕ) × (rest < number) × Contains rests rest × (m ≡ bit_or params rest))))
    → (wanted ≡ true ↔ Contains rests number) → ((m : ℕ) → Contains after m ↔ (Contains before m ⊎ ((wanted ≡ true) × (m ≡ bit_or params number))))
    → (m : ℕ) → Contains after m ↔ (Contains begin m ⊎ ((rest : ℕ) × (rest < number + 1) × Contains rests rest × (m ≡ bit_or params rest)))
joined_more params rests begin before after number wanted so_far tells step m = (
  λ h. elim ((step m).0 h) [
    | inl old ↦ elim ((so_far m).0 old) [ inl b ↦ inl b | inr r ↦ inr (r.0, omega (arith, r.1), r.2, r.3) ]
    | inr new ↦ inr (number, omega arith, tells.0 new.0, new.1)
  ],
  λ h. elim h [
    | inl b ↦ (step m).1 (inl ((so_far m).1 (inl b)))
    | inr r ↦ elim (eqb_tells r.0 number) [
      | inl same ↦ (step m).1 (inr (tells.1 (subst (λ (k : ℕ). Contains rests k) same.1 r.2), r.3 ∙ ap (λ (k : ℕ). bit_or params k) same.1))
      | inr differs ↦ (step m).1 (inl ((so_far m).1 (inr (r.0, omega (arith, r.1, differs.1), r.2, r.3))))
    ]
  ],
)

-- what a letter needs at the start was put
pub step_is : (t : Transitions) (g : GoalDefinition) (v : EventDefinitions) (needed : List (List ℕ)) (letter next params : ℕ) (found old middle new : List ℕ) (hit : Bool)
    → next ≡ step_of t g 0 letter → option_map (λ e. e.mask) (slice_get v.events letter) ≡ Some params → found ≡ set_at needed next → (hit ≡ true ↔ IsHandled t g next)
    → ((m : ℕ) → Contains middle m ↔ (Contains old m ⊎ ((hit ≡ true) × (m ≡ params)))) → ((m : ℕ) → Contains new m ↔ (Contains middle m ⊎ IsJoined params found m))
    → (m : ℕ) → Contains new m ↔ (Contains old m ⊎ IsStep t g v needed letter m)
step_is t g v needed letter next params found old middle new hit leads bound is tells one more m =
    let params_is : params_at v letter ≡ params = ap (λ (o : Option ℕ). unwrap_or o 0) bound in
    let at : found ≡ set_at needed (step_of t g 0 letter) = is ∙ ap (λ (k : ℕ). set_at needed k) leads in (
      λ h. elim ((more m).0 h) [
        | inl kept ↦ elim ((one m).0 kept) [
          | inl before ↦ inl before
          | inr put ↦ inr (inl (subst (λ (s : ℕ). IsHandled t g s) leads (tells.0 put.0), put.1 ∙ sym params_is))
        ]
        | inr j ↦ inr (inr (j.0, subst (λ (s : List ℕ). Contains s j.0) at j.1, j.2 ∙ ap (λ (p : ℕ). bit_or p j.0) (sym params_is)))
      ],
      λ h. elim h [
        | inl before ↦ (more m).1 (inl ((one m).1 (inl before)))
        | inr step ↦ elim step [
          | inl last ↦ (more m).1 (inl ((one m).1 (inr (tells.1 (subst (λ (s : ℕ). IsHandled t g s) (sym leads) last.0), last.1 ∙ params_is))))
          | inr j ↦ (more m).1 (inr (j.0, subst (λ (s : List ℕ). Contains s j.0) (sym at) j.1, j.2 ∙ ap (λ (p : ℕ). bit_or p j.0) params_is))
        ]
      ],
    )

-- what so many letters need at the start, with the next letter
pub start_more : (First : ℕ → Type 0) (Step : ℕ → ℕ → Type 0) (before after : List ℕ) (letter : ℕ)
    → ((m : ℕ) → Contains before m ↔ ((l : ℕ) × (l < letter) × First l × Step l m)) → ((m : ℕ) → Contains after m ↔ (Contains before m ⊎ (First letter × Step letter m)))
    → (m : ℕ) → Contains after m ↔ ((l : ℕ) × (l < letter + 1) × First l × Step l m)
start_more First Step before after letter so_far step m = (
  λ h. elim ((step m).0 h) [
    | inl old ↦ let o = (so_far m).0 old in (o.0, omega (arith, o.1), o.2, o.3)
    | inr new ↦ (letter, omega arith, new.0, new.1)
  ],
  λ h. elim (eqb_tells h.0 letter) [
    | inl same ↦ (step m).1 (inr (subst (λ (l : ℕ). First l) same.1 h.2, subst (λ (l : ℕ). Step l m) same.1 h.3))
    | inr differs ↦ (step m).1 (inl ((so_far m).1 (h.0, omega (arith, h.1, differs.1), h.2, h.3)))
  ],
)

-- what the letters need at the start is what is needed there
module _ (t : Transitions) (g : GoalDefinition) (v : EventDefinitions) (needed : List (List ℕ)) (table : IsTable t)
    (needs : (state mask : ℕ) → state < t.states → Contains (set_at needed state) mask ↔ IsNeededFrom t g v state mask) where
  within : (letter : ℕ) → letter < t.letters → step_of t g 0 letter < t.states
  within letter lt = step_within t g 0 letter table table.some_states lt

  pub start_sound : (mask : ℕ) → IsStart t g v needed t.letters mask → IsNeededAtStart t g v mask
  start_sound mask s =
      let letter = s.0 in
      elim s.3 [
        | inl last ↦
            (letter, [], s.2, record { letters = word_cons t letter [] s.1 (λ k d h. absurd (omega (arith, h))); hit = last.0; params = last.1 ∙ sym (or_none (params_at v letter)) })
        | inr j ↦
            let need = (needs (step_of t g 0 letter) j.0 (within letter s.1)).0 j.1 in (
              letter,
              need.0 ∷ need.1,
              s.2,
              record {
                letters = word_cons t letter (need.0 ∷ need.1) s.1 need.2.letters;
                hit = need.2.hit;
                params = j.2 ∙ ap (λ (m : ℕ). bit_or (params_at v letter) m) need.2.params;
              },
            )
      ]

  pub start_complete : (rest : List ℕ) (mask first : ℕ) → IsFirst g first → IsHitBy t g v 0 first rest mask → IsStart t g v needed t.letters mask
  start_complete [] mask first begins h =
      (first, word_head t first [] h.letters, begins, inl (h.hit, h.params ∙ or_none (params_at v first)))
  start_complete (second ∷ rest) mask first begins h =
      let lt = word_head t first (second ∷ rest) h.letters in
      let there = (needs (step_of t g 0 first) (params_of v (second ∷ rest)) (within first lt)).1
      (second, rest, record { letters = word_tail t first (second ∷ rest) h.letters; hit = h.hit; params = refl }) in
      (first, lt, begins, inr (params_of v (second ∷ rest), there, h.params))
