-- What a word hits and what is left of it, with one letter more, and where nothing resets.
use Rattle.std.proofs.Common.{◌≡◌, ◌≢◌, ◌⊎◌, inl, inr, ℕ, arith, List, [], ◌∷◌, ◌++◌, subst}
use Rattle.std.specs.Prelude.{Contains, ◌↔◌}
use Rattle.jm_model.specs.Meanings.{IsCreated, IsHit}
use Rattle.jm_machine.specs.Rests.{IsRest}
use Rattle.jm_machine.specs.PropertyMeanings.{PropertyRules, IsNamedCategory, IsInCategory, Resets, IsResetBy, property_meaning}
use Rattle.jm_machine.proofs.RestLemmas.{letter_there, left_by, asked_at, asked_is, asked_all, one_asked}
use Rattle.jm_machine.proofs.PropertyLemmas.{some_within}

module _ (r : PropertyRules) where
  module _ (w rest : List ℕ) (e : ℕ) (left : IsRest (Resets r) w rest) (created : IsCreated (property_meaning r) (w ++ e ∷ [])) where
    pub hit_more : (k : ℕ) → IsHit (property_meaning r) (w ++ e ∷ []) k ↔ IsInCategory r (rest ++ e ∷ []) k
    hit_more k = (
      λ hit.
          let run = hit.3 in
          subst (λ (x : List ℕ). IsInCategory r x k) (asked_is (Resets r) w rest run.0 e left run.1) run.2,
      λ h. (letter_there w e, created, some_within (IsNamedCategory r (rest ++ e ∷ [])) r.handlers k h, (rest ++ e ∷ [], asked_at (Resets r) w rest e left, h)),
    )

    reset_more : Resets r (rest ++ e ∷ []) ↔ IsResetBy r (w ++ e ∷ [])
    reset_more = (
      λ reset. (reset.0, reset.1, (hit_more reset.0).1 reset.2),
      λ hit. (hit.0, hit.1, (hit_more hit.0).0 hit.2),
    )

    pub rest_more : (after : List ℕ) → IsRest (Resets r) (w ++ e ∷ []) after ↔ ((IsResetBy r (w ++ e ∷ []) × (after ≡ [])) ⊎ ((IsResetBy r (w ++ e ∷ []) → ⊥) × (after ≡ rest ++ e ∷ [])))
    rest_more after =
        let by = left_by (Resets r) w rest after e left in (
          λ h. elim (by.0 h) [
            | inl reset ↦ inl (reset_more.0 reset.0, reset.1)
            | inr stays ↦ inr (λ hit. stays.0 (reset_more.1 hit), stays.1)
          ],
          λ h. elim h [
            | inl reset ↦ by.1 (inl (reset_more.1 reset.0, reset.1))
            | inr stays ↦ by.1 (inr (λ reset. stays.0 (reset_more.0 reset), stays.1))
          ],
        )

  pub hit_plainly : r.resets ≡ [] → (w : List ℕ) (k : ℕ) → IsHit (property_meaning r) w k ↔ ((w ≢ []) × IsCreated (property_meaning r) w × IsInCategory r w k)
  hit_plainly none w k = (
    λ hit.
        let run = hit.3 in
        (hit.0, hit.1, subst (λ (x : List ℕ). IsInCategory r x k) (one_asked (Resets r) w run.0 w run.1 (asked_all (Resets r) never w hit.0)) run.2),
    λ h. (h.0, h.1, some_within (IsNamedCategory r w) r.handlers k h.2, (w, asked_all (Resets r) never w h.0, h.2)),
  )
    where
      never : (x : List ℕ) → Resets r x → ⊥
      never x reset = no_place (subst (λ (xs : List ℕ). Contains xs reset.0) none reset.1)
        where
          no_place : Contains {X = ℕ} [] reset.0 → ⊥
          no_place h = omega (arith, h.1)
