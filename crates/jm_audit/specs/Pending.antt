-- The steps that callers have still to do.
use Rattle.std.specs.Prelude.{ℕ, ◌≡◌, ◌≢◌, ◌<◌, ◌==◌, ◌⊎◌, List, [], ◌∷◌, ◌++◌, All, Contains, Option, Some, None, decimal, filter, length, map, slice_get}
use mathlib.Core.List.{IsPrefix}
use Rattle.jm_model.specs.Words.{Text}
use Rattle.jm_model.specs.declared.step.Entry.{Entry}
use Rattle.jm_model.specs.declared.step.Step.{Step}
use Rattle.jm_semantics.specs.Scripts.{steps_of}
use Rattle.jm_audit.specs.declared.pending.Pending.{Pending}

-- a step of a caller, with the number of its line
abbrev pub pending_at : ℕ → ℕ × Step → Pending
pending_at caller s = record { caller = caller; line = s.0; step = s.1 }

-- what caller k has still to do, in order
abbrev pub left_of : ℕ → List Pending → List (ℕ × Step)
left_of k pending = map (λ p. (p.line, p.step)) (filter (λ p. p.caller == k) pending)

-- each caller's steps are those that the history has of it and those that are still to be done
pub record AreUnderway (lists : List (List (ℕ × Step))) (h : List Entry) (pending : List Pending) : Type 0 where
  pub callers : All (λ p. p.caller < length lists) pending
  pub each : (k : ℕ) (own : List (ℕ × Step)) → slice_get lists k ≡ Some own → own ≡ steps_of k h ++ left_of k pending

-- the step at this place is the first of its caller
pub record IsFirstAt (pending : List Pending) (place : ℕ) (p : Pending) : Type 0 where
  pub front : List Pending
  pub back : List Pending
  pub is : pending ≡ front ++ p ∷ back
  pub at : place ≡ length front
  pub first : All (λ q. q.caller ≢ p.caller) front

-- what the line of an entry of the caller begins with
abbrev pub mark : ℕ → Text
mark caller = decimal caller ++ 58 ∷ []

-- The text begins with the mark of the caller, or with that of none of these.
abbrev pub IsMarkedBy : Option Text → List Pending → ℕ → Type 0
IsMarkedBy None pending caller = Unit {0}
IsMarkedBy (Some rest) pending caller =
    IsPrefix (mark caller) rest ⊎ ((p : Pending) → Contains pending p → IsPrefix (mark p.caller) rest → ⊥)

-- the place is that of the first step of a caller, by whose mark the text is marked
pub record IsChoice (pending : List Pending) (rest : Option Text) (place : ℕ) : Type 0 where
  pub step : Pending
  pub is : slice_get pending place ≡ Some step
  pub first : IsFirstAt pending place step
  pub marked : IsMarkedBy rest pending step.caller

-- caller j has a step left
pub record HasLeft (lists : List (List (ℕ × Step))) (h : List Entry) (j : ℕ) : Type 0 where
  pub step : ℕ × Step
  pub later : List (ℕ × Step)
  pub is : slice_get lists j ≡ Some (steps_of j h ++ step ∷ later)
