-- A core before and after a list of steps.
use Rattle.std.specs.Prelude.{ℕ, ◌≡◌, ◌≢◌, List, [], ◌∷◌, ◌++◌, map, All, ◌⊎◌}
use mathlib.Core.List.{IsPrefix}
use Rattle.jm_model.specs.declared.step.Step.{Step}
use Rattle.jm_model.specs.declared.step.Outcome.TheVariants.{NoMemory}
use Rattle.jm_model.specs.declared.step.Entry.{Entry}
use Rattle.jm_core.specs.Cores.{Core, IsExtended}

-- an entry's line and step
abbrev pub line_and_step : Entry → ℕ × Step
line_and_step x = (x.line, x.step)

-- entries of one caller, for these steps in order
pub record AreEntriesOf (caller : ℕ) (steps : List (ℕ × Step)) (entries : List Entry) : Type 0 where
  pub by_caller : All (λ x. x.caller ≡ caller) entries
  pub in_order : map line_and_step entries ≡ steps

-- a core to whose history entries were added, one for each of the steps
pub record Replayed {D : Type 0} (caller : ℕ) (steps : List (ℕ × Step)) (before after : Core D) : Type 0 where
  pub added : List Entry
  pub grown : IsExtended before after added
  pub each : AreEntriesOf caller steps added
  pub done : All (λ x. x.outcome ≢ NoMemory) added

-- a core to whose history entries were added for the first of the steps, of which only the last may be out of memory
pub record ReplayedInPart {D : Type 0} (caller : ℕ) (steps : List (ℕ × Step)) (before after : Core D) : Type 0 where
  pub first : List (ℕ × Step)
  pub is_prefix : IsPrefix first steps
  pub added : List Entry
  pub last : List Entry
  pub few : (last ≡ []) ⊎ ((x : Entry) × (last ≡ x ∷ []) × (x.outcome ≡ NoMemory))
  pub grown : IsExtended before after (added ++ last)
  pub each : AreEntriesOf caller first (added ++ last)
  pub done : All (λ x. x.outcome ≢ NoMemory) added
