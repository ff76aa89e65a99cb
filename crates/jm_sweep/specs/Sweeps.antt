-- What a replay of a part needs, and what it gives.
use Rattle.std.specs.Prelude.{ℕ, ◌≢◌, List, All}
use Rattle.jm_model.specs.Meanings.{Meaning}
use Rattle.jm_model.specs.declared.step.Step.{Step}
use Rattle.jm_model.specs.declared.step.Outcome.TheVariants.{NoMemory}
use Rattle.jm_model.specs.declared.step.Entry.{Entry}
use Rattle.jm_semantics.specs.Legality.{IsLegal}
use Rattle.jm_core.specs.Steps.{IsFitStep}
use Rattle.jm_core.specs.Replays.{AreEntriesOf}

-- each step fits the specification, with so many objects
abbrev pub Fits : Meaning → ℕ → List (ℕ × Step) → Type 0
Fits m objects steps = All (λ s. IsFitStep m objects s.1) steps

-- a legal history of exactly these steps, of caller 0, in order, in none of which memory was short
pub record IsReplayOfPart (m : Meaning) (steps : List (ℕ × Step)) (h : List Entry) : Type 0 where
  pub legal : IsLegal m h
  pub each : AreEntriesOf 0 steps h
  pub done : All (λ x. x.outcome ≢ NoMemory) h
