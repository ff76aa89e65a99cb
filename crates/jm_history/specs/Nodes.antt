-- An entry before and after it has its outcome.
use Rattle.std.specs.Prelude.{ℕ}
use Rattle.jm_model.specs.declared.step.Step.{Step}
use Rattle.jm_model.specs.declared.step.Outcome.{Outcome}
use Rattle.jm_model.specs.declared.step.Entry.{Entry}

-- an entry of a history that has no outcome yet
pub record Unanswered : Type 0 where
  pub caller : ℕ
  pub line : ℕ
  pub step : Step

-- the entry with this outcome
abbrev pub answered : Unanswered → Outcome → Entry
answered u outcome = record { caller = u.caller; line = u.line; step = u.step; outcome = outcome }
