-- What a step through a watch does.
use Rattle.std.specs.Prelude.{◌≡◌, ◌<◌, ℕ, List, [], ◌∷◌, ◌++◌, All, length, count_ones}
use mathlib.Core.List.{IsPrefix}
use Rattle.jm_model.specs.Bindings.{mask_of, objects_of}
use Rattle.jm_model.specs.Meanings.{Meaning}
use Rattle.jm_model.specs.declared.binding.Binding.{Binding}
use Rattle.jm_model.specs.declared.step.Letter.{Letter}
use Rattle.jm_model.specs.declared.step.Step.{Step}
use Rattle.jm_model.specs.declared.step.Step.TheVariants.{Event}
use Rattle.jm_model.specs.declared.step.Outcome.{Outcome}
use Rattle.jm_model.specs.declared.step.Entry.{Entry}
use Rattle.jm_semantics.specs.Histories.{place_of}
use Rattle.jm_semantics.specs.Legality.{IsLegal}
use Rattle.jm_history.specs.Nodes.{Unanswered, answered}
use Rattle.jm_turn.specs.Seats.{SeatModel, own_entries}
use Rattle.jm_dispatch.specs.declared.acts.Answer.{Answer}

-- whose entry it is
abbrev pub caller_of : Entry → ℕ
caller_of x = x.caller

-- what an act says of the history before, the answer and the history after
pub record Answered (m : Meaning) (node : Unanswered) (before : List Entry) (answer : Answer)
    (after : List Entry) : Type 0 where
  pub adds : after ≡ before ++ answered node answer.outcome ∷ []
  pub place : answer.place ≡ place_of before
  pub legal : IsLegal m after

-- the entry of a seat's step
abbrev pub entry_of : {F : Type 0} → SeatModel Entry F → ℕ → Step → Outcome → Entry
entry_of seat line step outcome = record { caller = seat.number; line = line; step = step; outcome = outcome }

-- A step was made. The seat has seen a legal history that goes on from what it had seen, and ends in the step's entry.
-- The entry is one more of its own, and else the seat is as before.
pub record Stepped {F : Type 0} (m : Meaning) (line : ℕ) (step : Step) (answer : Answer)
    (before after : SeatModel Entry F) : Type 0 where
  pub found : List Entry
  pub begins : IsPrefix before.seen found
  pub same : after ≡ record before { seen = found ++ entry_of before line step answer.outcome ∷ [] }
  pub place : answer.place ≡ place_of found
  pub legal : IsLegal m after.seen
  pub own : own_entries caller_of after ≡ own_entries caller_of before ++ entry_of before line step answer.outcome ∷ []

-- as many objects as the letter has parameters, each below n
pub record AreArguments (m : Meaning) (n letter : ℕ) (objects : List ℕ) : Type 0 where
  pub count : length objects ≡ count_ones (m.params letter)
  pub there : All (λ o. o < n) objects

-- an event of the letter was made, with these objects for its parameters, in order
pub record Emitted {F : Type 0} (m : Meaning) (line : ℕ) (letter : Letter) (args : List ℕ) (answer : Answer)
    (before after : SeatModel Entry F) : Type 0 where
  pub binding : Binding
  pub eight : length binding ≡ 8
  pub mask : mask_of binding ≡ m.params letter.0
  pub objects : objects_of binding ≡ args
  pub stepped : Stepped m line (Event letter binding) answer before after
