-- Legal histories whose entries have all that their lines say.
use Rattle.std.specs.Prelude.{ℕ, ◌≢◌, ◌<◌, ◌^◌, List, All}
use Rattle.jm_model.specs.Bindings.{objects_of}
use Rattle.jm_model.specs.Meanings.{Meaning}
use Rattle.jm_model.specs.declared.step.Step.{Step}
use Rattle.jm_model.specs.declared.step.Step.TheVariants.{Event, Death, Pass}
use Rattle.jm_model.specs.declared.step.Outcome.TheVariants.{NoMemory}
use Rattle.jm_model.specs.declared.step.Entry.{Entry}
use Rattle.jm_semantics.specs.Legality.{IsLegal}

-- the objects of the step are among the first ones, so many
abbrev pub NamesWithin : ℕ → Step → Type 0
NamesWithin n (Event e b) = All (λ o. o < n) (objects_of b)
NamesWithin n (Death o) = o < n
NamesWithin n Pass = Unit {0}

-- The history is legal, no event was out of memory, its objects are among so many, and the numbers of its callers and
-- lines are below 2^64.
pub record IsTellable (m : Meaning) (objects : ℕ) (h : List Entry) : Type 0 where
  pub legal : IsLegal m h
  pub done : All (λ x. x.outcome ≢ NoMemory) h
  pub named : All (λ x. NamesWithin objects x.step) h
  pub callers : All (λ x. x.caller < 2 ^ 64) h
  pub lines : All (λ x. x.line < 2 ^ 64) h
