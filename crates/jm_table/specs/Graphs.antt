use Rattle.std.specs.Prelude.{ℕ, ◌≡◌, ◌<◌, List, All, Result, Ok, Err, fold}
use Rattle.jm_model.specs.declared.fault.SpecFault.{SpecFault}
use Rattle.jm_model.specs.declared.fault.SpecError.{SpecError}
use Rattle.jm_model.specs.declared.fault.SpecError.TheVariants.{Bad, NoMemory}

-- What a graph is over the data that its nodes stand for: where it starts, and where each letter leads, or a fault.
pub record GraphMeaning (D : Type 0) : Type 0 where
  pub start : Result D SpecFault
  pub step : D → ℕ → Result D SpecFault

module _ {D : Type 0} where
  -- what a call answers that is to find this data or this fault: a node that stands for the data, or the fault
  abbrev pub Answers : {N : Type 0} → (N → D) → Result D SpecFault → Result N SpecError → Type 0
  Answers data_of expected (Ok node) = expected ≡ Ok (data_of node)
  Answers data_of expected (Err (Bad fault)) = expected ≡ Err fault
  Answers data_of expected (Err NoMemory) = Unit {0}

  -- where a letter leads from data that was reached; a fault is final
  abbrev pub step_from : GraphMeaning D → Result D SpecFault → ℕ → Result D SpecFault
  step_from g (Ok d) letter = g.step d letter
  step_from g (Err fault) letter = Err fault

  -- what the graph reaches from its start by a word
  abbrev pub reached_by : GraphMeaning D → List ℕ → Result D SpecFault
  reached_by g word = fold (step_from g) g.start word

  -- the graph reaches the data by a word of letters below this number
  abbrev pub IsReached : GraphMeaning D → ℕ → D → Type 0
  IsReached g letters d = (word : List ℕ) × All (λ letter. letter < letters) word × (reached_by g word ≡ Ok d)
