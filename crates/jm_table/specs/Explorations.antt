use Rattle.std.specs.Prelude.{ℕ, zero, suc, ◌≡◌, ◌==◌, ◌<◌, ◌≤◌, ◌*◌, ◌/◌, ◌%◌, ◌⊎◌, List, [], ◌∷◌, ◌++◌, length, All, Contains, Some, Result, Ok, Err, MatchOption, slice_get, slice_index, if◌then◌else◌}
use Rattle.jm_model.specs.declared.fault.SpecFault.{SpecFault}
use Rattle.jm_model.specs.declared.fault.SpecFault.TheVariants.{TooManyStates}
use Rattle.jm_model.specs.declared.fault.SpecError.{SpecError}
use Rattle.jm_model.specs.declared.fault.SpecError.TheVariants.{Bad, NoMemory}
use Rattle.jm_table.specs.Graphs.{GraphMeaning, IsReached, reached_by}

-- how many states a table has at most
abbrev pub most_states : ℕ
most_states = 1024

-- The order of work: breadth first, letters in order. State k is what was found as the k-th. Step n takes letter
-- n % letters of state n / letters.

module _ {D : Type 0} where
  -- no two places of the list have the same data
  abbrev pub IsWithoutRepeats : List D → Type 0
  IsWithoutRepeats found = (j k : ℕ) (d : D) → slice_get found j ≡ Some d → slice_get found k ≡ Some d → j ≡ k

  -- What is found after a step that leads to this data or fault: known data adds nothing, new data goes last, and the
  -- 1,025th is too many.
  abbrev pub Finds : List D → Result D SpecFault → Result (List D) SpecFault → Type 0
  Finds found (Err fault) after = after ≡ Err fault
  Finds found (Ok d) after =
      (Contains found d × (after ≡ Ok found))
      ⊎ ((Contains found d → ⊥)
      × (after ≡ (if length found == most_states then Err TooManyStates else Ok (found ++ d ∷ []))))

  -- Step n, which does nothing where its state isn't there; a fault is final.
  abbrev pub Works : GraphMeaning D → ℕ → ℕ → Result (List D) SpecFault → Result (List D) SpecFault → Type 0
  Works g letters n (Err fault) after = after ≡ Err fault
  Works g letters n (Ok found) after =
      MatchOption (slice_get found (n / letters)) (after ≡ Ok found) (λ d. Finds found (g.step d (n % letters)) after)

  -- what is found before the first step: the start
  abbrev pub first_found : Result D SpecFault → Result (List D) SpecFault
  first_found (Ok d) = Ok (d ∷ [])
  first_found (Err fault) = Err fault

  -- what is found in n steps, in the order in which it is found, or the first fault
  unfoldable pub IsFoundIn : GraphMeaning D → ℕ → ℕ → Result (List D) SpecFault → Type 0
  IsFoundIn g letters zero after = after ≡ first_found g.start
  IsFoundIn g letters (suc n) after =
      (before : Result (List D) SpecFault) × IsFoundIn g letters n before × Works g letters n before after

  -- what is found when all work is done, which are the steps of at most 1,024 states
  abbrev pub IsExplored : GraphMeaning D → ℕ → Result (List D) SpecFault → Type 0
  IsExplored g letters after = IsFoundIn g letters (most_states * letters) after

  -- more data is reached than a table may have states
  pub record IsCrowded (g : GraphMeaning D) (letters : ℕ) : Type 0 where
    pub found : List D
    pub many : length found ≡ 1025
    pub each : All (IsReached g letters) found
    pub distinct : IsWithoutRepeats found

  -- the graph meets the fault by some word
  pub record IsMet (g : GraphMeaning D) (letters : ℕ) (fault : SpecFault) : Type 0 where
    pub word : List ℕ
    pub below : All (λ letter. letter < letters) word
    pub meets : reached_by g word ≡ Err fault

  -- step n leads from what its state stands for to what this state stands for
  abbrev pub LeadsTo : GraphMeaning D → ℕ → List D → ℕ → ℕ → Type 0
  LeadsTo g letters found n target =
      (d : D) × (e : D) × (slice_get found (n / letters) ≡ Some d) × (g.step d (n % letters) ≡ Ok e)
      × (slice_get found target ≡ Some e)

  -- n steps are done: this is what is found, and each next state so far is that of its step
  pub record IsInWork (g : GraphMeaning D) (letters n : ℕ) (found : List D) (next : List ℕ) : Type 0 where
    pub steps : IsFoundIn g letters n (Ok found)
    pub few : length found ≤ most_states
    pub count : length next ≡ n
    pub each : (m : ℕ) → m < n → LeadsTo g letters found m (slice_index next m)

-- P of the fault, where the error is one
abbrev pub IfBad : SpecError → (SpecFault → Type 0) → Type 0
IfBad (Bad fault) P = P fault
IfBad NoMemory P = Unit {0}
