-- The order that a history has its entries in, where scripts post names and wait for them.
use Rattle.std.specs.Prelude.{ℕ, ◌≡◌, ◌≤◌, ◌<◌, ◌++◌, List, ◌∷◌, All, Contains, Some, length, drop, slice_get}
use Rattle.jm_model.specs.declared.step.Step.{Step}
use Rattle.jm_model.specs.declared.step.Entry.{Entry}
use Rattle.jm_turn.specs.Lists.{entries_by}
use Rattle.jm_turn.specs.Seats.{SeatModel}
use Rattle.jm_sync.specs.declared.line.SyncKind.TheVariants.{Post, Wait}
use Rattle.jm_sync.specs.declared.line.SyncLine.{SyncLine}
use Rattle.jm_dispatch.specs.Steps.{caller_of}

-- the line that posts a name, and the line that waits for it
abbrev pub post_at : ℕ → ℕ → SyncLine
post_at line name = record { line = line; kind = Post; name = name }

abbrev pub wait_at : ℕ → ℕ → SyncLine
wait_at line name = record { line = line; kind = Wait; name = name }

-- these entries, if they are caller k's, stand at lines from p on
abbrev pub AreFrom : ℕ → ℕ → List Entry → Type 0
AreFrom k p entries = All (λ x. x.caller ≡ k → p ≤ x.line) entries

-- from an entry of caller j below line q on, no entry is one of caller k from above line p: each of these stands before
-- each of those
abbrev pub StandBefore : ℕ → ℕ → ℕ → ℕ → List Entry → Type 0
StandBefore k p j q history = (before behind : List Entry) (y : Entry) → history ≡ before ++ y ∷ behind
    → y.caller ≡ j → q < y.line → AreFrom k p (y ∷ behind)

-- A history has its entries in the order that the scripts ask for: where script k posts a name at line p and script j
-- waits for it at line q, each entry of k from above line p stands before each entry of j from below line q.
abbrev pub IsOrdered : List Entry → List (List SyncLine) → Type 0
IsOrdered history cuts = (k p j q name : ℕ) (posts waits : List SyncLine) → slice_get cuts k ≡ Some posts
    → slice_get cuts j ≡ Some waits → Contains posts (post_at p name) → Contains waits (wait_at q name)
    → StandBefore k p j q history

-- a list has all that caller k has above line p, of these steps: those that it doesn't have yet stand at lines from p
-- on
pub record HasAbove (k p : ℕ) (steps : List (ℕ × Step)) (list : List Entry) : Type 0 where
  pub left : All (λ step. p ≤ step.0) (drop (length (entries_by caller_of k list)) steps)

-- each entry of caller j below line q stands after all that caller k has above line p
abbrev pub AreBehind : ℕ → ℕ → List (ℕ × Step) → ℕ → ℕ → List Entry → Type 0
AreBehind k p steps j q list = (before behind : List Entry) (y : Entry) → list ≡ before ++ y ∷ behind
    → y.caller ≡ j → q < y.line → HasAbove k p steps before

module _ {F : Type 0} where
  -- the seat has seen all that caller k has above line p, and its own entries below line q stand after that
  pub record KnowsOrder (k p : ℕ) (steps : List (ℕ × Step)) (q : ℕ) (seat : SeatModel Entry F) : Type 0 where
    pub has : HasAbove k p steps seat.seen
    pub behind : AreBehind k p steps seat.number q seat.seen

  -- what the seat knew of order it knows still
  abbrev pub KeepsOrder : SeatModel Entry F → SeatModel Entry F → Type 0
  KeepsOrder before after = (k p : ℕ) (steps : List (ℕ × Step)) (q : ℕ) → KnowsOrder k p steps q before
      → KnowsOrder k p steps q after

  -- the same of each seat
  abbrev pub KeepOrder : List (SeatModel Entry F) → List (SeatModel Entry F) → Type 0
  KeepOrder before after = (s : ℕ) (old new : SeatModel Entry F) → slice_get before s ≡ Some old
      → slice_get after s ≡ Some new → KeepsOrder old new
