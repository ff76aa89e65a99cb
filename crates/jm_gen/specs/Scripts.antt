-- The scripts of a workload: rounds over objects of their own, with passes between.
use Rattle.std.specs.Prelude.{ℕ, zero, suc, ◌+◌, ◌%◌, ◌≤◌, ◌==◌, [], ◌++◌, codes, decimal, if◌then◌else◌}
use Rattle.jm_model.specs.Words.{Text}

-- how many rounds a workload has at most
abbrev pub most_rounds : ℕ
most_rounds = 8000

-- a workload of this many rounds can be made
abbrev pub IsInRange : ℕ → Type 0
IsInRange n = (1 ≤ n) × (n ≤ most_rounds)

-- the name of an object of a script's round, after the letter of its kind
unfoldable pub object : Text → ℕ → ℕ → Text
object kind script round = kind ++ decimal script ++ codes "_" ++ decimal round

-- a step on one object, and the step that makes an iterator of a collection
unfoldable pub step_line : Text → Text → Text
step_line words o = words ++ o ++ codes "\n"

unfoldable pub create_line : Text → Text → Text
create_line c i = codes "UnsafeIter.create " ++ c ++ codes " " ++ i ++ codes "\n"

-- a round over a collection and its iterator
unfoldable pub round_over : Text → Text → Text
round_over c i =
    create_line c i ++ step_line (codes "UnsafeIter.update ") c ++ step_line (codes "UnsafeIter.next ") i
    ++ step_line (codes "HasNext.next ") i ++ step_line (codes "death ") i ++ step_line (codes "death ") c

-- what follows a round: every sixteenth is followed by a pass on each specification
unfoldable pub passes_after : ℕ → Text
passes_after round = if (round + 1) % 16 == 0 then codes "pass UnsafeIter\npass HasNext\n" else []

-- a round of a script, and what follows it
unfoldable pub round_text : ℕ → ℕ → Text
round_text script round =
    round_over (object (codes "c") script round) (object (codes "i") script round) ++ passes_after round

-- the first n rounds of a script
abbrev pub script_text : ℕ → ℕ → Text
script_text script zero = []
script_text script (suc n) = script_text script n ++ round_text script n
