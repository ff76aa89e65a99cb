-- The numbers of a chain.
use Rattle.std.specs.Prelude.{ℕ, List, [], ◌∷◌, ◌++◌, length}
use Rattle.jm_turn.specs.Lists.{entries_by}
use Rattle.test_turn.specs.declared.tally.Chain.{Chain, End, More'}

-- the oldest first
abbrev pub in_order : Chain → List ℕ
in_order End = []
in_order (More' caller room rest) = in_order rest ++ caller ∷ []

-- how often a caller's number stands in the list
abbrev pub turns_of : ℕ → List ℕ → ℕ
turns_of n callers = length (entries_by (λ e. e) n callers)
