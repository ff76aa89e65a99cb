-- A text without the lines that begin with two spaces and `>`.
use Rattle.std.specs.Prelude.{Bool, not, ◌==◌, nat_eq, [], ◌∷◌, ◌++◌, codes, if◌then◌else◌}
use Rattle.std.specs.List.{starts_with}
use Rattle.jm_model.specs.Words.{Text}

-- a line that begins here stays
abbrev pub stays : Text → Bool
stays text = not (starts_with nat_eq text (codes "  >"))

-- what stays of a text in the midst of a line that stays, or doesn't; a line ends with its line feed
abbrev pub rest_that_stays : Bool → Text → Text
rest_that_stays here [] = []
rest_that_stays here (b ∷ bs) = (if here then b ∷ [] else []) ++ rest_that_stays (if b == 10 then stays bs else here) bs

-- what stays of a text
abbrev pub unmarked : Text → Text
unmarked text = rest_that_stays (stays text) text
