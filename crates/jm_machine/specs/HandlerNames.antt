-- The names that handlers are printed with.
use Rattle.std.specs.Prelude.{ℕ, ◌+◌, ◌≡◌, List, [], ◌∷◌, ◌++◌, Some, codes, decimal, map, slice_get}
use Rattle.jm_model.specs.Words.{Text}
use Rattle.jm_machine.specs.Meanings.{PropertyDefinition, RuleDefinition}

-- a category of property j, which are counted from 1 in names
abbrev pub numbered : ℕ → Text → Text
numbered j category = decimal (j + 1) ++ (codes "." ++ category)

-- the categories of each property from j on, with its number
abbrev pub numbered_from : ℕ → List (List Text) → List Text
numbered_from j [] = []
numbered_from j (cs ∷ rest) = map (numbered j) cs ++ numbered_from (j + 1) rest

-- The names of the handlers for these categories, a list for each property: the categories themselves where there is
-- one property, else with the property's number before them.
abbrev pub names_for : List (List Text) → List Text
names_for (cs ∷ []) = cs
names_for all = numbered_from 0 all

-- the names of the rules' handlers
abbrev pub names_of : RuleDefinition → List Text
names_of r = names_for (map (λ (p : PropertyDefinition). p.handlers) r.properties)

-- no two of these names are equal; and so of each property's
abbrev pub AreDistinct : List Text → Type 0
AreDistinct names = (a b : ℕ) (name : Text) → slice_get names a ≡ Some name → slice_get names b ≡ Some name → a ≡ b

abbrev pub AreEachDistinct : List (List Text) → Type 0
AreEachDistinct [] = Unit {0}
AreEachDistinct (cs ∷ rest) = AreDistinct cs × AreEachDistinct rest
