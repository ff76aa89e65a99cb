-- Past-time formulas over atoms of some kind, and the list in which a formula is kept.
use Rattle.std.specs.Prelude.{Bool, false, List, [], ◌∷◌, ◌++◌, length}
use Rattle.jm_ptltl.specs.declared.formula.Unary.{Unary}
use Rattle.jm_ptltl.specs.declared.formula.Binary.{Binary}
use Rattle.jm_ptltl.specs.declared.formula.Node.{Node}
use Rattle.jm_ptltl.specs.declared.formula.Node.TheVariants.{Event, Constant, Prefix, Infix}

-- a formula over events that are named so
pub data Formula (A : Type 0) : Type 0 where
  event : A → Formula A
  constant : Bool → Formula A
  unary : Unary → Formula A → Formula A
  binary : Binary → Formula A → Formula A → Formula A

module _ {A : Type 0} where
  -- its subformulas, each after its parts; each occurrence counts, parentheses don't
  abbrev pub subformulas : Formula A → List (Formula A)
  subformulas (event e) = event e ∷ []
  subformulas (constant b) = constant b ∷ []
  subformulas (unary op f) = subformulas f ++ unary op f ∷ []
  subformulas (binary op f g) = subformulas f ++ (subformulas g ++ binary op f g ∷ [])

  -- the same as a list of nodes: a unary operator stands directly after its part, a binary one after its left and its
  -- right part, and says how many nodes the right part has
  abbrev pub postfix : Formula A → List (Node A)
  postfix (event e) = Event e ∷ []
  postfix (constant b) = Constant b ∷ []
  postfix (unary op f) = postfix f ++ Prefix op ∷ []
  postfix (binary op f g) = postfix f ++ (postfix g ++ Infix op (length (postfix g)) ∷ [])

  -- The formula of a list of nodes: each node takes its parts from the top of a pile, and goes onto it.
  abbrev pub over_one : Unary → List (Formula A) → List (Formula A)
  over_one op [] = []
  over_one op (f ∷ fs) = unary op f ∷ fs

  abbrev pub over_two : Binary → List (Formula A) → List (Formula A)
  over_two op [] = []
  over_two op (g ∷ []) = []
  over_two op (g ∷ f ∷ fs) = binary op f g ∷ fs

  abbrev pub piled : List (Formula A) → List (Node A) → List (Formula A)
  piled fs [] = fs
  piled fs (Event e ∷ ns) = piled (event e ∷ fs) ns
  piled fs (Constant b ∷ ns) = piled (constant b ∷ fs) ns
  piled fs (Prefix op ∷ ns) = piled (over_one op fs) ns
  piled fs (Infix op right ∷ ns) = piled (over_two op fs) ns

  abbrev pub top : List (Formula A) → Formula A
  top [] = constant false
  top (f ∷ fs) = f

  unfoldable pub formula_of : List (Node A) → Formula A
  formula_of nodes = top (piled [] nodes)
