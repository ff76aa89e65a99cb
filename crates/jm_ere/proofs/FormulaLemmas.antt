-- The nodes of a formula give it back.
use Rattle.std.proofs.Common.{◌≡◌, ℕ, List, [], ◌∷◌, ◌++◌, length, Option, Some, refl, sym, ap, ◌∙◌, append_assoc, length-append, arith}
use Rattle.jm_text.specs.declared.token.Token.{Token}
use Rattle.jm_ere.specs.declared.formula.Node.{Node}
use Rattle.jm_ere.specs.declared.formula.Node.TheVariants.{Push, Wrap, Join}
use Rattle.jm_ere.specs.Formulas.{Formula, Leaf, Over, Between, node_count}
use Rattle.jm_ere.specs.Spelling.{Spells}
use Rattle.jm_ere.specs.Rules.{postfix, parsed}
use Rattle.jm_ere.proofs.CompleteLemmas.{spelled_is_parsed}

-- a node makes a formula of the topmost ones
abbrev built : List Formula → Node → List Formula
built stack (Push atom) = Leaf atom ∷ stack
built (f ∷ stack) (Wrap operator) = Over operator f ∷ stack
built (g ∷ f ∷ stack) (Join operator) = Between operator f g ∷ stack
built _ _ = []

abbrev all_built : List Formula → List Node → List Formula
all_built stack [] = stack
all_built stack (n ∷ ns) = all_built (built stack n) ns

builds : (f : Formula) (stack : List Formula) (rest : List Node) → all_built stack (postfix f ++ rest) ≡ all_built (f ∷ stack) rest
builds (Leaf atom) stack rest = refl
builds (Over operator f) stack rest = ap (all_built stack) (append_assoc (postfix f) (Wrap operator ∷ []) rest) ∙ builds f stack (Wrap operator ∷ rest)
builds (Between operator f g) stack rest =
    ap (all_built stack) (append_assoc (postfix f ++ postfix g) (Join operator ∷ []) rest ∙ append_assoc (postfix f) (postfix g) (Join operator ∷ rest))
    ∙ builds f stack (postfix g ++ Join operator ∷ rest)
    ∙ builds g (f ∷ stack) (Join operator ∷ rest)

one_first : (f g : Formula) → ◌≡◌ {A = List Formula} (f ∷ []) (g ∷ []) → f ≡ g
one_first f g h = cc

pub one_formula_of : (f g : Formula) → postfix f ≡ postfix g → f ≡ g
one_formula_of f g h = one_first f g (sym (builds f [] []) ∙ ap (λ (l : List Node). all_built [] (l ++ [])) h ∙ builds g [] [])

-- as many nodes as are counted
pub nodes_counted : (f : Formula) → length (postfix f) ≡ node_count f
nodes_counted (Leaf atom) = refl
nodes_counted (Over operator f) = omega (arith, length-append (postfix f) (Wrap operator ∷ []), nodes_counted f)
nodes_counted (Between operator f g) = omega (arith, length-append (postfix f ++ postfix g) (Join operator ∷ []), length-append (postfix f) (postfix g), nodes_counted f, nodes_counted g)

same_nodes : (a b : List Node) (o : Option (List Node)) → o ≡ Some a → o ≡ Some b → a ≡ b
same_nodes a b o h k = cc

-- no tokens spell two formulas
pub one_formula : (bytes : List ℕ) (tokens : List Token) (f g : Formula) → Spells bytes tokens f → Spells bytes tokens g → f ≡ g
one_formula bytes tokens f g h k = one_formula_of f g (same_nodes (postfix f) (postfix g) (parsed bytes tokens) (spelled_is_parsed bytes tokens f h) (spelled_is_parsed bytes tokens g k))
