-- A formula as its list of nodes, which gives it back, by which a proof tells formulas apart.
use Rattle.std.specs.Prelude.{◌≡◌, List, [], ◌∷◌, ◌++◌, length, refl}
use Rattle.std.specs.Coded.{Coded, code_by, coded_list}
use Rattle.std.proofs.Common.{◌∙◌, ap, sym, append_assoc, append-nil}
use Rattle.jm_model.specs.declared.step.Letter.{Letter}
use Rattle.jm_model.specs.contracts.step.Letter as letters
use Rattle.jm_ptltl.specs.contracts.formula.Node as nodes
use Rattle.jm_ptltl.specs.declared.formula.Node.{Node}
use Rattle.jm_ptltl.specs.declared.formula.Node.TheVariants.{Prefix, Infix}
use Rattle.jm_ptltl.specs.Formulas.{Formula, event, constant, unary, binary, postfix, piled, top, formula_of}

module _ {A : Type 0} where
  -- the nodes of a formula pile it up
  pub piled-postfix : (f : Formula A) (fs : List (Formula A)) (ns : List (Node A))
      → piled fs (postfix f ++ ns) ≡ piled (f ∷ fs) ns
  piled-postfix (event e) fs ns = refl
  piled-postfix (constant b) fs ns = refl
  piled-postfix (unary op f) fs ns =
      ap (λ l. piled fs l) (append_assoc (postfix f) (Prefix op ∷ []) ns) ∙ piled-postfix f fs (Prefix op ∷ ns)
  piled-postfix (binary op f g) fs ns =
      let node : Node A = Infix op (length (postfix g)) in
      ap (λ l. piled fs l) (append_assoc (postfix f) (postfix g ++ node ∷ []) ns ∙ ap (λ l. postfix f ++ l)
      (append_assoc (postfix g) (node ∷ []) ns))
      ∙ piled-postfix f fs (postfix g ++ node ∷ ns) ∙ piled-postfix g (f ∷ fs) (node ∷ ns)

  pub formula_of-postfix : (f : Formula A) → formula_of (postfix f) ≡ f
  unfolding formula_of
  formula_of-postfix f = ap top (ap (λ l. piled [] l) (sym (append-nil (postfix f))) ∙ piled-postfix f [] [])

abbrev pub coded_formula : Coded (Formula Letter)
coded_formula = code_by (List (Node Letter))
    (coded_list (nodes.the_row letters.the_row).coded) postfix formula_of formula_of-postfix
