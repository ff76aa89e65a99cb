-- The properties of a tree, one property more.
use Rattle.std.proofs.Common.{◌≡◌, ℕ, ◌+◌, ◌<◌, None, List, [], ◌∷◌, ◌++◌, map, take, drop, get_or, length, refl, sym, ◌∙◌, ap, subst, add-one, drop-cons}
use Rattle.std.proofs.lemmas.List.{take_more, map_push}
use Rattle.jm_model.specs.declared.fault.SpecFault.TheVariants.{UnsupportedLogic}
use Rattle.jm_reading.specs.Faults.{or_else}
use Rattle.jm_spec.specs.declared.property.Property.{Property}
use Rattle.jm_spec.specs.declared.tree.PropertyTree.{PropertyTree}
use Rattle.jm_spec.specs.Faults.{unless_known, logic_of, logic_fault}
use Rattle.jm_spec.specs.Trees.{PropertyFacts, facts_of, TellsProperty, TellsProperties}

module _ (bytes : List ℕ) where
  tells_push : (ps : List Property) (fs : List PropertyFacts) (p : Property) (f : PropertyFacts) → TellsProperties bytes ps fs → TellsProperty bytes p f → TellsProperties bytes (ps ++ p ∷ []) (fs ++ f ∷ [])
  tells_push [] [] p f h one = (one, tt)
  tells_push [] (g ∷ fs) p f h one = absurd h
  tells_push (q ∷ ps) [] p f h one = absurd h
  tells_push (q ∷ ps) (g ∷ fs) p f h one = (h.0, tells_push ps fs p f h.1 one)

  module _ (ps : List Property) (i : ℕ) (d : Property) (less : i < length ps) where
    pub tells_more : (trees : List PropertyTree) (t : PropertyTree) → TellsProperties bytes (take i ps) (map facts_of trees) → TellsProperty bytes (get_or ps i d) (facts_of t) → TellsProperties bytes (take (i + 1) ps) (map facts_of (trees ++ t ∷ []))
    tells_more trees t before one =
        subst (λ xs. TellsProperties bytes xs (map facts_of (trees ++ t ∷ []))) (sym (take_more ps i d less))
        (subst (λ fs. TellsProperties bytes (take i ps ++ get_or ps i d ∷ []) fs) (sym (map_push facts_of trees t))
        (tells_push (take i ps) (map facts_of trees) (get_or ps i d) (facts_of t) before one))

    here : logic_fault bytes (drop i ps) ≡ or_else (unless_known (logic_of bytes (get_or ps i d).logic) (UnsupportedLogic (get_or ps i d).logic.line)) (logic_fault bytes (drop (i + 1) ps))
    here = rw (add-one, drop-cons ps i d less) refl

    pub later : unless_known (logic_of bytes (get_or ps i d).logic) (UnsupportedLogic (get_or ps i d).logic.line) ≡ None → logic_fault bytes (drop (i + 1) ps) ≡ logic_fault bytes (drop i ps)
    later known = sym (here ∙ ap (λ o. or_else o (logic_fault bytes (drop (i + 1) ps))) known)
