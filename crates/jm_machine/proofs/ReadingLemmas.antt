-- No tokens say two formulas, or a formula and a fault; and no tree says two rules, or rules and a fault.
use Rattle.std.proofs.Common.{◌≡◌, ℕ, zero, suc, Bool, true, false, List, [], ◌∷◌, Some, length, slice_get, refl, sym, ap, subst, ◌∙◌}
use Rattle.std.specs.Option.{is_some}
use Rattle.std.proofs.lemmas.Option.{same_Some, none-some}
use Rattle.jm_model.specs.declared.fault.SpecFault.{SpecFault}
use Rattle.jm_text.specs.declared.token.Token.{Token}
use Rattle.jm_events.specs.Events.{EventDefinitions}
use Rattle.jm_spec.specs.declared.tree.Logic.{Logic}
use Rattle.jm_spec.specs.declared.tree.Logic.TheVariants.{Fsm, Ere, Cfg, Ptltl}
use Rattle.jm_spec.specs.declared.tree.SpecTree.{SpecTree}
use Rattle.jm_spec.specs.Trees.{PropertyFacts, properties_of}
use Rattle.jm_fsm.proofs.ReadLemmas as fsm_reading
use Rattle.jm_ere.proofs.ReadLemmas as ere_reading
use Rattle.jm_ptltl.proofs.FaultLemmas as past_reading
use Rattle.jm_grammar.proofs.ReadLemmas as grammar_reading
use Rattle.jm_machine.specs.declared.formula.Formula.{Formula}
use Rattle.jm_machine.specs.declared.formula.Formula.TheVariants.{Machine, Regular, RegularSuffix, Temporal, Grammatical, GrammaticalSuffix}
use Rattle.jm_machine.specs.Formulas.{IsReadAs, IsRefusedIn}
use Rattle.jm_machine.specs.Handlers.{handlers_fault}
use Rattle.jm_machine.specs.Meanings.{RuleDefinition, rules_of}
use Rattle.jm_machine.specs.FirstRefusals.{IsFirstRefusal}
use Rattle.jm_machine.specs.Compiling.{formula_of, IsFormula, IsRefusedFormula, AreFormulas, properties_said, IsCompiledFrom, IsFaultyTree, in_formulas, in_handlers, in_suffix, in_tables}
use Rattle.jm_machine.proofs.OptionLemmas.{never_some}

module _ (bytes : List ℕ) (tokens : List Token) (table : EventDefinitions) where
  pub one_formula : (logic : Logic) (suffix : Bool) (f g : Formula) → IsReadAs bytes tokens table logic suffix f → IsReadAs bytes tokens table logic suffix g → f ≡ g
  one_formula Fsm suffix (Machine x) (Machine y) h k = ap Machine (fsm_reading.one_machine bytes tokens table x y h k)
  one_formula Fsm suffix (Machine x) (Regular y) h k = absurd k
  one_formula Fsm suffix (Machine x) (RegularSuffix y) h k = absurd k
  one_formula Fsm suffix (Machine x) (Temporal y) h k = absurd k
  one_formula Fsm suffix (Machine x) (Grammatical y) h k = absurd k
  one_formula Fsm suffix (Machine x) (GrammaticalSuffix y) h k = absurd k
  one_formula Fsm suffix (Regular x) g h k = absurd h
  one_formula Fsm suffix (RegularSuffix x) g h k = absurd h
  one_formula Fsm suffix (Temporal x) g h k = absurd h
  one_formula Fsm suffix (Grammatical x) g h k = absurd h
  one_formula Fsm suffix (GrammaticalSuffix x) g h k = absurd h
  one_formula Ere false (Regular x) (Regular y) h k = ap Regular (ere_reading.one_expression bytes tokens table x y h k)
  one_formula Ere false (Regular x) (Machine y) h k = absurd k
  one_formula Ere false (Regular x) (RegularSuffix y) h k = absurd k
  one_formula Ere false (Regular x) (Temporal y) h k = absurd k
  one_formula Ere false (Regular x) (Grammatical y) h k = absurd k
  one_formula Ere false (Regular x) (GrammaticalSuffix y) h k = absurd k
  one_formula Ere false (Machine x) g h k = absurd h
  one_formula Ere false (RegularSuffix x) g h k = absurd h
  one_formula Ere false (Temporal x) g h k = absurd h
  one_formula Ere false (Grammatical x) g h k = absurd h
  one_formula Ere false (GrammaticalSuffix x) g h k = absurd h
  one_formula Ere true (RegularSuffix x) (RegularSuffix y) h k = ap RegularSuffix (ere_reading.one_expression bytes tokens table x y h k)
  one_formula Ere true (RegularSuffix x) (Machine y) h k = absurd k
  one_formula Ere true (RegularSuffix x) (Regular y) h k = absurd k
  one_formula Ere true (RegularSuffix x) (Temporal y) h k = absurd k
  one_formula Ere true (RegularSuffix x) (Grammatical y) h k = absurd k
  one_formula Ere true (RegularSuffix x) (GrammaticalSuffix y) h k = absurd k
  one_formula Ere true (Machine x) g h k = absurd h
  one_formula Ere true (Regular x) g h k = absurd h
  one_formula Ere true (Temporal x) g h k = absurd h
  one_formula Ere true (Grammatical x) g h k = absurd h
  one_formula Ere true (GrammaticalSuffix x) g h k = absurd h
  one_formula Ptltl suffix (Temporal x) (Temporal y) h k = ap Temporal (past_reading.one_past bytes tokens table x y h k)
  one_formula Ptltl suffix (Temporal x) (Machine y) h k = absurd k
  one_formula Ptltl suffix (Temporal x) (Regular y) h k = absurd k
  one_formula Ptltl suffix (Temporal x) (RegularSuffix y) h k = absurd k
  one_formula Ptltl suffix (Temporal x) (Grammatical y) h k = absurd k
  one_formula Ptltl suffix (Temporal x) (GrammaticalSuffix y) h k = absurd k
  one_formula Ptltl suffix (Machine x) g h k = absurd h
  one_formula Ptltl suffix (Regular x) g h k = absurd h
  one_formula Ptltl suffix (RegularSuffix x) g h k = absurd h
  one_formula Ptltl suffix (Grammatical x) g h k = absurd h
  one_formula Ptltl suffix (GrammaticalSuffix x) g h k = absurd h
  one_formula Cfg false (Grammatical x) (Grammatical y) h k = ap Grammatical (grammar_reading.one_grammar bytes tokens table false x y h k)
  one_formula Cfg false (Grammatical x) (Machine y) h k = absurd k
  one_formula Cfg false (Grammatical x) (Regular y) h k = absurd k
  one_formula Cfg false (Grammatical x) (RegularSuffix y) h k = absurd k
  one_formula Cfg false (Grammatical x) (Temporal y) h k = absurd k
  one_formula Cfg false (Grammatical x) (GrammaticalSuffix y) h k = absurd k
  one_formula Cfg false (Machine x) g h k = absurd h
  one_formula Cfg false (Regular x) g h k = absurd h
  one_formula Cfg false (RegularSuffix x) g h k = absurd h
  one_formula Cfg false (Temporal x) g h k = absurd h
  one_formula Cfg false (GrammaticalSuffix x) g h k = absurd h
  one_formula Cfg true (GrammaticalSuffix x) (GrammaticalSuffix y) h k = ap GrammaticalSuffix (grammar_reading.one_grammar bytes tokens table true x y h k)
  one_formula Cfg true (GrammaticalSuffix x) (Machine y) h k = absurd k
  one_formula Cfg true (GrammaticalSuffix x) (Regular y) h k = absurd k
  one_formula Cfg true (GrammaticalSuffix x) (RegularSuffix y) h k = absurd k
  one_formula Cfg true (GrammaticalSuffix x) (Temporal y) h k = absurd k
  one_formula Cfg true (GrammaticalSuffix x) (Grammatical y) h k = absurd k
  one_formula Cfg true (Machine x) g h k = absurd h
  one_formula Cfg true (Regular x) g h k = absurd h
  one_formula Cfg true (RegularSuffix x) g h k = absurd h
  one_formula Cfg true (Temporal x) g h k = absurd h
  one_formula Cfg true (Grammatical x) g h k = absurd h

  pub formula_or_fault : (logic : Logic) (suffix : Bool) (f : Formula) (fault : SpecFault) → IsReadAs bytes tokens table logic suffix f → IsRefusedIn bytes tokens table logic suffix fault → ⊥
  formula_or_fault Fsm suffix (Machine x) fault h k = fsm_reading.never_both bytes tokens table x fault h k
  formula_or_fault Fsm suffix (Regular x) fault h k = h
  formula_or_fault Fsm suffix (RegularSuffix x) fault h k = h
  formula_or_fault Fsm suffix (Temporal x) fault h k = h
  formula_or_fault Fsm suffix (Grammatical x) fault h k = h
  formula_or_fault Fsm suffix (GrammaticalSuffix x) fault h k = h
  formula_or_fault Ere false (Regular x) fault h k = ere_reading.never_both bytes tokens table x fault h k
  formula_or_fault Ere false (Machine x) fault h k = h
  formula_or_fault Ere false (RegularSuffix x) fault h k = h
  formula_or_fault Ere false (Temporal x) fault h k = h
  formula_or_fault Ere false (Grammatical x) fault h k = h
  formula_or_fault Ere false (GrammaticalSuffix x) fault h k = h
  formula_or_fault Ere true (RegularSuffix x) fault h k = ere_reading.never_both bytes tokens table x fault h k
  formula_or_fault Ere true (Machine x) fault h k = h
  formula_or_fault Ere true (Regular x) fault h k = h
  formula_or_fault Ere true (Temporal x) fault h k = h
  formula_or_fault Ere true (Grammatical x) fault h k = h
  formula_or_fault Ere true (GrammaticalSuffix x) fault h k = h
  formula_or_fault Ptltl suffix (Temporal x) fault h k = past_reading.never_both bytes tokens table x fault h k
  formula_or_fault Ptltl suffix (Machine x) fault h k = h
  formula_or_fault Ptltl suffix (Regular x) fault h k = h
  formula_or_fault Ptltl suffix (RegularSuffix x) fault h k = h
  formula_or_fault Ptltl suffix (Grammatical x) fault h k = h
  formula_or_fault Ptltl suffix (GrammaticalSuffix x) fault h k = h
  formula_or_fault Cfg false (Grammatical x) fault h k = grammar_reading.never_both bytes tokens table false x fault h k
  formula_or_fault Cfg false (Machine x) fault h k = h
  formula_or_fault Cfg false (Regular x) fault h k = h
  formula_or_fault Cfg false (RegularSuffix x) fault h k = h
  formula_or_fault Cfg false (Temporal x) fault h k = h
  formula_or_fault Cfg false (GrammaticalSuffix x) fault h k = h
  formula_or_fault Cfg true (GrammaticalSuffix x) fault h k = grammar_reading.never_both bytes tokens table true x fault h k
  formula_or_fault Cfg true (Machine x) fault h k = h
  formula_or_fault Cfg true (Regular x) fault h k = h
  formula_or_fault Cfg true (RegularSuffix x) fault h k = h
  formula_or_fault Cfg true (Temporal x) fault h k = h
  formula_or_fault Cfg true (Grammatical x) fault h k = h

-- ---- lists of formulas

module _ (bytes : List ℕ) (tokens : List Token) (table : EventDefinitions) (suffix : Bool) where
  -- no properties say two lists of formulas
  pub one_formulas : (ps : List PropertyFacts) (fs gs : List Formula) → AreFormulas bytes tokens table suffix ps fs → AreFormulas bytes tokens table suffix ps gs → fs ≡ gs
  one_formulas [] [] [] a b = refl
  one_formulas [] [] (g ∷ gs) a b = absurd b
  one_formulas [] (f ∷ fs) gs a b = absurd a
  one_formulas (p ∷ ps) [] gs a b = absurd a
  one_formulas (p ∷ ps) (f ∷ fs) [] a b = absurd b
  one_formulas (p ∷ ps) (f ∷ fs) (g ∷ gs) a b =
      let here = one_formula bytes (formula_of tokens p) table p.logic suffix f g a.0 b.0 in
      let rest = one_formulas ps fs gs a.1 b.1 in
      λ i. here i ∷ rest i

  -- the formula of each property
  pub read_at : (ps : List PropertyFacts) (fs : List Formula) (k : ℕ) (p : PropertyFacts) → AreFormulas bytes tokens table suffix ps fs → slice_get ps k ≡ Some p → (f : Formula) × (slice_get fs k ≡ Some f) × IsFormula bytes tokens table suffix p f
  read_at [] fs k p a at = absurd (none-some p at)
  read_at (q ∷ ps) [] k p a at = absurd a
  read_at (q ∷ ps) (f ∷ fs) zero p a at = (f, refl, subst (λ (x : PropertyFacts). IsFormula bytes tokens table suffix x f) (same_Some q p at) a.0)
  read_at (q ∷ ps) (f ∷ fs) (suc k) p a at = read_at ps fs k p a.1 at

  -- the formula of a property is that of its number
  pub formula_at : (ps : List PropertyFacts) (fs : List Formula) (k : ℕ) (p : PropertyFacts) (f : Formula) → AreFormulas bytes tokens table suffix ps fs → slice_get ps k ≡ Some p → slice_get fs k ≡ Some f → IsFormula bytes tokens table suffix p f
  formula_at ps fs k p f a at there =
      let h = read_at ps fs k p a at in
      subst (IsFormula bytes tokens table suffix p) (same_Some h.0 f (sym h.1 ∙ there)) h.2

  pub count_formulas : (ps : List PropertyFacts) (fs : List Formula) → AreFormulas bytes tokens table suffix ps fs → length fs ≡ length ps
  count_formulas [] [] a = refl
  count_formulas [] (f ∷ fs) a = absurd a
  count_formulas (p ∷ ps) [] a = absurd a
  count_formulas (p ∷ ps) (f ∷ fs) a = ap suc (count_formulas ps fs a.1)

  pub formulas_or_fault : (ps : List PropertyFacts) (fs : List Formula) (fault : SpecFault) → AreFormulas bytes tokens table suffix ps fs → IsFirstRefusal (IsRefusedFormula bytes tokens table suffix) ps fault → ⊥
  formulas_or_fault ps fs fault read h =
      let f = read_at ps fs h.number h.property read h.there in
      formula_or_fault bytes (formula_of tokens h.property) table h.property.logic suffix f.0 fault f.2 h.refused

-- ---- rules

module _ (bytes : List ℕ) (tokens : List Token) (tree : SpecTree) (r : RuleDefinition) (told : IsCompiledFrom bytes tokens tree r) where
  same_formulas : (fs : List Formula) → AreFormulas bytes tokens tree.table (is_some tree.suffix) (properties_of tree) fs → told.formulas ≡ fs
  same_formulas fs read = one_formulas bytes tokens tree.table (is_some tree.suffix) (properties_of tree) told.formulas fs told.read read

  pub one_rules : (s : RuleDefinition) → IsCompiledFrom bytes tokens tree s → r ≡ s
  one_rules s other =
      told.rules ∙ ap (λ (fs : List Formula). rules_of tree.table tree.full_binding (properties_said bytes tokens (properties_of tree) fs)) (same_formulas other.formulas other.read) ∙ sym other.rules

  pub rules_or_fault : (fault : SpecFault) → IsFaultyTree bytes tokens tree fault → ⊥
  rules_or_fault fault (in_formulas refused) = formulas_or_fault bytes tokens tree.table (is_some tree.suffix) (properties_of tree) told.formulas fault told.read refused
  rules_or_fault fault (in_handlers fs read bad) =
      never_some (sym told.handled ∙ ap (λ (gs : List Formula). handlers_fault bytes tree.full_binding tokens (properties_of tree) gs) (same_formulas fs read) ∙ bad)
  rules_or_fault fault (in_suffix fs read handled bad) = never_some (sym told.suffixed ∙ bad)
  rules_or_fault fault (in_tables fs read handled suffixed bad) =
      told.settled bad.number bad.formula fault (ap (λ (gs : List Formula). slice_get gs bad.number) (same_formulas fs read) ∙ bad.there) bad.faulty
