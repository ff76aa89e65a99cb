-- The first fault of a script is one, and that of a specification is one but for the line of `Syntax`.
use Rattle.std.proofs.Common.{◌≡◌, ℕ, ◌⊎◌, inl, inr, Bool, List, length, Option, Some, None, Err, slice_get, refl, sym, ap, subst, ◌∙◌, arith}
use Rattle.std.proofs.lemmas.Bool.{false≢true, cases_order}
use Rattle.std.specs.Prelude.{true, false, is_some, IsUtf8}
use Rattle.jm_model.specs.declared.fault.Counted.TheVariants.{Nesting}
use Rattle.jm_model.specs.declared.fault.SpecFault.{SpecFault}
use Rattle.jm_model.specs.declared.fault.SpecFault.TheVariants.{Syntax, NotUtf8, OpenText, TooMany}
use Rattle.jm_model.specs.declared.fault.SpecError.TheVariants.{Bad}
use Rattle.jm_model.specs.declared.fault.ScriptFault.{ScriptFault}
use Rattle.jm_text.specs.declared.token.Token.{Token}
use Rattle.jm_text.specs.Tokens.{IsFaultOf, IsOpenOn}
use Rattle.jm_events.specs.Events.{EventDefinitions}
use Rattle.jm_reading.specs.Nesting.{is_too_deep}
use Rattle.jm_reading.specs.Formulas.{IsRefusedBy, IsRefusedWithin}
use Rattle.jm_spec.specs.declared.tree.Logic.{Logic}
use Rattle.jm_spec.specs.declared.tree.Logic.TheVariants.{Fsm, Ere, Cfg, Ptltl}
use Rattle.jm_spec.specs.declared.tree.SpecTree.{SpecTree}
use Rattle.jm_spec.specs.Faults.{frame_fault}
use Rattle.jm_spec.specs.Spelling.{Spells}
use Rattle.jm_spec.specs.Trees.{PropertyFacts, properties_of, IsFaultOfTokens}
use Rattle.jm_table.proofs.ExplorationLemmas.{explored_one}
use Rattle.jm_fsm.specs.Spelling as fsm_spelling
use Rattle.jm_fsm.specs.Faults as fsm_faults
use Rattle.jm_fsm.proofs.GrammarLemmas as fsm_grammar
use Rattle.jm_ere.specs.NormalForms.{forms_of}
use Rattle.jm_ere.specs.Suffixes.{suffixed}
use Rattle.jm_ere.specs.Spelling as ere_spelling
use Rattle.jm_ere.specs.Faults as ere_faults
use Rattle.jm_ere.proofs.FormulaLemmas as ere_grammar
use Rattle.jm_ptltl.specs.Spelling as past_spelling
use Rattle.jm_ptltl.specs.Faults as past_faults
use Rattle.jm_ptltl.proofs.GrammarLemmas as past_grammar
use Rattle.jm_grammar.specs.Spelling as grammar_spelling
use Rattle.jm_grammar.specs.Faults as grammar_faults
use Rattle.jm_grammar.proofs.GrammarLemmas as grammar
use Rattle.jm_machine.specs.declared.formula.Formula.{Formula}
use Rattle.jm_machine.specs.declared.formula.Formula.TheVariants.{Machine, Regular, RegularSuffix, Temporal, Grammatical, GrammaticalSuffix}
use Rattle.jm_machine.specs.Formulas.{IsRefusedIn, IsTableFault}
use Rattle.jm_machine.specs.FirstRefusals.{IsFirstRefusal}
use Rattle.jm_machine.specs.Handlers.{handlers_fault}
use Rattle.jm_machine.specs.Compiling.{formula_of, IsRefusedFormula, AreFormulas, IsFirstTableFault, IsFaultyTree, in_formulas, in_handlers, in_suffix, in_tables}
use Rattle.jm_machine.proofs.ReadingLemmas.{one_formulas, formulas_or_fault}
use Rattle.jm_inputs.specs.Specifications.{Specification, IsSpecFault, too_long, no_tokens, in_frame, in_tree}
use Rattle.jm_inputs.specs.Scripts.{IsScriptFault, too_long as script_too_long, in_line}
use Rattle.jm_inputs.proofs.OneReadingLemmas.{IsSameTold, same_some, never_some, same_err, one_list, one_frame, one_told, read_moved, handled_moved, suffix_moved, letters_moved, tree_has_no_fault, cut_has_no_fault}
use Rattle.jm_telling.specs.FirstFaults.{IsSyntax, IsSameFault}
use Rattle.jm_machine.proofs.RefusalLemmas.{one_first}

-- ---- scripts

pub one_script_fault : (specs : List Specification) (count : ℕ) (names : List (List ℕ)) (bytes : List ℕ) (fault other : ScriptFault)
    → IsScriptFault specs count names bytes fault → IsScriptFault specs count names bytes other → fault ≡ other
one_script_fault specs count names bytes _ _ (script_too_long more) (script_too_long less) = refl
one_script_fault specs count names bytes _ _ (script_too_long more) (in_line other small has) = absurd (omega (arith, more, small))
one_script_fault specs count names bytes _ _ (in_line fault small has) (script_too_long more) = absurd (omega (arith, more, small))
one_script_fault specs count names bytes _ _ (in_line fault small has) (in_line other less also) = same_some (sym has ∙ also)

-- ---- what is refused

module _ {X : Type 0} (IsSpelled : X → Type 0) (first : X → Option SpecFault) (one : (x y : X) → IsSpelled x → IsSpelled y → x ≡ y) where
  -- nothing is spelled, or what is spelled has the fault
  abbrev IsBad : SpecFault → Type 0
  IsBad fault = (IsSyntax fault × ((x : X) → IsSpelled x → ⊥)) ⊎ ((x : X) × IsSpelled x × (first x ≡ Some fault))

  bad_of : (fault : SpecFault) → IsRefusedBy IsSpelled first (Bad fault) → IsBad fault
  bad_of (Syntax line) h = inl (tt, h)
  bad_of _ h = inr h

  one_bad : (fault other : SpecFault) → IsBad fault → IsBad other → IsSameFault fault other
  one_bad fault other (inl a) (inl b) = inr (a.0, b.0)
  one_bad fault other (inl a) (inr b) = absurd (a.1 b.0 b.1)
  one_bad fault other (inr a) (inl b) = absurd (b.1 a.0 a.1)
  one_bad fault other (inr a) (inr b) = inl (same_some (sym a.2 ∙ ap first (one a.0 b.0 a.1 b.1) ∙ b.2))

  one_refused : (fault other : SpecFault) → IsRefusedBy IsSpelled first (Bad fault) → IsRefusedBy IsSpelled first (Bad other) → IsSameFault fault other
  one_refused fault other a b = one_bad fault other (bad_of fault a) (bad_of other b)

  module _ (deep : Bool) where
    -- it is nested too deeply, or else is bad
    abbrev IsDeepOrBad : SpecFault → Type 0
    IsDeepOrBad fault = ((deep ≡ true) × (fault ≡ TooMany Nesting)) ⊎ ((deep ≡ false) × IsBad fault)

    deep_or_bad : (fault : SpecFault) → IsRefusedWithin IsSpelled first deep (Bad fault) → IsDeepOrBad fault
    deep_or_bad (TooMany Nesting) h = inl (h, refl)
    deep_or_bad fault h = inr (h.0, bad_of fault h.1)

    one_deep_or_bad : (fault other : SpecFault) → IsDeepOrBad fault → IsDeepOrBad other → IsSameFault fault other
    one_deep_or_bad fault other (inl a) (inl b) = inl (a.1 ∙ sym b.1)
    one_deep_or_bad fault other (inl a) (inr b) = absurd (false≢true (sym b.0 ∙ a.0))
    one_deep_or_bad fault other (inr a) (inl b) = absurd (false≢true (sym a.0 ∙ b.0))
    one_deep_or_bad fault other (inr a) (inr b) = one_bad fault other a.1 b.1

    one_within : (fault other : SpecFault) → IsRefusedWithin IsSpelled first deep (Bad fault) → IsRefusedWithin IsSpelled first deep (Bad other) → IsSameFault fault other
    one_within fault other a b = one_deep_or_bad fault other (deep_or_bad fault a) (deep_or_bad other b)

-- ---- formulas

module _ (bytes : List ℕ) (tokens : List Token) (table : EventDefinitions) (suffix : Bool) where
  one_formula_fault : (logic : Logic) (fault other : SpecFault) → IsRefusedIn bytes tokens table logic suffix fault → IsRefusedIn bytes tokens table logic suffix other → IsSameFault fault other
  one_formula_fault Fsm fault other a b = one_refused (fsm_spelling.Spells bytes tokens) (fsm_faults.first_fault bytes table) (fsm_grammar.one_formula bytes tokens) fault other a b
  one_formula_fault Ere fault other a b =
      one_within (ere_spelling.Spells bytes tokens) (ere_faults.first_fault bytes table) (ere_grammar.one_formula bytes tokens) (is_too_deep bytes 0 tokens) fault other a b
  one_formula_fault Ptltl fault other a b =
      one_within (past_spelling.Spells bytes tokens) (past_faults.first_fault bytes table) (past_grammar.one_formula bytes tokens) (is_too_deep bytes 0 tokens) fault other a b
  one_formula_fault Cfg fault other a b = one_refused (grammar_spelling.Spells bytes tokens) (grammar_faults.first_fault bytes table suffix) (grammar.one_formula bytes tokens) fault other a b

-- ---- tables

one_table_fault : (f : Formula) (letters : ℕ) (fault other : SpecFault) → IsTableFault f letters fault → IsTableFault f letters other → fault ≡ other
one_table_fault (Machine m) letters fault other a b = absurd a
one_table_fault (Regular e) letters fault other a b = same_err (explored_one (forms_of e) letters (Err fault) (Err other) a b)
one_table_fault (RegularSuffix e) letters fault other a b = same_err (explored_one (forms_of (suffixed e)) letters (Err fault) (Err other) a b)
one_table_fault (Temporal p) letters fault other a b = a.0 ∙ sym b.0
one_table_fault (Grammatical g) letters fault other a b = absurd a
one_table_fault (GrammaticalSuffix g) letters fault other a b = absurd a

one_first_table_fault : (letters : ℕ) (fs : List Formula) (fault other : SpecFault) → IsFirstTableFault letters fs fault → IsFirstTableFault letters fs other → fault ≡ other
one_first_table_fault letters fs fault other a b =
    elim (cases_order a.number b.number) [
      | inl e ↦
          let formula : a.formula ≡ b.formula = same_some (sym a.there ∙ ap (λ (n : ℕ). slice_get fs n) e ∙ b.there) in
          one_table_fault b.formula letters fault other (subst (λ (f : Formula). IsTableFault f letters fault) formula a.faulty) b.faulty
      | inr apart ↦ elim apart [
        | inl before ↦ absurd (b.before a.number a.formula fault before a.there a.faulty)
        | inr behind ↦ absurd (a.before b.number b.formula other behind b.there b.faulty)
      ]
    ]

-- ---- trees

module _ (bytes : List ℕ) (tokens : List Token) (tree : SpecTree) where
  -- the fault of the handlers of the formulas that are read
  abbrev fault_over : List Formula → Option SpecFault
  fault_over fs = handlers_fault bytes tree.full_binding tokens (properties_of tree) fs

  one_property_fault : (p : PropertyFacts) (fault other : SpecFault) → IsRefusedFormula bytes tokens tree.table (is_some tree.suffix) p fault → IsRefusedFormula bytes tokens tree.table (is_some tree.suffix) p other → IsSameFault fault other
  one_property_fault p fault other a b = one_formula_fault bytes (formula_of tokens p) tree.table (is_some tree.suffix) p.logic fault other a b

  -- the formulas that are read are these alone, and none is refused
  abbrev AreRead : List Formula → Type 0
  AreRead fs = AreFormulas bytes tokens tree.table (is_some tree.suffix) (properties_of tree) fs

  one_read : (fs gs : List Formula) → AreRead fs → AreRead gs → fs ≡ gs
  one_read fs gs read says = one_formulas bytes tokens tree.table (is_some tree.suffix) (properties_of tree) fs gs read says

  read_or_fault : (fs : List Formula) (fault : SpecFault) → AreRead fs → IsFirstRefusal (IsRefusedFormula bytes tokens tree.table (is_some tree.suffix)) (properties_of tree) fault → ⊥
  read_or_fault fs fault read bad = formulas_or_fault bytes tokens tree.table (is_some tree.suffix) (properties_of tree) fs fault read bad

  -- the handlers have no fault, or they have one
  sound_or_bad : (fs gs : List Formula) (fault : SpecFault) → AreRead fs → AreRead gs → fault_over fs ≡ None → fault_over gs ≡ Some fault → ⊥
  sound_or_bad fs gs fault read says sound bad = never_some (sym sound ∙ ap fault_over (one_read fs gs read says) ∙ bad)

  one_tree_fault : (fault other : SpecFault) → IsFaultyTree bytes tokens tree fault → IsFaultyTree bytes tokens tree other → IsSameFault fault other
  one_tree_fault fault other (in_formulas a) (in_formulas b) =
      one_first (IsRefusedFormula bytes tokens tree.table (is_some tree.suffix)) IsSameFault one_property_fault (properties_of tree) fault other a b
  one_tree_fault fault other (in_formulas a) (in_handlers gs says worse) = absurd (read_or_fault gs fault says a)
  one_tree_fault fault other (in_formulas a) (in_suffix gs says sound worse) = absurd (read_or_fault gs fault says a)
  one_tree_fault fault other (in_formulas a) (in_tables gs says sound plain worse) = absurd (read_or_fault gs fault says a)
  one_tree_fault fault other (in_handlers fs read bad) (in_formulas b) = absurd (read_or_fault fs other read b)
  one_tree_fault fault other (in_suffix fs read sound bad) (in_formulas b) = absurd (read_or_fault fs other read b)
  one_tree_fault fault other (in_tables fs read sound plain bad) (in_formulas b) = absurd (read_or_fault fs other read b)
  one_tree_fault fault other (in_handlers fs read bad) (in_handlers gs says worse) = inl (same_some (sym bad ∙ ap fault_over (one_read fs gs read says) ∙ worse))
  one_tree_fault fault other (in_handlers fs read bad) (in_suffix gs says sound worse) = absurd (sound_or_bad gs fs fault says read sound bad)
  one_tree_fault fault other (in_handlers fs read bad) (in_tables gs says sound plain worse) = absurd (sound_or_bad gs fs fault says read sound bad)
  one_tree_fault fault other (in_suffix fs read sound bad) (in_handlers gs says worse) = absurd (sound_or_bad fs gs other read says sound worse)
  one_tree_fault fault other (in_tables fs read sound plain bad) (in_handlers gs says worse) = absurd (sound_or_bad fs gs other read says sound worse)
  one_tree_fault fault other (in_suffix fs read sound bad) (in_suffix gs says also worse) = inl (same_some (sym bad ∙ worse))
  one_tree_fault fault other (in_suffix fs read sound bad) (in_tables gs says also plain worse) = absurd (never_some (sym plain ∙ bad))
  one_tree_fault fault other (in_tables fs read sound plain bad) (in_suffix gs says also worse) = absurd (never_some (sym plain ∙ worse))
  one_tree_fault fault other (in_tables fs read sound plain bad) (in_tables gs says also simple worse) =
      let letters = length tree.table.events in
      inl (one_first_table_fault letters gs fault other (subst (λ (xs : List Formula). IsFirstTableFault letters xs fault) (one_read fs gs read says) bad) worse)

-- ---- frames

one_frame_fault : (bytes : List ℕ) (tokens : List Token) (fault other : SpecFault) → IsFaultOfTokens bytes tokens (Bad fault) → IsFaultOfTokens bytes tokens (Bad other) → IsSameFault fault other
one_frame_fault bytes tokens = one_refused (Spells bytes tokens) (frame_fault bytes) (λ f g. one_frame bytes tokens tokens f g refl)

-- ---- tokens

no_cut : (bytes : List ℕ) (fault : SpecFault) → IsFaultOf bytes (Bad fault)
    → ((fault ≡ NotUtf8) × (IsUtf8 bytes → ⊥)) ⊎ ((line : ℕ) × (fault ≡ OpenText line) × IsOpenOn bytes line)
no_cut bytes NotUtf8 h = inl (refl, h)
no_cut bytes (OpenText line) h = inr (line, refl, h)
no_cut bytes _ h = absurd h

one_cut_fault : (bytes : List ℕ) (fault other : SpecFault) → IsFaultOf bytes (Bad fault) → IsFaultOf bytes (Bad other) → fault ≡ other
one_cut_fault bytes fault other a b = elim (no_cut bytes fault a) [
  | inl x ↦ elim (no_cut bytes other b) [
    | inl y ↦ x.0 ∙ sym y.0
    | inr y ↦ absurd (x.1 y.2.utf8)
  ]
  | inr x ↦ elim (no_cut bytes other b) [
    | inl y ↦ absurd (y.1 x.2.utf8)
    | inr y ↦ x.1 ∙ ap (λ line. OpenText line) (same_err (sym x.2.cut ∙ y.2.cut)) ∙ sym y.1
  ]
]

-- ---- trees of the same bytes

module _ (bytes : List ℕ) (ts us : List Token) (a b : SpecTree) (same : IsSameTold ts us a b) where
  refused_moved : (fault : SpecFault) → IsFirstRefusal (IsRefusedFormula bytes ts a.table (is_some a.suffix)) (properties_of a) fault → IsFirstRefusal (IsRefusedFormula bytes us b.table (is_some b.suffix)) (properties_of b) fault
  refused_moved fault h =
      subst (λ (ps : List PropertyFacts). IsFirstRefusal (IsRefusedFormula bytes us b.table (is_some b.suffix)) ps fault) same.tree.properties
      (subst (λ (line : Option ℕ). IsFirstRefusal (IsRefusedFormula bytes us b.table (is_some line)) (properties_of a) fault) same.tree.suffix
      (subst (λ (t : EventDefinitions). IsFirstRefusal (IsRefusedFormula bytes us t (is_some a.suffix)) (properties_of a) fault) same.tree.table
      (subst (λ (v : List Token). IsFirstRefusal (IsRefusedFormula bytes v a.table (is_some a.suffix)) (properties_of a) fault) same.tokens h)))

  faulty_moved : (fault : SpecFault) → IsFaultyTree bytes ts a fault → IsFaultyTree bytes us b fault
  faulty_moved fault (in_formulas refused) = in_formulas (refused_moved fault refused)
  faulty_moved fault (in_handlers fs read bad) = in_handlers fs (read_moved bytes ts us a b same fs read) (sym (handled_moved bytes ts us a b same fs) ∙ bad)
  faulty_moved fault (in_suffix fs read sound bad) =
      in_suffix fs (read_moved bytes ts us a b same fs read) (sym (handled_moved bytes ts us a b same fs) ∙ sound) (sym (suffix_moved bytes ts us a b same) ∙ bad)
  faulty_moved fault (in_tables fs read sound plain bad) =
      in_tables fs (read_moved bytes ts us a b same fs read) (sym (handled_moved bytes ts us a b same fs) ∙ sound) (sym (suffix_moved bytes ts us a b same) ∙ plain)
      (subst (λ n. IsFirstTableFault n fs fault) (letters_moved bytes ts us a b same) bad)

-- ---- specifications

pub one_spec_fault : (bytes : List ℕ) (fault other : SpecFault) → IsSpecFault bytes fault → IsSpecFault bytes other → IsSameFault fault other
one_spec_fault bytes _ _ (too_long more) (too_long less) = inl refl
one_spec_fault bytes _ _ (too_long more) (no_tokens other small none) = absurd (omega (arith, more, small))
one_spec_fault bytes _ _ (too_long more) (in_frame tokens other small cut bad) = absurd (omega (arith, more, small))
one_spec_fault bytes _ _ (too_long more) (in_tree tokens tree other told bad) = absurd (omega (arith, more, told.small))
one_spec_fault bytes _ _ (no_tokens fault small none) (too_long more) = absurd (omega (arith, more, small))
one_spec_fault bytes _ _ (in_frame tokens fault small cut bad) (too_long more) = absurd (omega (arith, more, small))
one_spec_fault bytes _ _ (in_tree tokens tree fault told bad) (too_long more) = absurd (omega (arith, more, told.small))
one_spec_fault bytes _ _ (no_tokens fault small none) (no_tokens other less neither) = inl (one_cut_fault bytes fault other none neither)
one_spec_fault bytes _ _ (no_tokens fault small none) (in_frame tokens other less cut bad) = absurd (cut_has_no_fault bytes tokens fault cut none)
one_spec_fault bytes _ _ (no_tokens fault small none) (in_tree tokens tree other told bad) = absurd (cut_has_no_fault bytes tokens fault told.cut none)
one_spec_fault bytes _ _ (in_frame tokens fault small cut bad) (no_tokens other less none) = absurd (cut_has_no_fault bytes tokens other cut none)
one_spec_fault bytes _ _ (in_tree tokens tree fault told bad) (no_tokens other less none) = absurd (cut_has_no_fault bytes tokens other told.cut none)
one_spec_fault bytes _ _ (in_frame ts fault small cut bad) (in_frame us other less also worse) =
    one_frame_fault bytes us fault other (subst (λ list. IsFaultOfTokens bytes list (Bad fault)) (one_list bytes ts us cut also) bad) worse
one_spec_fault bytes _ _ (in_frame ts fault small cut bad) (in_tree us tree other told worse) =
    absurd (tree_has_no_fault bytes us tree fault told.told (subst (λ list. IsFaultOfTokens bytes list (Bad fault)) (one_list bytes ts us cut told.cut) bad))
one_spec_fault bytes _ _ (in_tree us tree fault told bad) (in_frame ts other small cut worse) =
    absurd (tree_has_no_fault bytes us tree other told.told (subst (λ list. IsFaultOfTokens bytes list (Bad other)) (one_list bytes ts us cut told.cut) worse))
one_spec_fault bytes _ _ (in_tree ts a fault told bad) (in_tree us b other says worse) =
    let same = one_told bytes ts us a b told says in
    one_tree_fault bytes us b fault other (faulty_moved bytes ts us a b same fault bad) worse
