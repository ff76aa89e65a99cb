-- There is one first refusal, and how it is found a property at a time.
use Rattle.std.proofs.Common.{◌≡◌, ◌<◌, ◌≤◌, ◌⊎◌, inl, inr, ℕ, zero, suc, Bool, true, false, List, [], ◌∷◌, ◌++◌, Option, Some, None, length, slice_get, refl, sym, ◌∙◌, ap, subst, arith}
use Rattle.std.specs.Prelude.{nat_le, if◌then◌else◌}
use Rattle.std.proofs.lemmas.Bool.{cases_lt, false≢true, leb-true, leb-false}
use Rattle.std.proofs.lemmas.Option.{same_Some, none-some, slice_get_within}
use Rattle.jm_model.specs.declared.fault.SpecFault.{SpecFault}
use Rattle.jm_model.specs.declared.fault.Counted.TheVariants.{Nesting}
use Rattle.jm_model.specs.declared.fault.SpecFault.TheVariants.{Syntax, TooMany}
use Rattle.jm_model.specs.declared.fault.SpecError.TheVariants.{Bad}
use Rattle.jm_text.specs.declared.token.Token.{Token}
use Rattle.jm_reading.specs.Nesting.{is_too_deep}
use Rattle.jm_reading.specs.Formulas.{IsRefusedBy, IsRefusedWithin}
use Rattle.jm_events.specs.Events.{EventDefinitions}
use Rattle.jm_spec.specs.declared.tree.Logic.{Logic}
use Rattle.jm_spec.specs.declared.tree.Logic.TheVariants.{Fsm, Ere, Cfg, Ptltl}
use Rattle.jm_spec.specs.Trees.{PropertyFacts}
use Rattle.jm_fsm.specs.Spelling as fsm_spelling
use Rattle.jm_fsm.specs.Faults as fsm_faults
use Rattle.jm_fsm.proofs.GrammarLemmas as fsm_grammar
use Rattle.jm_ere.specs.Spelling as ere_spelling
use Rattle.jm_ere.specs.Faults as ere_faults
use Rattle.jm_ere.proofs.FormulaLemmas as ere_grammar
use Rattle.jm_ptltl.specs.Spelling as past_spelling
use Rattle.jm_ptltl.specs.Faults as past_faults
use Rattle.jm_ptltl.proofs.GrammarLemmas as past_grammar
use Rattle.jm_grammar.specs.Spelling as grammar_spelling
use Rattle.jm_grammar.specs.Faults as grammar_faults
use Rattle.jm_grammar.proofs.GrammarLemmas as grammar
use Rattle.jm_machine.specs.declared.formula.Formula.{Formula}
use Rattle.jm_machine.specs.Formulas.{IsRefusedIn}
use Rattle.jm_machine.specs.Compiling.{formula_of, IsFormula, IsRefusedFormula, AreFormulas}
use Rattle.jm_machine.specs.Refusals.{earlier_of}
use Rattle.jm_machine.proofs.ReadingLemmas.{formula_or_fault, read_at}
use Rattle.jm_machine.specs.FirstRefusals.{step_of_fault, IsFirstRefusal}

module _ {P : Type 0} (IsRefused : P → SpecFault → Type 0) (IsSame : SpecFault → SpecFault → Type 0) (one : (p : P) (f g : SpecFault) → IsRefused p f → IsRefused p g → IsSame f g) where
  same_number : (a b i j : ℕ) → (a < b) ⊎ ((a ≡ b) × (i ≤ j)) → (b < a) ⊎ ((b ≡ a) × (j ≤ i)) → i ≡ j
  same_number a b i j (inl h) (inl k) = omega (arith, h, k)
  same_number a b i j (inl h) (inr k) = omega (arith, h, k.0)
  same_number a b i j (inr h) (inl k) = omega (arith, h.0, k)
  same_number a b i j (inr h) (inr k) = omega (arith, h.1, k.1)

  pub one_first : (ps : List P) (f g : SpecFault) → IsFirstRefusal IsRefused ps f → IsFirstRefusal IsRefused ps g → IsSame f g
  one_first ps f g a b =
      let number = same_number (step_of_fault f) (step_of_fault g) a.number b.number (a.first b.number b.property g b.there b.refused) (b.first a.number a.property f a.there a.refused) in
      let property : a.property ≡ b.property = same_Some a.property b.property (sym a.there ∙ ap (λ (n : ℕ). slice_get ps n) number ∙ b.there) in
      one b.property f g (subst (λ p. IsRefused p f) property a.refused) b.refused

-- ---- one step of a formula's faults

module _ {X : Type 0} (IsSpelled : X → Type 0) (first : X → Option SpecFault) (one : (x y : X) → IsSpelled x → IsSpelled y → x ≡ y) where
  abbrev IsUnspelled : SpecFault → Type 0
  IsUnspelled (Syntax line) = (x : X) → IsSpelled x → ⊥
  IsUnspelled _ = ⊥

  -- nothing is spelled, or what is spelled has the fault
  abbrev IsBad : SpecFault → Type 0
  IsBad fault = IsUnspelled fault ⊎ ((x : X) × IsSpelled x × (first x ≡ Some fault))

  bad_of : (fault : SpecFault) → IsRefusedBy IsSpelled first (Bad fault) → IsBad fault
  bad_of (Syntax line) h = inl h
  bad_of _ h = inr h

  both_unspelled : (fault other : SpecFault) → IsUnspelled fault → IsUnspelled other → step_of_fault fault ≡ step_of_fault other
  both_unspelled (Syntax line) (Syntax other) a b = refl
  both_unspelled (Syntax line) _ a b = absurd b
  both_unspelled _ other a b = absurd a

  never_spelled : (fault : SpecFault) (x : X) → IsUnspelled fault → IsSpelled x → ⊥
  never_spelled (Syntax line) x a says = a x says
  never_spelled _ x a says = a

  one_bad : (fault other : SpecFault) → IsBad fault → IsBad other → step_of_fault fault ≡ step_of_fault other
  one_bad fault other (inl a) (inl b) = both_unspelled fault other a b
  one_bad fault other (inl a) (inr b) = absurd (never_spelled fault b.0 a b.1)
  one_bad fault other (inr a) (inl b) = absurd (never_spelled other a.0 b a.1)
  one_bad fault other (inr a) (inr b) = ap step_of_fault (same_Some fault other (sym a.2 ∙ ap first (one a.0 b.0 a.1 b.1) ∙ b.2))

  one_refused : (fault other : SpecFault) → IsRefusedBy IsSpelled first (Bad fault) → IsRefusedBy IsSpelled first (Bad other) → step_of_fault fault ≡ step_of_fault other
  one_refused fault other a b = one_bad fault other (bad_of fault a) (bad_of other b)

  module _ (deep : Bool) where
    -- it is nested too deeply, or else is bad
    abbrev IsDeepOrBad : SpecFault → Type 0
    IsDeepOrBad fault = ((deep ≡ true) × (fault ≡ TooMany Nesting)) ⊎ ((deep ≡ false) × IsBad fault)

    deep_or_bad : (fault : SpecFault) → IsRefusedWithin IsSpelled first deep (Bad fault) → IsDeepOrBad fault
    deep_or_bad (TooMany Nesting) h = inl (h, refl)
    deep_or_bad fault h = inr (h.0, bad_of fault h.1)

    one_deep_or_bad : (fault other : SpecFault) → IsDeepOrBad fault → IsDeepOrBad other → step_of_fault fault ≡ step_of_fault other
    one_deep_or_bad fault other (inl a) (inl b) = ap step_of_fault (a.1 ∙ sym b.1)
    one_deep_or_bad fault other (inl a) (inr b) = absurd (false≢true (sym b.0 ∙ a.0))
    one_deep_or_bad fault other (inr a) (inl b) = absurd (false≢true (sym a.0 ∙ b.0))
    one_deep_or_bad fault other (inr a) (inr b) = one_bad fault other a.1 b.1

    one_within : (fault other : SpecFault) → IsRefusedWithin IsSpelled first deep (Bad fault) → IsRefusedWithin IsSpelled first deep (Bad other) → step_of_fault fault ≡ step_of_fault other
    one_within fault other a b = one_deep_or_bad fault other (deep_or_bad fault a) (deep_or_bad other b)

pub one_step : (bytes : List ℕ) (tokens : List Token) (table : EventDefinitions) (logic : Logic) (suffix : Bool) (fault other : SpecFault) → IsRefusedIn bytes tokens table logic suffix fault → IsRefusedIn bytes tokens table logic suffix other → step_of_fault fault ≡ step_of_fault other
one_step bytes tokens table Fsm suffix fault other a b = one_refused (fsm_spelling.Spells bytes tokens) (fsm_faults.first_fault bytes table) (fsm_grammar.one_formula bytes tokens) fault other a b
one_step bytes tokens table Ere suffix fault other a b =
    one_within (ere_spelling.Spells bytes tokens) (ere_faults.first_fault bytes table) (ere_grammar.one_formula bytes tokens) (is_too_deep bytes 0 tokens) fault other a b
one_step bytes tokens table Ptltl suffix fault other a b =
    one_within (past_spelling.Spells bytes tokens) (past_faults.first_fault bytes table) (past_grammar.one_formula bytes tokens) (is_too_deep bytes 0 tokens) fault other a b
one_step bytes tokens table Cfg suffix fault other a b = one_refused (grammar_spelling.Spells bytes tokens) (grammar_faults.first_fault bytes table suffix) (grammar.one_formula bytes tokens) fault other a b

-- ---- a property at a time

module _ (bytes : List ℕ) (tokens : List Token) (table : EventDefinitions) (suffix : Bool) where
  -- these formulas are read, or this is the first fault
  abbrev pub ReadSoFar : List PropertyFacts → List Formula → Option SpecFault → Type 0
  ReadSoFar ps fs None = AreFormulas bytes tokens table suffix ps fs
  ReadSoFar ps fs (Some fault) = IsFirstRefusal (IsRefusedFormula bytes tokens table suffix) ps fault

  abbrev Refused : PropertyFacts → SpecFault → Type 0
  Refused = IsRefusedFormula bytes tokens table suffix

  formulas_push : (ps : List PropertyFacts) (fs : List Formula) (p : PropertyFacts) (f : Formula) → AreFormulas bytes tokens table suffix ps fs → IsFormula bytes tokens table suffix p f → AreFormulas bytes tokens table suffix (ps ++ p ∷ []) (fs ++ f ∷ [])
  formulas_push [] [] p f h one = (one, tt)
  formulas_push [] (g ∷ fs) p f h one = absurd h
  formulas_push (q ∷ ps) [] p f h one = absurd h
  formulas_push (q ∷ ps) (g ∷ fs) p f h one = (h.0, formulas_push ps fs p f h.1 one)

  -- a property with one more after it
  in_longer : (ps : List PropertyFacts) (p : PropertyFacts) (k : ℕ) (q : PropertyFacts) → slice_get ps k ≡ Some q → slice_get (ps ++ p ∷ []) k ≡ Some q
  in_longer [] p k q at = absurd (none-some q at)
  in_longer (x ∷ ps) p zero q at = at
  in_longer (x ∷ ps) p (suc k) q at = in_longer ps p k q at

  last_of : (ps : List PropertyFacts) (p : PropertyFacts) → slice_get (ps ++ p ∷ []) (length ps) ≡ Some p
  last_of [] p = refl
  last_of (x ∷ ps) p = last_of ps p

  split : (ps : List PropertyFacts) (p : PropertyFacts) (k : ℕ) (q : PropertyFacts) → slice_get (ps ++ p ∷ []) k ≡ Some q → ((slice_get ps k ≡ Some q) × (k < length ps)) ⊎ ((k ≡ length ps) × (p ≡ q))
  split [] p zero q at = inr (refl, same_Some p q at)
  split [] p (suc k) q at = absurd (none-some q at)
  split (x ∷ ps) p zero q at = inl (at, omega arith)
  split (x ∷ ps) p (suc k) q at = elim (split ps p k q at) [ inl h ↦ inl (h.0, omega (arith, h.1)) | inr h ↦ inr (omega (arith, h.0), h.1) ]

  -- a formula more, where there is no fault, and where there is one
  pub read_more : (ps : List PropertyFacts) (fs : List Formula) (first : Option SpecFault) (p : PropertyFacts) (f : Formula) → ReadSoFar ps fs first → IsFormula bytes tokens table suffix p f → ReadSoFar (ps ++ p ∷ []) (fs ++ f ∷ []) first
  read_more ps fs None p f h one = formulas_push ps fs p f h one
  read_more ps fs (Some fault) p f h one = record {
    number = h.number;
    property = h.property;
    there = in_longer ps p h.number h.property h.there;
    refused = h.refused;
    first = λ i q other at bad. elim (split ps p i q at) [
      | inl before ↦ h.first i q other before.0 bad
      | inr last ↦ absurd (formula_or_fault bytes (formula_of tokens p) table p.logic suffix f other one (subst (λ (x : PropertyFacts). Refused x other) (sym last.1) bad))
    ];
  }

  -- a fault more, where there is none, and where there is one
  pub refused_more : (ps : List PropertyFacts) (fs : List Formula) (first : Option SpecFault) (p : PropertyFacts) (fault : SpecFault) → ReadSoFar ps fs first → Refused p fault → IsFirstRefusal Refused (ps ++ p ∷ []) (earlier_of first fault)
  refused_more ps fs None p fault h bad = record {
    number = length ps;
    property = p;
    there = last_of ps p;
    refused = bad;
    first = λ i q other at worse. elim (split ps p i q at) [
      | inl before ↦ let f = read_at bytes tokens table suffix ps fs i q h before.0 in
          absurd (formula_or_fault bytes (formula_of tokens q) table q.logic suffix f.0 other f.2 worse)
      | inr last ↦ inr (one_step bytes (formula_of tokens p) table p.logic suffix fault other bad (subst (λ (x : PropertyFacts). Refused x other) (sym last.1) worse), omega (arith, last.0))
    ];
  }
  refused_more ps fs (Some old) p fault h bad = by_case (nat_le (step_of_fault old) (step_of_fault fault)) refl
    where
      of_last : (other : SpecFault) (q : PropertyFacts) → p ≡ q → Refused q other → step_of_fault fault ≡ step_of_fault other
      of_last other q same worse = one_step bytes (formula_of tokens p) table p.logic suffix fault other bad (subst (λ (x : PropertyFacts). Refused x other) (sym same) worse)

      stays : step_of_fault old ≤ step_of_fault fault → IsFirstRefusal Refused (ps ++ p ∷ []) old
      stays le = record {
        number = h.number;
        property = h.property;
        there = in_longer ps p h.number h.property h.there;
        refused = h.refused;
        first = λ i q other at worse. elim (split ps p i q at) [
          | inl before ↦ h.first i q other before.0 worse
          | inr last ↦
              let within = slice_get_within ps h.number h.property h.there in
              let same = of_last other q last.1 worse in
              elim (cases_lt (step_of_fault old) (step_of_fault other)) [
                | inl less ↦ inl less
                | inr more ↦ inr (omega (arith, le, same, more), omega (arith, within, last.0))
              ]
        ];
      }

      goes : step_of_fault fault < step_of_fault old → IsFirstRefusal Refused (ps ++ p ∷ []) fault
      goes less = record {
        number = length ps;
        property = p;
        there = last_of ps p;
        refused = bad;
        first = λ i q other at worse. elim (split ps p i q at) [
          | inl before ↦ elim (h.first i q other before.0 worse) [
            | inl more ↦ inl (omega (arith, less, more))
            | inr same ↦ inl (omega (arith, less, same.0))
          ]
          | inr last ↦ inr (of_last other q last.1 worse, omega (arith, last.0))
        ];
      }

      by_case : (b : Bool) → nat_le (step_of_fault old) (step_of_fault fault) ≡ b → IsFirstRefusal Refused (ps ++ p ∷ []) (if b then old else fault)
      by_case true is = stays (leb-true (step_of_fault old) (step_of_fault fault) is)
      by_case false is = goes (leb-false (step_of_fault old) (step_of_fault fault) is)
