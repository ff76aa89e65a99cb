-- What a reader of a formula answers.
use Rattle.std.proofs.Common.{ℕ, ◌≡◌, false, List, [], ◌∷◌, ◌++◌, Option, Some, None, Result, Ok, Err, IfOk, IfErr, refl, sym, ap, subst, ◌∙◌, append_assoc, append-nil}
use Rattle.jm_model.specs.declared.fault.SpecError.{SpecError}
use Rattle.jm_model.specs.declared.fault.SpecError.TheVariants.{Bad, NoMemory}
use Rattle.jm_model.specs.declared.fault.SpecFault.{SpecFault}
use Rattle.jm_model.specs.declared.fault.SpecFault.TheVariants.{Syntax}
use Rattle.jm_text.specs.declared.token.Token.{Token}
use Rattle.jm_reading.specs.Answers.{FailsAt}
use Rattle.jm_reading.specs.Faults.{or_else, ◌>>>◌, with_each, fault_of, Refuses, Checks}
use Rattle.jm_reading.specs.Events.{reserved_event_fault, letter_said}
use Rattle.jm_reading.specs.Nesting.{is_too_deep}
use Rattle.jm_reading.proofs.ReadLemmas.{then_then, then_same, IsOther, FailsOther, other_or, other_if, other_event, other_then, other_name, other_of}
use Rattle.jm_reading.proofs.FormulaLemmas as reading
use Rattle.jm_events.specs.Events.{EventDefinitions, event_names}
use Rattle.jm_ere.specs.declared.formula.Atom.{Atom}
use Rattle.jm_ere.specs.declared.formula.Atom.TheVariants.{Name, Epsilon, Empty}
use Rattle.jm_ere.specs.declared.formula.Node.{Node}
use Rattle.jm_ere.specs.declared.formula.Node.TheVariants.{Wrap, Join}
use Rattle.jm_ere.specs.Expressions.{Expression}
use Rattle.jm_ere.specs.Formulas.{Formula, Leaf, Over, Between, node_count}
use Rattle.jm_ere.specs.Spelling.{Spells}
use Rattle.jm_ere.specs.Rules.{postfix, IsWritten, parsed}
use Rattle.jm_ere.specs.Readings.{IsReadFrom, IsRefused}
use Rattle.jm_ere.specs.Faults.{nodes_fault, is_grammar_word, atom_said, over, between, expression_said, first_fault, with_node, stack_of, Leave, fault_of_nodes}
use Rattle.jm_ere.proofs.CompleteLemmas.{spelled_is_parsed}
use Rattle.jm_ere.proofs.SoundLemmas.{parsed_is_spelled}
use Rattle.jm_ere.proofs.FormulaLemmas.{nodes_counted, one_formula}

-- ---- the value of a formula's nodes is what the formula says

module _ (bytes : List ℕ) (events : List (List ℕ)) where
  values : (f : Formula) (stack : List Expression) (rest : List Node) → with_each (with_node bytes events) stack (postfix f ++ rest) ≡ expression_said bytes events f >>> (λ r. with_each (with_node bytes events) (r ∷ stack) rest)
  values (Leaf atom) stack rest = then_then (atom_said bytes events atom) (λ r. Ok (r ∷ stack)) (λ more. with_each (with_node bytes events) more rest)
  values (Over operator f) stack rest =
      ap (with_each (with_node bytes events) stack) (append_assoc (postfix f) (Wrap operator ∷ []) rest)
      ∙ values f stack (Wrap operator ∷ rest)
      ∙ sym (then_then (expression_said bytes events f) (λ r. Ok (over operator r)) (λ r. with_each (with_node bytes events) (r ∷ stack) rest))
  values (Between operator f g) stack rest =
      ap (with_each (with_node bytes events) stack) (append_assoc (postfix f ++ postfix g) (Join operator ∷ []) rest ∙ append_assoc (postfix f) (postfix g) (Join operator ∷ rest))
      ∙ values f stack (postfix g ++ Join operator ∷ rest)
      ∙ then_same (expression_said bytes events f) (λ r. with_each (with_node bytes events) (r ∷ stack) (postfix g ++ Join operator ∷ rest)) (λ r. (expression_said bytes events g >>> (λ s. Ok (between operator r s))) >>> (λ t. with_each (with_node bytes events) (t ∷ stack) rest))
      (λ r is. values g (r ∷ stack) (Join operator ∷ rest) ∙ sym (then_then (expression_said bytes events g) (λ s. Ok (between operator r s)) (λ t. with_each (with_node bytes events) (t ∷ stack) rest)))
      ∙ sym (then_then (expression_said bytes events f) (λ r. expression_said bytes events g >>> (λ s. Ok (between operator r s))) (λ r. with_each (with_node bytes events) (r ∷ stack) rest))

  value_is : (f : Formula) → stack_of bytes events (postfix f) ≡ expression_said bytes events f >>> (λ r. Ok (r ∷ []))
  value_is f = ap (stack_of bytes events) (sym (append-nil (postfix f))) ∙ values f [] []

  said_first : (said : Result Expression SpecFault) (e : Expression) (rest : List Expression) → said >>> (λ r. Ok (r ∷ [])) ≡ Ok (e ∷ rest) → said ≡ Ok e
  said_first (Ok r) e rest h = cc
  said_first (Err fault) e rest h = absurd (cc)

  same_fault : (said : Result Expression SpecFault) → fault_of (said >>> (λ r. Ok (r ∷ []))) ≡ fault_of said
  same_fault (Ok r) = refl
  same_fault (Err fault) = refl

  value_said : (f : Formula) (e : Expression) (rest : List Expression) → stack_of bytes events (postfix f) ≡ Ok (e ∷ rest) → expression_said bytes events f ≡ Ok e
  value_said f e rest h = said_first (expression_said bytes events f) e rest (sym (value_is f) ∙ h)

never_none : (said : Result Expression SpecFault) → said >>> (λ r. Ok (r ∷ [])) ≡ Ok [] → ⊥
never_none (Ok r) h = absurd (cc)
never_none (Err fault) h = absurd (cc)

-- the nodes of a formula leave an expression
pub never_empty : (bytes : List ℕ) (events : List (List ℕ)) (nodes : List Node) → IsWritten nodes → stack_of bytes events nodes ≡ Ok [] → ⊥
never_empty bytes events nodes written h =
    let f : Formula = written.0 in
    never_none (expression_said bytes events f) (sym (value_is bytes events f) ∙ ap (stack_of bytes events) (sym written.1) ∙ h)

faults_are : (bytes : List ℕ) (table : EventDefinitions) (f : Formula) → fault_of_nodes bytes table (postfix f) ≡ first_fault bytes table f
unfolding fault_of_nodes
faults_are bytes table f =
    let values_too : fault_of (stack_of bytes (event_names table) (postfix f)) ≡ fault_of (expression_said bytes (event_names table) f) = ap fault_of (value_is bytes (event_names table) f) ∙ same_fault bytes (event_names table) (expression_said bytes (event_names table) f) in
    ap (λ n. or_else (nodes_fault n) (or_else (reserved_event_fault is_grammar_word table.events) (fault_of (stack_of bytes (event_names table) (postfix f))))) (nodes_counted f)
    ∙ ap (λ o. or_else (nodes_fault (node_count f)) (or_else (reserved_event_fault is_grammar_word table.events) o)) values_too

-- ---- a formula's fault is neither of the grammar nor of parentheses

other_atom : (bytes : List ℕ) (events : List (List ℕ)) (atom : Atom) → FailsOther (atom_said bytes events atom)
other_atom bytes events (Name token) = other_then (letter_said bytes events token) _ (other_name _ token.line) (λ letter. tt)
other_atom bytes events Epsilon = tt
other_atom bytes events Empty = tt

other_said : (bytes : List ℕ) (events : List (List ℕ)) (f : Formula) → FailsOther (expression_said bytes events f)
other_said bytes events (Leaf atom) = other_atom bytes events atom
other_said bytes events (Over operator f) = other_then (expression_said bytes events f) _ (other_said bytes events f) (λ r. tt)
other_said bytes events (Between operator f g) = other_then (expression_said bytes events f) _ (other_said bytes events f) (λ r. other_then (expression_said bytes events g) _ (other_said bytes events g) (λ s. tt))

other_fault : (bytes : List ℕ) (table : EventDefinitions) (f : Formula) → IsOther (first_fault bytes table f)
other_fault bytes table f =
    other_or _ _ (other_if _ _ None tt tt)
    (other_or _ _ (other_event is_grammar_word table.events)
    (other_of _ (other_said bytes (event_names table) f)))

-- ---- what is answered

module _ (bytes : List ℕ) (tokens : List Token) (table : EventDefinitions) (shallow : is_too_deep bytes 0 tokens ≡ false) where
  module _ (nodes : List Node) (read : parsed bytes tokens ≡ Some nodes) where
    pub read_written : IsWritten nodes
    read_written = let formula = parsed_is_spelled bytes tokens nodes read in (formula.0, formula.2)

    pub read_ok : (r : Result Expression SpecError) → IfOk r (Leave bytes (event_names table) nodes) → Checks r (fault_of_nodes bytes table nodes) → IfOk r (IsReadFrom bytes tokens table)
    read_ok (Ok e) made h =
        let formula = parsed_is_spelled bytes tokens nodes read in
        let f : Formula = formula.0 in
        (shallow, (f, formula.1, sym (ap (fault_of_nodes bytes table) formula.2 ∙ faults_are bytes table f) ∙ h, value_said bytes (event_names table) f e made.0 (sym (ap (stack_of bytes (event_names table)) formula.2) ∙ made.1)))
    read_ok (Err e) made h = tt

    pub read_err : (r : Result Expression SpecError) → Checks r (fault_of_nodes bytes table nodes) → IfErr r (IsRefused bytes tokens table)
    read_err (Ok e) h = tt
    read_err (Err e) h =
        let formula = parsed_is_spelled bytes tokens nodes read in
        let f : Formula = formula.0 in
        reading.refused_within (Spells bytes tokens) (first_fault bytes table) f formula.1 (other_fault bytes table f) (is_too_deep bytes 0 tokens) shallow e
        (subst (λ (o : Option SpecFault). Refuses o e) (ap (fault_of_nodes bytes table) formula.2 ∙ faults_are bytes table f) h)

  none_or_some : {X : Type 0} (o : Option X) (x : X) → o ≡ None → o ≡ Some x → ⊥
  none_or_some o x h k = cc

  -- nothing was read
  pub read_none : (e : SpecError) → FailsAt e (parsed bytes tokens) → IsRefused bytes tokens table e
  read_none NoMemory h = tt
  read_none (Bad (Syntax line)) h = (shallow, λ f spelled. none_or_some (parsed bytes tokens) (postfix f) h (spelled_is_parsed bytes tokens f spelled))
  read_none (Bad _) h = absurd h

-- ---- one answer

module _ (bytes : List ℕ) (tokens : List Token) (table : EventDefinitions) where
  pub one_expression : (d e : Expression) → IsReadFrom bytes tokens table d → IsReadFrom bytes tokens table e → d ≡ e
  one_expression = reading.one_within (Spells bytes tokens) (first_fault bytes table) (one_formula bytes tokens) (expression_said bytes (event_names table)) (is_too_deep bytes 0 tokens)

  pub never_both : (e : Expression) (fault : SpecFault) → IsReadFrom bytes tokens table e → IsRefused bytes tokens table (Bad fault) → ⊥
  never_both = reading.never_both_within (Spells bytes tokens) (first_fault bytes table) (one_formula bytes tokens) (expression_said bytes (event_names table)) (is_too_deep bytes 0 tokens)
