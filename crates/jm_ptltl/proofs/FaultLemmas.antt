-- What is wrong with a formula, step by step.
use Rattle.std.proofs.Common.{ℕ, ◌≡◌, ◌<◌, ◌≤◌, inl, inr, Bool, true, false, cond, List, [], ◌∷◌, ◌++◌, Some, None, Result, Ok, Err, IfOk, IfErr, length, refl, sym, ap, ◌∙◌, arith, append_assoc, append-nil, length-append}
use Rattle.std.proofs.lemmas.Bool.Decides.{leb_tells}
use Rattle.jm_model.specs.declared.step.Letter.{Letter}
use Rattle.jm_model.specs.declared.fault.Counted.TheVariants.{Subformulas}
use Rattle.jm_model.specs.declared.fault.SpecFault.{SpecFault}
use Rattle.jm_model.specs.declared.fault.SpecFault.TheVariants.{Syntax, TooMany}
use Rattle.jm_model.specs.declared.fault.SpecError.{SpecError}
use Rattle.jm_model.specs.declared.fault.SpecError.TheVariants.{Bad, NoMemory}
use Rattle.jm_text.specs.declared.token.Token.{Token}
use Rattle.jm_events.specs.Events.{EventDefinitions, event_names}
use Rattle.jm_reading.specs.Answers.{FailsAt}
use Rattle.jm_reading.specs.Faults.{or_else, ◌>>>◌, fault_of, Refuses, Checks, Answers, with_each}
use Rattle.jm_reading.specs.Events.{reserved_event_fault, letter_said}
use Rattle.jm_reading.specs.Nesting.{is_too_deep}
use Rattle.jm_reading.proofs.ReadLemmas.{then_then, then_same, then_ok, IsOther, FailsOther, other_or, other_if, other_event, other_then, other_name, other_of}
use Rattle.jm_reading.proofs.FormulaLemmas as reading
use Rattle.jm_ptltl.specs.declared.formula.Binary.{Binary}
use Rattle.jm_ptltl.specs.declared.formula.Node.{Node}
use Rattle.jm_ptltl.specs.declared.formula.Node.TheVariants.{Event, Prefix, Infix}
use Rattle.jm_ptltl.specs.Formulas.{Formula, event, constant, unary, binary, subformulas, postfix, formula_of}
use Rattle.jm_ptltl.specs.Codes.{formula_of-postfix}
use Rattle.jm_ptltl.specs.Lexicon.{is_grammar_word}
use Rattle.jm_ptltl.specs.Spelling.{Spells}
use Rattle.jm_ptltl.specs.Rules.{formula_at}
use Rattle.jm_ptltl.specs.Faults.{subformulas_fault, formula_said, first_fault, node_said, with_node}
use Rattle.jm_ptltl.specs.Readings.{IsReadFrom, IsRefused}
use Rattle.jm_ptltl.proofs.GrammarLemmas.{formula_sound, formula_none, one_formula}

-- ---- the nodes of a formula over letters

module _ {A : Type 0} where
  postfix_size : (f : Formula A) → length (subformulas f) ≡ length (postfix f)
  postfix_size (event e) = refl
  postfix_size (constant b) = refl
  postfix_size (unary op f) = length-append (subformulas f) (unary op f ∷ []) ∙ omega (arith, postfix_size f) ∙ sym (length-append (postfix f) (Prefix op ∷ []))
  postfix_size (binary op f g) =
      let node : Node A = Infix op (length (postfix g)) in
      length-append (subformulas f) (subformulas g ++ binary op f g ∷ [])
      ∙ omega (arith, postfix_size f, postfix_size g, length-append (subformulas g) (binary op f g ∷ []), length-append (postfix g) (node ∷ []))
      ∙ sym (length-append (postfix f) (postfix g ++ node ∷ []))

ok_same : {A : Type 0} (x y : A) → ◌≡◌ {A = Result A SpecFault} (Ok x) (Ok y) → x ≡ y
ok_same x y h = cc

module _ (bytes : List ℕ) (events : List (List ℕ)) where
  -- a formula over letters has as many nodes
  pub same_size : (f : Formula Token) (g : Formula Letter) → formula_said bytes events f ≡ Ok g → length (postfix g) ≡ length (postfix f)
  same_size (event t) g h =
      let a = then_ok (letter_said bytes events t) (λ letter. Ok (event letter)) g h in
      ap (λ (x : Formula Letter). length (postfix x)) (sym (ok_same (event a.0) g a.2))
  same_size (constant b) g h = ap (λ (x : Formula Letter). length (postfix x)) (sym (ok_same (constant b) g h))
  same_size (unary op f) g h =
      let a = then_ok (formula_said bytes events f) (λ part. Ok (unary op part)) g h in
      let more : length (postfix a.0 ++ Prefix op ∷ []) ≡ length (postfix f ++ Prefix op ∷ []) = length-append (postfix a.0) (Prefix op ∷ []) ∙ omega (arith, same_size f a.0 a.1) ∙ sym (length-append (postfix f) (Prefix op ∷ [])) in
      ap (λ (x : Formula Letter). length (postfix x)) (sym (ok_same (unary op a.0) g a.2)) ∙ more
  same_size (binary op f f') g h =
      let a = then_ok (formula_said bytes events f) (λ left. formula_said bytes events f' >>> λ right. Ok (binary op left right)) g h in
      let b = then_ok (formula_said bytes events f') (λ right. Ok (binary op a.0 right)) g a.2 in
      let here : Node Letter = Infix op (length (postfix b.0)) in
      let there : Node Token = Infix op (length (postfix f')) in
      let more : length (postfix a.0 ++ (postfix b.0 ++ here ∷ [])) ≡ length (postfix f ++ (postfix f' ++ there ∷ [])) =
      length-append (postfix a.0) (postfix b.0 ++ here ∷ [])
      ∙ omega (arith, same_size f a.0 a.1, same_size f' b.0 b.1, length-append (postfix b.0) (here ∷ []), length-append (postfix f') (there ∷ []))
      ∙ sym (length-append (postfix f) (postfix f' ++ there ∷ [])) in
      ap (λ (x : Formula Letter). length (postfix x)) (sym (ok_same (binary op a.0 b.0) g b.2)) ∙ more

  right_said : (op : Binary) (f : Formula Token) (g : Formula Letter) (said left : List (Node Letter)) (ns : List (Node Token)) → formula_said bytes events f ≡ Ok g
      → with_each (with_node bytes events) (((said ++ left) ++ postfix g) ++ Infix op (length (postfix f)) ∷ []) ns ≡ with_each (with_node bytes events) (said ++ (left ++ (postfix g ++ Infix op (length (postfix g)) ∷ []))) ns
  right_said op f g said left ns is =
      let node : Node Letter = Infix op (length (postfix g)) in
      ap (λ k. with_each (with_node bytes events) (((said ++ left) ++ postfix g) ++ Infix op k ∷ []) ns) (sym (same_size f g is))
      ∙ ap (λ l. with_each (with_node bytes events) l ns) (append_assoc (said ++ left) (postfix g) (node ∷ []) ∙ append_assoc said left (postfix g ++ node ∷ []))

  -- the nodes of a formula say those of the formula over letters
  nodes_said : (f : Formula Token) (said : List (Node Letter)) (ns : List (Node Token)) → with_each (with_node bytes events) said (postfix f ++ ns) ≡ (formula_said bytes events f >>> λ g. with_each (with_node bytes events) (said ++ postfix g) ns)
  nodes_said (event t) said ns =
      then_then (node_said bytes events (Event t)) (λ node. Ok (said ++ node ∷ [])) (λ (more : List (Node Letter)). with_each (with_node bytes events) more ns)
      ∙ then_then (letter_said bytes events t) (λ letter. Ok (Event letter)) (λ node. with_each (with_node bytes events) (said ++ node ∷ []) ns)
      ∙ sym (then_then (letter_said bytes events t) (λ letter. Ok (event letter)) (λ (g : Formula Letter). with_each (with_node bytes events) (said ++ postfix g) ns))
  nodes_said (constant b) said ns = refl
  nodes_said (unary op f) said ns =
      ap (λ l. with_each (with_node bytes events) said l) (append_assoc (postfix f) (Prefix op ∷ []) ns)
      ∙ nodes_said f said (Prefix op ∷ ns)
      ∙ then_same (formula_said bytes events f) _ _ (λ g is. ap (λ l. with_each (with_node bytes events) l ns) (append_assoc said (postfix g) (Prefix op ∷ [])))
      ∙ sym (then_then (formula_said bytes events f) (λ part. Ok (unary op part)) (λ (g : Formula Letter). with_each (with_node bytes events) (said ++ postfix g) ns))
  nodes_said (binary op f f') said ns =
      let there : Node Token = Infix op (length (postfix f')) in
      ap (λ l. with_each (with_node bytes events) said l) (append_assoc (postfix f) (postfix f' ++ there ∷ []) ns ∙ ap (λ l. postfix f ++ l) (append_assoc (postfix f') (there ∷ []) ns))
      ∙ nodes_said f said (postfix f' ++ there ∷ ns)
      ∙ then_same (formula_said bytes events f) _ _ (λ g is.
      nodes_said f' (said ++ postfix g) (there ∷ ns)
      ∙ then_same (formula_said bytes events f') _ _ (λ g' is'. right_said op f' g' said (postfix g) ns is')
      ∙ sym (then_then (formula_said bytes events f') (λ right. Ok (binary op g right)) (λ (x : Formula Letter). with_each (with_node bytes events) (said ++ postfix x) ns)))
      ∙ sym (then_then (formula_said bytes events f) (λ left. formula_said bytes events f' >>> λ right. Ok (binary op left right)) (λ (x : Formula Letter). with_each (with_node bytes events) (said ++ postfix x) ns))

  all_said : (f : Formula Token) → with_each (with_node bytes events) [] (postfix f) ≡ (formula_said bytes events f >>> λ g. Ok (postfix g))
  all_said f = ap (λ l. with_each (with_node bytes events) [] l) (sym (append-nil (postfix f))) ∙ nodes_said f [] []

  -- the nodes that were said are those of the formula over letters
  pub said_formula : (f : Formula Token) (nodes : List (Node Letter)) → with_each (with_node bytes events) [] (postfix f) ≡ Ok nodes → (g : Formula Letter) × (formula_said bytes events f ≡ Ok g) × (nodes ≡ postfix g)
  said_formula f nodes h =
      let a = then_ok (formula_said bytes events f) (λ g. Ok (postfix g)) nodes (sym (all_said f) ∙ h) in
      (a.0, a.1, sym (ok_same (postfix a.0) nodes a.2))

  said_err : {A B : Type 0} (r : Result A SpecFault) (g : A → B) (fault : SpecFault) → (r >>> λ x. Ok (g x)) ≡ Err fault → fault_of r ≡ Some fault
  said_err (Ok x) g fault h = absurd (cc)
  said_err (Err e) g fault h = cc

  pub said_refused : (f : Formula Token) (e : SpecError) → Answers {Y = List (Node Letter)} (Err e) (with_each (with_node bytes events) [] (postfix f)) → Refuses (fault_of (formula_said bytes events f)) e
  said_refused f NoMemory h = tt
  said_refused f (Bad fault) h = said_err (formula_said bytes events f) (λ (g : Formula Letter). postfix g) fault (sym (all_said f) ∙ h)

pub well_formed : (nodes : List (Node Letter)) (g : Formula Letter) → nodes ≡ postfix g → postfix (formula_of nodes) ≡ nodes
well_formed nodes g e = ap (λ l. postfix (formula_of l)) e ∙ ap (λ (x : Formula Letter). postfix x) (formula_of-postfix g) ∙ sym e

-- ---- the first fault

first_if : {X : Type 0} (b : Bool) (x y : X) → b ≡ true → cond b x y ≡ x
first_if b x y h = rw h refl

second_if : {X : Type 0} (b : Bool) (x y : X) → b ≡ false → cond b x y ≡ y
second_if b x y h = rw h refl

module _ (bytes : List ℕ) (table : EventDefinitions) (f : Formula Token) where
  many_subformulas : 64 < length (postfix f) → subformulas_fault f ≡ Some (TooMany Subformulas)
  many_subformulas h = let size = postfix_size f in elim (leb_tells 65 (length (subformulas f))) [ inl lt ↦ first_if _ _ _ lt.0 | inr ge ↦ absurd (omega (arith, ge.1, h, size)) ]

  few_subformulas : length (postfix f) ≤ 64 → subformulas_fault f ≡ None
  few_subformulas h = let size = postfix_size f in elim (leb_tells 65 (length (subformulas f))) [ inl lt ↦ absurd (omega (arith, lt.1, h, size)) | inr ge ↦ second_if _ _ _ ge.0 ]

  pub too_many : 64 < length (postfix f) → first_fault bytes table f ≡ Some (TooMany Subformulas)
  unfolding first_fault
  too_many h = ap (λ o. or_else o (or_else (reserved_event_fault is_grammar_word table.events) (fault_of (formula_said bytes (event_names table) f)))) (many_subformulas h)

  next_fault : length (postfix f) ≤ 64 → first_fault bytes table f ≡ or_else (reserved_event_fault is_grammar_word table.events) (fault_of (formula_said bytes (event_names table) f))
  unfolding first_fault
  next_fault h = ap (λ o. or_else o (or_else (reserved_event_fault is_grammar_word table.events) (fault_of (formula_said bytes (event_names table) f)))) (few_subformulas h)

  pub event_refused : (e : SpecError) → length (postfix f) ≤ 64 → Refuses (reserved_event_fault is_grammar_word table.events) e → Refuses (first_fault bytes table f) e
  event_refused NoMemory few h = tt
  event_refused (Bad fault) few h = next_fault few ∙ ap (λ o. or_else o (fault_of (formula_said bytes (event_names table) f))) h

  pub name_refused : (e : SpecError) → length (postfix f) ≤ 64 → reserved_event_fault is_grammar_word table.events ≡ None → Refuses (fault_of (formula_said bytes (event_names table) f)) e → Refuses (first_fault bytes table f) e
  name_refused NoMemory few none h = tt
  name_refused (Bad fault) few none h = next_fault few ∙ ap (λ o. or_else o (fault_of (formula_said bytes (event_names table) f))) none ∙ h

  pub no_fault : (g : Formula Letter) → length (postfix f) ≤ 64 → reserved_event_fault is_grammar_word table.events ≡ None → formula_said bytes (event_names table) f ≡ Ok g → first_fault bytes table f ≡ None
  no_fault g few none is = next_fault few ∙ ap (λ o. or_else o (fault_of (formula_said bytes (event_names table) f))) none ∙ ap fault_of is

-- ---- what a reader of a formula answers

other_said : (bytes : List ℕ) (events : List (List ℕ)) (f : Formula Token) → FailsOther (formula_said bytes events f)
other_said bytes events (event t) = other_then (letter_said bytes events t) _ (other_name _ t.line) (λ letter. tt)
other_said bytes events (constant b) = tt
other_said bytes events (unary op f) = other_then (formula_said bytes events f) _ (other_said bytes events f) (λ g. tt)
other_said bytes events (binary op f g) = other_then (formula_said bytes events f) _ (other_said bytes events f) (λ x. other_then (formula_said bytes events g) _ (other_said bytes events g) (λ y. tt))

other_fault : (bytes : List ℕ) (table : EventDefinitions) (f : Formula Token) → IsOther (first_fault bytes table f)
unfolding first_fault
other_fault bytes table f = other_or _ _ (other_if _ _ None tt tt) (other_or _ _ (other_event is_grammar_word table.events) (other_of _ (other_said bytes (event_names table) f)))

module _ (bytes : List ℕ) (tokens : List Token) (table : EventDefinitions) (shallow : is_too_deep bytes 0 tokens ≡ false) where
  module _ (f : Formula Token) (spelled : formula_at bytes tokens ≡ Some f) where
    pub read_err : (r : Result (Formula Letter) SpecError) → Checks r (first_fault bytes table f) → IfErr r (IsRefused bytes tokens table)
    read_err (Ok g) h = tt
    read_err (Err e) h =
        reading.refused_within (Spells bytes tokens) (first_fault bytes table) f (formula_sound bytes tokens f spelled) (other_fault bytes table f) (is_too_deep bytes 0 tokens) shallow e h

    pub read_ok : (r : Result (Formula Letter) SpecError) → IfOk r (λ g. formula_said bytes (event_names table) f ≡ Ok g) → Checks r (first_fault bytes table f) → IfOk r (IsReadFrom bytes tokens table)
    read_ok (Ok g) said h = (shallow, (f, formula_sound bytes tokens f spelled, h, said))
    read_ok (Err e) said h = tt

  -- nothing was read
  pub read_none : (e : SpecError) → FailsAt e (formula_at bytes tokens) → IsRefused bytes tokens table e
  read_none NoMemory h = tt
  read_none (Bad (Syntax line)) h = (shallow, λ f spelled. formula_none bytes tokens f h spelled)
  read_none (Bad _) h = absurd h

-- ---- one answer

module _ (bytes : List ℕ) (tokens : List Token) (table : EventDefinitions) where
  pub one_past : (f g : Formula Letter) → IsReadFrom bytes tokens table f → IsReadFrom bytes tokens table g → f ≡ g
  one_past = reading.one_within (Spells bytes tokens) (first_fault bytes table) (one_formula bytes tokens) (formula_said bytes (event_names table)) (is_too_deep bytes 0 tokens)

  pub never_both : (f : Formula Letter) (fault : SpecFault) → IsReadFrom bytes tokens table f → IsRefused bytes tokens table (Bad fault) → ⊥
  never_both = reading.never_both_within (Spells bytes tokens) (first_fault bytes table) (one_formula bytes tokens) (formula_said bytes (event_names table)) (is_too_deep bytes 0 tokens)
