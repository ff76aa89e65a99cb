-- What a reader of a formula answers.
use Rattle.std.proofs.Common.{ℕ, ◌≡◌, Bool, true, false, cond, List, [], ◌∷◌, Option, Some, None, Result, Ok, Err, IfOk, IfErr, Contains, length, ◌<◌, refl, arith, ap, ◌∙◌, sym, ◌≤◌}
use Rattle.std.specs.Prelude.{nat_lt}
use Rattle.std.specs.List.{list_any}
use Rattle.jm_model.specs.declared.fault.SpecError.{SpecError}
use Rattle.jm_model.specs.declared.fault.SpecError.TheVariants.{Bad, NoMemory}
use Rattle.jm_model.specs.declared.fault.SpecFault.{SpecFault}
use Rattle.jm_model.specs.declared.fault.SpecFault.TheVariants.{Syntax, TooMany}
use Rattle.jm_model.specs.declared.fault.Counted.TheVariants.{Nonterminals, Productions, Symbols}
use Rattle.std.proofs.lemmas.List.{length-map}
use Rattle.std.proofs.lemmas.List.Elements.{All-weaker}
use Rattle.jm_model.specs.declared.step.Letter.{Letter as LetterType}
use Rattle.jm_grammar.specs.declared.grammar.GrammarSymbol.TheVariants.{Letter, Nonterminal}
use Rattle.jm_text.specs.declared.token.Token.{Token}
use Rattle.jm_events.specs.Names.{number_of}
use Rattle.jm_events.specs.Events.{EventDefinitions, EventDefinition, event_names}
use Rattle.jm_reading.specs.Tokens.{name_of}
use Rattle.jm_reading.specs.Answers.{FailsAt}
use Rattle.jm_reading.specs.Faults.{or_else, Checks, with_each}
use Rattle.jm_reading.specs.Events.{reserved_event_fault}
use Rattle.jm_reading.proofs.ReadLemmas.{then_ok, IsOther, FailsOther, other_or, other_if, other_event, other_then, other_name, other_of, other_each}
use Rattle.jm_reading.proofs.FormulaLemmas as reading
use Rattle.jm_grammar.specs.declared.formula.Part.{Part}
use Rattle.jm_grammar.specs.declared.grammar.GrammarSymbol.{GrammarSymbol}
use Rattle.jm_grammar.specs.declared.grammar.Production.{Production}
use Rattle.jm_grammar.specs.Grammars.{GrammarDefinition, IsSymbolWithin, IsProductionWithin, IsWithin}
use Rattle.jm_grammar.specs.Spelling.{Spells}
use Rattle.jm_grammar.specs.Rules.{formula_at}
use Rattle.jm_grammar.specs.Faults.{nonterminals, most_nonterminals, nonterminals_fault, production_count, productions_fault, has_long, symbols_fault, is_epsilon, left_name_fault, clash_fault, nonterminal_said, letter_or, symbol_said, with_symbol, with_alternative, with_part, grammar_of, first_fault}
use Rattle.jm_grammar.specs.Readings.{IsReadFrom, IsRefused}
use Rattle.jm_grammar.proofs.GrammarLemmas.{formula_sound, formula_none, one_formula}
use Rattle.jm_grammar.proofs.MadeLemmas.{IsMade, IsThere, made_is, letter_there, few_nonterminals}

other_left : (bytes : List ℕ) (ps : List Part) → IsOther (left_name_fault bytes ps)
other_left bytes [] = tt
other_left bytes (p ∷ ps) = other_if _ _ _ tt (other_left bytes ps)

other_clash : (bytes : List ℕ) (events : List (List ℕ)) (ps : List Part) → IsOther (clash_fault bytes events ps)
other_clash bytes events [] = tt
other_clash bytes events (p ∷ ps) = other_if _ _ _ tt (other_clash bytes events ps)

other_choice : {X : Type 0} (b : Bool) (r s : Result X SpecFault) → FailsOther r → FailsOther s → FailsOther (cond b r s)
other_choice true r s h k = h
other_choice false r s h k = k

module _ (bytes : List ℕ) (events known : List (List ℕ)) where
  other_letter : (o : Option ℕ) (t : Token) → FailsOther (letter_or o (nonterminal_said bytes known t))
  other_letter (Some k) t = tt
  other_letter None t = other_then (nonterminal_said bytes known t) _ (other_name (number_of known (name_of bytes t)) t.line) (λ n. tt)

  other_symbol : (symbols : List GrammarSymbol) (t : Token) → FailsOther (with_symbol bytes events known symbols t)
  other_symbol symbols t = other_choice (is_epsilon (name_of bytes t)) _ _ tt (other_then (symbol_said bytes events known t) _ (other_letter (number_of events (name_of bytes t)) t) (λ s. tt))

  other_alternative : (left : ℕ) (productions : List Production) (y : List Token) → FailsOther (with_alternative bytes events known left productions y)
  other_alternative left productions y = other_then (with_each (with_symbol bytes events known) [] y) _ (other_each (with_symbol bytes events known) other_symbol [] y) (λ symbols. tt)

  other_part : (productions : List Production) (p : Part) → FailsOther (with_part bytes events known productions p)
  other_part productions p =
      other_then (nonterminal_said bytes known p.left) _ (other_name (number_of known (name_of bytes p.left)) p.left.line)
      (λ left. other_each (with_alternative bytes events known left) (other_alternative left) productions p.alternatives)

other_made : (bytes : List ℕ) (table : EventDefinitions) (parts : List Part) → FailsOther (grammar_of bytes table parts)
unfolding grammar_of
other_made bytes table parts =
    let known = nonterminals bytes parts in
    other_then {B = GrammarDefinition} (with_each (with_part bytes (event_names table) known) [] parts) (λ productions. Ok (record { productions = productions; start = 0 })) (other_each (with_part bytes (event_names table) known) (other_part bytes (event_names table) known) [] parts) (λ productions. tt)

other_fault : (bytes : List ℕ) (table : EventDefinitions) (suffix : Bool) (parts : List Part) → IsOther (first_fault bytes table suffix parts)
unfolding first_fault
other_fault bytes table suffix parts =
    let last = other_of (grammar_of bytes table parts) (other_made bytes table parts) in
    let clash = other_or (clash_fault bytes (event_names table) parts) _ (other_clash bytes (event_names table) parts) last in
    let left = other_or (left_name_fault bytes parts) _ (other_left bytes parts) clash in
    let event = other_or (reserved_event_fault is_epsilon table.events) _ (other_event is_epsilon table.events) left in
    let long = other_or (symbols_fault bytes parts) _ (other_if (list_any (has_long bytes) parts) (TooMany Symbols) None tt tt) event in
    let many = other_or (productions_fault parts) _ (other_if (nat_lt 256 (production_count parts)) (TooMany Productions) None tt tt) long in
    other_or (nonterminals_fault bytes suffix parts) _ (other_if (nat_lt (most_nonterminals suffix) (length (nonterminals bytes parts))) (TooMany Nonterminals) None tt tt) many

module _ (bytes : List ℕ) (tokens behind : List Token) (table : EventDefinitions) (suffix : Bool) (parts : List Part) (spelled : formula_at bytes tokens ≡ Some (parts, behind)) where
  pub read_err : (r : Result GrammarDefinition SpecError) → Checks r (first_fault bytes table suffix parts) → IfErr r (IsRefused bytes tokens table suffix)
  read_err (Ok g) h = tt
  read_err (Err e) h = reading.refused_by (Spells bytes tokens) (first_fault bytes table suffix) parts (formula_sound bytes tokens behind parts spelled) (other_fault bytes table suffix parts) e h

  pub read_ok : (r : Result GrammarDefinition SpecError) → IfOk r (λ g. grammar_of bytes table parts ≡ Ok g) → Checks r (first_fault bytes table suffix parts) → IfOk r (IsReadFrom bytes tokens table suffix)
  read_ok (Ok g) made h = (parts, formula_sound bytes tokens behind parts spelled, h, made)
  read_ok (Err e) made h = tt

-- nothing was read
pub read_none : (bytes : List ℕ) (tokens : List Token) (table : EventDefinitions) (suffix : Bool) (e : SpecError) → FailsAt e (formula_at bytes tokens) → IsRefused bytes tokens table suffix e
read_none bytes tokens table suffix NoMemory h = tt
read_none bytes tokens table suffix (Bad (Syntax line)) h = λ parts spelled. formula_none bytes tokens parts h spelled
read_none bytes tokens table suffix (Bad _) h = absurd h

-- ---- one answer

module _ (bytes : List ℕ) (tokens : List Token) (table : EventDefinitions) (suffix : Bool) where
  pub one_grammar : (g h : GrammarDefinition) → IsReadFrom bytes tokens table suffix g → IsReadFrom bytes tokens table suffix h → g ≡ h
  one_grammar = reading.one_read (Spells bytes tokens) (first_fault bytes table suffix) (one_formula bytes tokens) (grammar_of bytes table)

  pub never_both : (g : GrammarDefinition) (fault : SpecFault) → IsReadFrom bytes tokens table suffix g → IsRefused bytes tokens table suffix (Bad fault) → ⊥
  never_both = reading.never_both (Spells bytes tokens) (first_fault bytes table suffix) (one_formula bytes tokens) (grammar_of bytes table)

-- ---- the letters of a grammar

none_of_both : (a b : Option SpecFault) → or_else a b ≡ None → (a ≡ None) × (b ≡ None)
none_of_both None b h = (refl, h)
none_of_both (Some fault) b h = absurd (cc)

-- no alternative of a formula without a fault is long
all_short : (bytes : List ℕ) (table : EventDefinitions) (suffix : Bool) (parts : List Part) → first_fault bytes table suffix parts ≡ None → symbols_fault bytes parts ≡ None
unfolding first_fault
all_short bytes table suffix parts h = (none_of_both (symbols_fault bytes parts) _ (none_of_both (productions_fault parts) _ (none_of_both (nonterminals_fault bytes suffix parts) _ h).1).1).0

made_of : (bytes : List ℕ) (table : EventDefinitions) (parts : List Part) (g : GrammarDefinition) → grammar_of bytes table parts ≡ Ok g → with_each (with_part bytes (event_names table) (nonterminals bytes parts)) [] parts ≡ Ok g.productions
unfolding grammar_of
made_of bytes table parts g h =
    let a = then_ok (with_each (with_part bytes (event_names table) (nonterminals bytes parts)) [] parts) _ g h in
    let e : ◌≡◌ {A = GrammarDefinition} (record { productions = a.0; start = 0 }) g = cc (a.2) in
    a.1 ∙ ap (λ (x : GrammarDefinition). Ok x.productions) e

-- each letter of a grammar that was read is that of an event
pub letters_there : (bytes : List ℕ) (tokens : List Token) (table : EventDefinitions) (suffix : Bool) (g : GrammarDefinition) → IsReadFrom bytes tokens table suffix g → (p : Production) → Contains g.productions p → (letter : LetterType) → Contains p.symbols (Letter letter) → letter.0 < length table.events
letters_there bytes tokens table suffix g read p has letter at =
    let names = event_names table in
    let known = nonterminals bytes read.0 in
    let made = made_is bytes names known read.0 g.productions (all_short bytes table suffix read.0 read.2) (made_of bytes table read.0 g read.3) in
    let below : letter.0 < length names = letter_there bytes names known g.productions p letter made.0 has at in
    omega (arith, below, length-map table.events (λ (e : EventDefinition). e.name))

-- ---- its nonterminals

-- there are no more nonterminals than may be
all_few : (bytes : List ℕ) (table : EventDefinitions) (suffix : Bool) (parts : List Part) → first_fault bytes table suffix parts ≡ None → nonterminals_fault bytes suffix parts ≡ None
unfolding first_fault
all_few bytes table suffix parts h = (none_of_both (nonterminals_fault bytes suffix parts) _ h).0

started : (bytes : List ℕ) (table : EventDefinitions) (parts : List Part) (g : GrammarDefinition) → grammar_of bytes table parts ≡ Ok g → g.start ≡ 0
unfolding grammar_of
started bytes table parts g h =
    let a = then_ok (with_each (with_part bytes (event_names table) (nonterminals bytes parts)) [] parts) _ g h in
    let e : ◌≡◌ {A = GrammarDefinition} (record { productions = a.0; start = 0 }) g = cc (a.2) in
    sym (ap (λ (x : GrammarDefinition). x.start) e)

some_within : (suffix : Bool) → 0 < most_nonterminals suffix
some_within true = omega arith
some_within false = omega arith

module _ (bytes : List ℕ) (events known : List (List ℕ)) (count : ℕ) (few : length known ≤ count) where
  symbol_within : (s : GrammarSymbol) → IsThere bytes events known s → IsSymbolWithin count s
  symbol_within (Letter letter) h = tt
  symbol_within (Nonterminal n) h = omega (arith, h)

  production_within : (p : Production) → IsMade bytes events known p → IsProductionWithin count p
  production_within p is = record { left = omega (arith, is.left); symbols = All-weaker (IsThere bytes events known) (IsSymbolWithin count) symbol_within p.symbols is.symbols }

-- the nonterminals of a grammar that was read are below the limit
pub nonterminals_within : (bytes : List ℕ) (tokens : List Token) (table : EventDefinitions) (suffix : Bool) (g : GrammarDefinition) → IsReadFrom bytes tokens table suffix g → IsWithin (most_nonterminals suffix) g
nonterminals_within bytes tokens table suffix g read =
    let names = event_names table in
    let known = nonterminals bytes read.0 in
    let made = made_is bytes names known read.0 g.productions (all_short bytes table suffix read.0 read.2) (made_of bytes table read.0 g read.3) in
    let few = few_nonterminals bytes suffix read.0 known refl (all_few bytes table suffix read.0 read.2) in
    record {
      start = rw (started bytes table read.0 g read.3) (some_within suffix);
      productions = All-weaker (IsMade bytes names known) (IsProductionWithin (most_nonterminals suffix)) (production_within bytes names known (most_nonterminals suffix) few) g.productions made.0;
    }
