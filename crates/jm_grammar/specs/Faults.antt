-- What is wrong with a formula, step by step, and the grammar that it says.
use Rattle.std.specs.Prelude.{ℕ, Bool, not, List, [], ◌∷◌, ◌++◌, Option, Some, None, Result, Ok, codes, length, nat_lt, count_by, sum_by, fold, if◌then◌else◌}
use Rattle.std.specs.List.{list_any}
use Rattle.std.specs.Str.{bytes_eq}
use Rattle.std.specs.Option.{ok_or}
use Rattle.jm_model.specs.Words.{Text}
use Rattle.jm_model.specs.declared.fault.Counted.TheVariants.{Nonterminals, Productions, Symbols}
use Rattle.jm_model.specs.declared.fault.SpecFault.{SpecFault}
use Rattle.jm_model.specs.declared.fault.SpecFault.TheVariants.{TooMany, ReservedName, NameClash, UnknownName}
use Rattle.jm_text.specs.declared.token.Token.{Token}
use Rattle.jm_reading.specs.Names.{is_among}
use Rattle.jm_reading.specs.Tokens.{name_of}
use Rattle.jm_reading.specs.Faults.{or_else, ◌>>>◌, with_each, fault_of}
use Rattle.jm_reading.specs.Events.{reserved_event_fault}
use Rattle.jm_events.specs.Names.{number_of, with_name}
use Rattle.jm_events.specs.Events.{EventDefinitions, event_names}
use Rattle.jm_grammar.specs.declared.formula.Part.{Part}
use Rattle.jm_grammar.specs.declared.grammar.GrammarSymbol.{GrammarSymbol}
use Rattle.jm_grammar.specs.declared.grammar.GrammarSymbol.TheVariants.{Letter, Nonterminal}
use Rattle.jm_grammar.specs.declared.grammar.Production.{Production}
use Rattle.jm_grammar.specs.Grammars.{GrammarDefinition}

-- there are at most 256 productions, which are the alternatives
abbrev pub production_count : List Part → ℕ
production_count parts = sum_by (λ part. length part.alternatives) parts

abbrev pub productions_fault : List Part → Option SpecFault
productions_fault parts = if nat_lt 256 (production_count parts) then Some (TooMany Productions) else None

-- how many nonterminals there may be: 31 where the rule may begin anywhere, since its grammar has two for each and one
-- more, and 64 elsewhere
abbrev pub most_nonterminals : Bool → ℕ
most_nonterminals suffix = if suffix then 31 else 64

-- the name is the word that spells nothing
abbrev pub is_epsilon : Text → Bool
is_epsilon name = bytes_eq name (codes "epsilon")

module _ (bytes : Text) where
  -- the nonterminals: the names of the left sides, in order of first mention; the number of one is its place
  abbrev pub nonterminals : List Part → List Text
  nonterminals parts = fold (λ names part. with_name names (name_of bytes part.left)) [] parts

  -- there are no more than may be
  abbrev pub nonterminals_fault : Bool → List Part → Option SpecFault
  nonterminals_fault suffix parts =
      if nat_lt (most_nonterminals suffix) (length (nonterminals parts)) then Some (TooMany Nonterminals) else None

  -- an alternative has at most 32 symbols other than `epsilon`
  abbrev pub symbol_count : List Token → ℕ
  symbol_count symbols = count_by (λ symbol. not (is_epsilon (name_of bytes symbol))) symbols

  abbrev pub is_long : List Token → Bool
  is_long symbols = nat_lt 32 (symbol_count symbols)

  abbrev pub has_long : Part → Bool
  has_long part = list_any is_long part.alternatives

  abbrev pub symbols_fault : List Part → Option SpecFault
  symbols_fault parts = if list_any has_long parts then Some (TooMany Symbols) else None

  -- no nonterminal is named `epsilon`
  abbrev pub left_name_fault : List Part → Option SpecFault
  left_name_fault [] = None
  left_name_fault (p ∷ ps) =
      if is_epsilon (name_of bytes p.left) then Some (ReservedName p.left.line) else left_name_fault ps

  -- no nonterminal has the name of an event
  abbrev pub clash_fault : List Text → List Part → Option SpecFault
  clash_fault events [] = None
  clash_fault events (p ∷ ps) =
      if is_among events (name_of bytes p.left) then Some (NameClash p.left.line) else clash_fault events ps

  -- the number of a nonterminal; the left side of a production is always there
  abbrev pub nonterminal_said : List Text → Token → Result ℕ SpecFault
  nonterminal_said known token = ok_or (number_of known (name_of bytes token)) (UnknownName token.line)

abbrev pub letter_or : Option ℕ → Result ℕ SpecFault → Result GrammarSymbol SpecFault
letter_or (Some letter) nonterminal = Ok (Letter (record { 0 = letter }))
letter_or None nonterminal = nonterminal >>> λ n. Ok (Nonterminal n)

-- among these events and nonterminals
module _ (bytes : Text) (events known : List Text) where
  -- the symbol of a name: an event's letter, or a nonterminal
  abbrev pub symbol_said : Token → Result GrammarSymbol SpecFault
  symbol_said token = letter_or (number_of events (name_of bytes token)) (nonterminal_said bytes known token)

  -- The productions that a formula says are added one after the other, without `epsilon`, and the first name that isn't
  -- there is the fault.
  abbrev pub with_symbol : List GrammarSymbol → Token → Result (List GrammarSymbol) SpecFault
  with_symbol symbols token =
      if is_epsilon (name_of bytes token) then Ok symbols
      else (symbol_said token >>> λ symbol. Ok (symbols ++ symbol ∷ []))

  abbrev pub with_alternative : ℕ → List Production → List Token → Result (List Production) SpecFault
  with_alternative left productions alternative =
      with_each with_symbol [] alternative
      >>> λ symbols. Ok (productions ++ record { left = left; symbols = symbols } ∷ [])

  abbrev pub with_part : List Production → Part → Result (List Production) SpecFault
  with_part productions part =
      nonterminal_said bytes known part.left
      >>> λ left. with_each (with_alternative left) productions part.alternatives

module _ (bytes : Text) (table : EventDefinitions) (parts : List Part) where
  -- the grammar that a formula says; its start is the first left side
  unfoldable pub grammar_of : Result GrammarDefinition SpecFault
  grammar_of =
      with_each (with_part bytes (event_names table) (nonterminals bytes parts)) [] parts
      >>> λ productions. Ok (record { productions = productions; start = 0 })

-- where the rule may begin anywhere, or may not
module _ (bytes : Text) (table : EventDefinitions) (suffix : Bool) (parts : List Part) where
  -- the fault of the first step that has one: too many nonterminals, productions, symbols, reserved names of events and
  -- then of nonterminals, nonterminals named as events, unknown names
  unfoldable pub first_fault : Option SpecFault
  first_fault =
      or_else (nonterminals_fault bytes suffix parts)
      (or_else (productions_fault parts)
      (or_else (symbols_fault bytes parts)
      (or_else (reserved_event_fault is_epsilon table.events)
      (or_else (left_name_fault bytes parts)
      (or_else (clash_fault bytes (event_names table) parts)
      (fault_of (grammar_of bytes table parts)))))))
