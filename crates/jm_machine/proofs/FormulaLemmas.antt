-- What runs a formula tells its categories.
use Rattle.std.proofs.Common.{Bool, true, false, [], ◌∷◌, map, length-append, ◌≡◌, ℕ, zero, suc, ◌<◌, List, ◌++◌, length, Result, Ok, Err, refl, sym, ap, ◌∙◌, subst, arith}
use Rattle.std.specs.Prelude.{◌↔◌, All, Contains, IfOk, IfErr, codes}
use Rattle.std.proofs.lemmas.List.{length-map}
use Rattle.std.proofs.lemmas.List.Elements.{All-weaker, All-contains_itself, All-append, All-tail}
use Rattle.jm_model.specs.declared.step.Letter.{Letter as LetterType}
use Rattle.jm_model.specs.declared.fault.SpecError.{SpecError}
use Rattle.jm_model.specs.declared.fault.SpecError.TheVariants.{Bad, NoMemory}
use Rattle.jm_model.specs.declared.fault.SpecFault.{SpecFault}
use Rattle.jm_text.specs.declared.token.Token.{Token}
use Rattle.jm_events.specs.Events.{EventDefinition, EventDefinitions}
use Rattle.jm_table.specs.Tables.{Transitions, IsWord, IsInGroup, state_after_of}
use Rattle.jm_table.specs.Explorations.{IfBad}
use Rattle.jm_fsm.specs.Machines as fsm
use Rattle.jm_fsm.specs.Categories as fsm_categories
use Rattle.jm_fsm.specs.Tables as fsm_tables
use Rattle.jm_ere.specs.Expressions.{Expression}
use Rattle.jm_ere.specs.Categories.{ExpressionHolds}
use Rattle.jm_ere.specs.Groups as ere
use Rattle.jm_ere.specs.Meanings.{InLanguage}
use Rattle.jm_ere.specs.Suffixes.{EndsIn}
use Rattle.jm_ptltl.specs.Categories.{PastHolds}
use Rattle.jm_ptltl.specs.Formulas as past
use Rattle.jm_ptltl.specs.Tables as past_tables
use Rattle.jm_grammar.specs.Grammars.{GrammarDefinition}
use Rattle.jm_grammar.specs.Readings as grammar_readings
use Rattle.jm_grammar.specs.Meanings as grammar
use Rattle.jm_grammar.specs.Categories.{GrammarHolds}
use Rattle.jm_grammar.specs.declared.grammar.Production.{Production}
use Rattle.jm_grammar.specs.declared.grammar.GrammarSymbol.{GrammarSymbol}
use Rattle.jm_grammar.specs.declared.grammar.GrammarSymbol.TheVariants.{Letter, Nonterminal}
use Rattle.jm_grammar.proofs.ReadLemmas as grammar_reading
use Rattle.jm_earley.specs.Charts.{ChartsDefinition, IsBelow, AreBelow}
use Rattle.jm_spec.specs.declared.tree.Logic.{Logic}
use Rattle.jm_spec.specs.declared.tree.Logic.TheVariants.{Fsm, Ere, Cfg, Ptltl}
use Rattle.jm_machine.specs.declared.formula.Formula.{Formula}
use Rattle.jm_machine.specs.declared.formula.Formula.TheVariants.{Machine, Regular, RegularSuffix, Temporal, Grammatical, GrammaticalSuffix}
use Rattle.jm_machine.specs.declared.engine.Engine.{Engine}
use Rattle.jm_machine.specs.declared.engine.Engine.TheVariants.{States, Parses}
use Rattle.jm_machine.specs.Formulas.{category_names, is_grammar, IsReadAs, CategoryHolds, SuffixHolds}
use Rattle.jm_machine.specs.Engines.{is_parsing, HasParams, EngineHolds, HasLetters, IsCompiled, IsMinimised, IsEngineOf}

pub machine_count : (m : fsm.StateMachine) → length (fsm_categories.category_names m) ≡ fsm_categories.category_count m
machine_count m =
    let states = map (λ (s : fsm.StateDefinition). s.name) m.states in
    let aliases = map (λ (a : fsm.AliasDefinition). a.name) m.aliases in
    omega (
      arith,
      length-append states (aliases ++ codes "fail" ∷ []),
      length-append aliases (codes "fail" ∷ []),
      length-map m.states (λ (s : fsm.StateDefinition). s.name),
      length-map m.aliases (λ (a : fsm.AliasDefinition). a.name),
    )

pub machine_compiled : (m : fsm.StateMachine) (t : Transitions) → length (fsm_categories.category_names m) ≡ fsm_categories.category_count m → fsm_tables.IsCompiled m t → IsCompiled (Machine m) (States t)
machine_compiled m t count h = λ word below some category less. h word below category (subst (λ n. category < n) count less)

regular_at : (e : Expression) (t : Transitions) (word : List ℕ) (category : ℕ) → ere.IsCompiled e t → IsWord t word → category < 2 → IsInGroup t (state_after_of t word) category ↔ ExpressionHolds e t.letters category word
regular_at e t word zero h below less = h.matched word below
regular_at e t word (suc zero) h below less = h.failed word below
regular_at e t word (suc (suc category)) h below less = absurd (omega (arith, less))

pub regular_compiled : (e : Expression) (t : Transitions) → ere.IsCompiled e t → IsCompiled (Regular e) (States t)
regular_compiled e t h = λ word below some category less. regular_at e t word category h below less

suffix_at : (e d : Expression) (t : Transitions) (word : List ℕ) (category : ℕ) → ((w : List ℕ) → InLanguage d w ↔ EndsIn (InLanguage e) w) → ere.IsCompiled d t → IsWord t word → category < 2 → IsInGroup t (state_after_of t word) category ↔ SuffixHolds (InLanguage e) t.letters category word
suffix_at e d t word zero words h below less = let m = h.matched word below in (λ at. (words word).0 (m.0 at), λ ends. m.1 ((words word).1 ends))
suffix_at e d t word (suc zero) words h below less =
    let f = h.failed word below in (
      λ at more letters ends. f.0 at more letters ((words (word ++ more)).1 ends),
      λ never. f.1 (λ more letters own. never more letters ((words (word ++ more)).0 own)),
    )
suffix_at e d t word (suc (suc category)) words h below less = absurd (omega (arith, less))

-- the table of an expression of the words that end in one of the written one
pub suffix_compiled : (e d : Expression) (t : Transitions) → ((w : List ℕ) → InLanguage d w ↔ EndsIn (InLanguage e) w) → ere.IsCompiled d t → IsCompiled (RegularSuffix e) (States t)
suffix_compiled e d t words h = λ word below some category less. suffix_at e d t word category words h below less

all_extended : (P : ℕ → Type 0) (word more : List ℕ) → All P word → All P more → All P (word ++ more)
all_extended P word more h k = All-append P word more h k

all_behind : (P : ℕ → Type 0) (word more : List ℕ) → All P (word ++ more) → All P more
all_behind P [] more h = h
all_behind P (x ∷ word) more h = all_behind P word more (All-tail P x (word ++ more) h)

-- the charts have the words of the grammar
module _ (g : GrammarDefinition) (c : ChartsDefinition) (words : (word : List ℕ) → grammar.IsWord c.grammar word ↔ grammar.IsWord g word) where
  parsed : (word : List ℕ) (category : ℕ) → GrammarHolds c.grammar category word ↔ GrammarHolds g category word
  parsed word zero = words word
  parsed word (suc zero) = (
    λ hopeless more own. hopeless more ((words (word ++ more)).1 own),
    λ hopeless more own. hopeless more ((words (word ++ more)).0 own),
  )
  parsed word (suc (suc category)) = (λ never. never, λ never. never)

  pub parser_engine : (events : List EventDefinition) → c.params ≡ map (λ e. e.mask) events → IsEngineOf events (Grammatical g) (Parses c)
  parser_engine events params = record {
    letters = ap (λ l. length l) params ∙ length-map events (λ (e : EventDefinition). e.mask);
    categories = refl;
    compiled = λ word below some category less. parsed word category;
    minimal = tt;
    kind = refl;
    params = params;
  }

-- the charts have the words, over so many letters, that end in a word of the grammar
module _ (g : GrammarDefinition) (c : ChartsDefinition) where
  abbrev HasSuffixWords : ℕ → Type 0
  HasSuffixWords letters = (word : List ℕ) → grammar.IsWord c.grammar word ↔ (All (λ letter. letter < letters) word × EndsIn (grammar.IsWord g) word)

  suffix_parsed : (word : List ℕ) (category : ℕ) → HasSuffixWords (length c.params) → All (λ letter. letter < length c.params) word → category < 2
      → GrammarHolds c.grammar category word ↔ SuffixHolds (grammar.IsWord g) (length c.params) category word
  suffix_parsed word zero h below less = let w = h word in (λ own. (w.0 own).1, λ ends. w.1 (below, ends))
  suffix_parsed word (suc zero) h below less =
      let P : ℕ → Type 0 = λ letter. letter < length c.params in (
        λ hopeless more letters ends. hopeless more ((h (word ++ more)).1 (all_extended P word more below letters, ends)),
        λ never more own. let w = (h (word ++ more)).0 own in never more (all_behind P word more w.0) w.1,
      )
  suffix_parsed word (suc (suc category)) h below less = absurd (omega (arith, less))

  pub suffix_parser_engine : (events : List EventDefinition) → HasSuffixWords (length events) → c.params ≡ map (λ e. e.mask) events → IsEngineOf events (GrammaticalSuffix g) (Parses c)
  suffix_parser_engine events words params =
      let count = ap (λ l. length l) params ∙ length-map events (λ (e : EventDefinition). e.mask) in
      let own = subst (λ (n : ℕ). HasSuffixWords n) (sym count) words in
      record {
        letters = count;
        categories = refl;
        compiled = λ word below some category less. suffix_parsed word category own below less;
        minimal = tt;
        kind = refl;
        params = params;
      }

temporal_at : (f : past.Formula LetterType) (t : Transitions) (word : List ℕ) (category : ℕ) → past_tables.IsCompiled f t → IsWord t word → 0 < length word → category < 2 → IsInGroup t (state_after_of t word) category ↔ PastHolds f category word
temporal_at f t word zero h below some less = h.validation word below some
temporal_at f t word (suc zero) h below some less = h.violation word below some
temporal_at f t word (suc (suc category)) h below some less = absurd (omega (arith, less))

pub temporal_compiled : (f : past.Formula LetterType) (t : Transitions) → past_tables.IsCompiled f t → IsCompiled (Temporal f) (States t)
temporal_compiled f t h = λ word below some category less. temporal_at f t word category h below some less

-- what is compiled is so by a table with the same groups after each word
compiled_by : (formula : Formula) (t : Transitions) (e : Engine) → IsCompiled formula (States t) → IsMinimised t e → IsCompiled formula e
compiled_by formula t e compiled h = λ word below some category less.
    let w : IsWord t word = subst (λ (n : ℕ). All (λ x. x < n) word) h.letters below in
    let s = h.same word w category in
    let c = compiled word w some category less in
    subst (λ (n : ℕ). EngineHolds e category word ↔ CategoryHolds formula n category word) (sym h.letters) (λ at. c.0 (s.0 at), λ holds. s.1 (c.1 holds))

-- a table knows no parameters
table_params : (masks : List ℕ) (e : Engine) → is_parsing e ≡ false → HasParams masks e
table_params masks (States t) table = tt
table_params masks (Parses c) table = absurd cc

-- the minimal table of a formula's table runs the formula
pub table_engine : (events : List EventDefinition) (formula : Formula) (t : Transitions) (r : Result Engine SpecError) → is_grammar formula ≡ false → t.letters ≡ length events → length t.groups ≡ length (category_names formula) → IsCompiled formula (States t)
    → IfOk r (IsMinimised t) → IfOk r (IsEngineOf events formula)
table_engine events formula t (Err x) plain letters groups compiled h = tt
table_engine events formula t (Ok e) plain letters groups compiled h = record {
  letters = h.letters ∙ letters;
  categories = h.categories ∙ groups;
  compiled = compiled_by formula t e compiled h;
  minimal = h.minimal;
  kind = h.kind ∙ sym plain;
  params = table_params (map (λ x. x.mask) events) e h.kind;
}

-- what holds anyway holds of what was made, and being out of memory is no fault
pub any_ok : (X : Type 0) (r : Result Engine SpecError) → X → IfOk r (λ e. X)
any_ok X (Err e) x = tt
any_ok X (Ok e) x = x

pub never_bad : (P : SpecFault → Type 0) (r : Result Engine SpecError) → IfErr r (λ e. e ≡ NoMemory) → IfErr r (λ e. IfBad e P)
never_bad P (Ok e) h = tt
never_bad P (Err NoMemory) h = tt
never_bad P (Err (Bad fault)) h = absurd cc

-- ---- the letters of a grammar

-- what holds of each member
all_of : {X : Type 0} (P : X → Type 0) (xs : List X) → ((x : X) → Contains xs x → P x) → All P xs
all_of P xs each = All-weaker (Contains xs) P each xs (All-contains_itself xs)

module _ (bytes : List ℕ) (tokens : List Token) (table : EventDefinitions) (suffix : Bool) where
  symbol_below : (g : GrammarDefinition) → grammar_readings.IsReadFrom bytes tokens table suffix g → (p : Production) → Contains g.productions p → (s : GrammarSymbol) → Contains p.symbols s → IsBelow (length table.events) s
  symbol_below g read p has (Letter a) at = grammar_reading.letters_there bytes tokens table suffix g read p has a at
  symbol_below g read p has (Nonterminal n) at = tt

  symbols_below : (g : GrammarDefinition) → grammar_readings.IsReadFrom bytes tokens table suffix g → AreBelow g.productions (length table.events)
  symbols_below g h = all_of (λ (p : Production). All (IsBelow (length table.events)) p.symbols) g.productions (λ p has. all_of (IsBelow (length table.events)) p.symbols (symbol_below g h p has))

module _ (bytes : List ℕ) (tokens : List Token) (table : EventDefinitions) where
  -- the letters of a formula that was read are events, and the nonterminals are few where the rule may begin anywhere
  pub letters_read : (logic : Logic) (suffix : Bool) (f : Formula) → IsReadAs bytes tokens table logic suffix f → HasLetters (length table.events) f
  letters_read logic suffix (Machine m) h = tt
  letters_read logic suffix (Regular e) h = tt
  letters_read logic suffix (RegularSuffix e) h = tt
  letters_read logic suffix (Temporal f) h = tt
  letters_read Cfg false (Grammatical g) h = symbols_below bytes tokens table false g h
  letters_read Cfg true (Grammatical g) h = absurd h
  letters_read Fsm suffix (Grammatical g) h = absurd h
  letters_read Ere false (Grammatical g) h = absurd h
  letters_read Ere true (Grammatical g) h = absurd h
  letters_read Ptltl suffix (Grammatical g) h = absurd h
  letters_read Cfg true (GrammaticalSuffix g) h = (symbols_below bytes tokens table true g h, grammar_reading.nonterminals_within bytes tokens table true g h)
  letters_read Cfg false (GrammaticalSuffix g) h = absurd h
  letters_read Fsm suffix (GrammaticalSuffix g) h = absurd h
  letters_read Ere false (GrammaticalSuffix g) h = absurd h
  letters_read Ere true (GrammaticalSuffix g) h = absurd h
  letters_read Ptltl suffix (GrammaticalSuffix g) h = absurd h
