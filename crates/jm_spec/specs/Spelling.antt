-- The grammar of a frame: which tokens spell what. Each rule stands above what says it.
use Rattle.std.specs.Prelude.{ℕ, ◌+◌, ◌<◌, ◌≡◌, ◌≢◌, ◌⊎◌, true, false, List, [], ◌∷◌, ◌++◌, length, take, Option, Some, None, codes, option_and_then}
use Rattle.std.specs.List.{list_any}
use Rattle.jm_model.specs.Words.{Text}
use Rattle.jm_text.specs.declared.token.Token.{Token}
use Rattle.jm_text.specs.Texts.{is_word, is_mark, is_word_kind}
use Rattle.jm_reading.specs.Tokens.{IsName, IsWord, IsMark}
use Rattle.jm_spec.specs.declared.brackets.Bracket.{Bracket}
use Rattle.jm_spec.specs.declared.brackets.Sign.TheVariants.{Comma}
use Rattle.jm_spec.specs.declared.head.Modifier.{Modifier}
use Rattle.jm_spec.specs.declared.events.Advice.{Advice}
use Rattle.jm_spec.specs.declared.events.Advice.TheVariants.{Known, Other}
use Rattle.jm_spec.specs.declared.events.Mention.{Mention}
use Rattle.jm_spec.specs.declared.property.HandlerText.{HandlerText}
use Rattle.jm_spec.specs.declared.property.Property.{Property}
use Rattle.jm_spec.specs.declared.frame.Frame.{Frame}
use Rattle.jm_spec.specs.Brackets.{sign_of, after_sign, hold_commas}
use Rattle.jm_spec.specs.Balance.{open_after, EndsMember}
use Rattle.jm_spec.specs.Runs.{begins_property, ends_formula}
use Rattle.jm_spec.specs.Rules.{modifier_of, begins_event}

-- a token is any word
abbrev pub IsAnyWord : Token → Type 0
IsAnyWord t = is_word_kind t.kind ≡ true

-- { X }, where X spells nothing that is kept: fronts one after the other
pub data Repeats (X : List Token → Type 0) : List Token → Type 0 where
  nothing : Repeats X []
  one_more : (front behind : List Token) → X front → Repeats X behind → Repeats X (front ++ behind)

-- { X }, where X spells a list at the place where it begins, a number of tokens from the start of the file: all lists,
-- one after the other
pub data Spelled {V : Type 0} (X : ℕ → List Token → List V → Type 0) : ℕ → List Token → List V → Type 0 where
  nothing : (at : ℕ) → Spelled X at [] []
  one_more : (at : ℕ) (front behind : List Token) (xs ys : List V) → X at front xs
      → Spelled X (at + length front) behind ys → Spelled X at (front ++ behind) (xs ++ ys)

-- the same, where the place doesn't matter
abbrev pub SpelledAnywhere : {V : Type 0} → (List Token → List V → Type 0) → List Token → List V → Type 0
SpelledAnywhere X tokens xs = Spelled (λ at. X) 0 tokens xs

-- Clause = ( "package" | "import" ) Run ";", where a Run has no `;`
abbrev pub BeginsClause : Text → Token → Type 0
BeginsClause bytes t = IsWord bytes (codes "package") t ⊎ IsWord bytes (codes "import") t

pub data SpellsClause (bytes : Text) : List Token → Type 0 where
  clause : (word : Token) (run : List Token) (semicolon : Token)
      → BeginsClause bytes word
      → list_any (λ t. is_mark bytes t (codes ";")) run ≡ false
      → IsMark bytes (codes ";") semicolon
      → SpellsClause bytes (word ∷ run ++ semicolon ∷ [])

-- Modifier = Word { "-" Word }
pub data SpellsMoreWord (bytes : Text) : List Token → Type 0 where
  more_word : (dash word : Token) → IsMark bytes (codes "-") dash → IsAnyWord word
      → SpellsMoreWord bytes (dash ∷ word ∷ [])

pub data SpellsModifier (bytes : Text) : List Token → List Modifier → Type 0 where
  modifier : (word : Token) (more : List Token)
      → IsAnyWord word
      → Repeats (SpellsMoreWord bytes) more
      → SpellsModifier bytes (word ∷ more) (modifier_of bytes (word ∷ more) ∷ [])

-- the brackets that are open after a run of a list of parameters, where angle brackets are brackets too, if they match
abbrev pub open_in_list : Text → List Bracket → List Token → Option (List Bracket)
open_in_list bytes stack [] = Some stack
open_in_list bytes stack (t ∷ ts) =
    option_and_then (λ inner. open_in_list bytes inner ts) (after_sign stack (sign_of bytes t))

-- a comma may stand where these brackets are open: an angle, round or square one is among them
abbrev pub AllowsComma : Option (List Bracket) → Type 0
AllowsComma None = ⊥
AllowsComma (Some stack) = hold_commas stack ≡ true

-- a Type is a balanced run that isn't empty; its commas stand in angle, round or square brackets
pub record IsType (bytes : Text) (run : List Token) : Type 0 where
  pub filled : run ≢ []
  pub balanced : open_in_list bytes [] run ≡ Some []
  pub held : (front behind : List Token) (comma : Token) → run ≡ front ++ comma ∷ behind → sign_of bytes comma ≡ Comma
      → AllowsComma (open_in_list bytes [] front)

-- Param = Type NAME
pub data SpellsParam (bytes : Text) : List Token → List Token → Type 0 where
  param : (type : List Token) (name : Token) → IsType bytes type → IsName bytes name
      → SpellsParam bytes (type ++ name ∷ []) (name ∷ [])

-- List = "(" [ Param { "," Param } ] ")"
pub data SpellsMoreParam (bytes : Text) : List Token → List Token → Type 0 where
  more_param : (comma : Token) (run : List Token) (names : List Token)
      → IsMark bytes (codes ",") comma
      → SpellsParam bytes run names
      → SpellsMoreParam bytes (comma ∷ run) names

pub data SpellsParams (bytes : Text) : List Token → List Token → Type 0 where
  no_params : SpellsParams bytes [] []
  some_params : (first more names others : List Token)
      → SpellsParam bytes first names
      → SpelledAnywhere (SpellsMoreParam bytes) more others
      → SpellsParams bytes (first ++ more) (names ++ others)

pub data SpellsList (bytes : Text) : List Token → List Token → Type 0 where
  list : (opening : Token) (params : List Token) (closing : Token) (names : List Token)
      → IsMark bytes (codes "(") opening
      → SpellsParams bytes params names
      → IsMark bytes (codes ")") closing
      → SpellsList bytes (opening ∷ params ++ closing ∷ []) names

-- a balanced run up to and with its first `;` or its first Block outside brackets: a Declaration, and so a Pointcut
-- with its End, and an Other with its End
pub record RunsToEnd (bytes : Text) (run : List Token) : Type 0 where
  pub ends : EndsMember bytes run
  pub first : (k : ℕ) → k < length run → EndsMember bytes (take k run) → ⊥

-- [ word [ List ] ]
pub data SpellsOutcome (bytes word : Text) : List Token → List Token → Type 0 where
  missing : SpellsOutcome bytes word [] []
  alone : (t : Token) → IsWord bytes word t → SpellsOutcome bytes word (t ∷ []) []
  with_list : (t : Token) (params names : List Token) → IsWord bytes word t → SpellsList bytes params names
      → SpellsOutcome bytes word (t ∷ params) names

-- no advice that is known begins so, and it isn't empty
pub record BeginsOther (bytes : Text) (t : Token) : Type 0 where
  pub not_before : is_word bytes t (codes "before") ≡ false
  pub not_after : is_word bytes t (codes "after") ≡ false
  pub no_end : is_mark bytes t (codes ";") ≡ false
  pub no_block : is_mark bytes t (codes "{") ≡ false

-- Advice = "before" List ":" Pointcut End
--        | "after" List [ "returning" [ List ] ] [ "throwing" [ List ] ] ":" Pointcut End
--        | Other End
pub data SpellsAdvice (bytes : Text) : List Token → Advice → Type 0 where
  before : (word : Token) (params names : List Token) (colon : Token) (run : List Token)
      → IsWord bytes (codes "before") word
      → SpellsList bytes params names
      → IsMark bytes (codes ":") colon
      → RunsToEnd bytes run
      → SpellsAdvice bytes (word ∷ params ++ colon ∷ run) (Known names)
  after : (word : Token) (params names returned results thrown errors : List Token) (colon : Token) (run : List Token)
      → IsWord bytes (codes "after") word
      → SpellsList bytes params names
      → SpellsOutcome bytes (codes "returning") returned results
      → SpellsOutcome bytes (codes "throwing") thrown errors
      → IsMark bytes (codes ":") colon
      → RunsToEnd bytes run
      → SpellsAdvice bytes (word ∷ params ++ returned ++ thrown ++ colon ∷ run) (Known (names ++ results ++ errors))
  other : (first : Token) (more : List Token) → BeginsOther bytes first → RunsToEnd bytes (first ∷ more)
      → SpellsAdvice bytes (first ∷ more) (Other first.line)

-- Event = [ "creation" ] "event" NAME Advice
pub data SpellsEvent (bytes : Text) : List Token → Mention → Type 0 where
  event : (word name : Token) (said : List Token) (a : Advice)
      → IsWord bytes (codes "event") word
      → IsName bytes name
      → SpellsAdvice bytes said a
      → SpellsEvent bytes (word ∷ name ∷ said) (record { creation = false; name = name; advice = a })
  creation_event : (creates word name : Token) (said : List Token) (a : Advice)
      → IsWord bytes (codes "creation") creates
      → IsWord bytes (codes "event") word
      → IsName bytes name
      → SpellsAdvice bytes said a
      → SpellsEvent bytes (creates ∷ word ∷ name ∷ said) (record { creation = true; name = name; advice = a })

-- Declaration | Event: what begins as an event or as a property is no Declaration
pub data SpellsMember (bytes : Text) : List Token → List Mention → Type 0 where
  declaration : (run : List Token) → RunsToEnd bytes run → begins_event bytes run ≡ false
      → begins_property bytes run ≡ false → SpellsMember bytes run []
  an_event : (tokens : List Token) (e : Mention) → SpellsEvent bytes tokens e → SpellsMember bytes tokens (e ∷ [])

-- Handler = "@" NAME Block, where a Block is a balanced run in `{` and `}`. It is kept where the inside begins and
-- ends.
pub data SpellsHandler (bytes : Text) (at : ℕ) : List Token → List HandlerText → Type 0 where
  handler : (sign category opening : Token) (inside : List Token) (closing : Token)
      → IsMark bytes (codes "@") sign
      → IsName bytes category
      → IsMark bytes (codes "{") opening
      → open_after bytes [] inside ≡ Some []
      → IsMark bytes (codes "}") closing
      → SpellsHandler bytes at (sign ∷ category ∷ opening ∷ inside ++ closing ∷ [])
      (record { category = category; first = at + 3; last = at + 3 + length inside } ∷ [])

-- a Formula: nothing in it is a `@` or a `}`, or begins a property
abbrev pub IsFormula : Text → List Token → Type 0
IsFormula bytes [] = Unit {0}
IsFormula bytes (t ∷ ts) = (ends_formula bytes (t ∷ ts) ≡ false) × IsFormula bytes ts

-- Property = NAME ":" Formula, and its handlers. It is kept where the formula begins and ends.
pub data SpellsProperty (bytes : Text) (at : ℕ) : List Token → List Property → Type 0 where
  property : (logic colon : Token) (formula handling : List Token) (handlers : List HandlerText)
      → IsName bytes logic
      → IsMark bytes (codes ":") colon
      → IsFormula bytes formula
      → Spelled (SpellsHandler bytes) (at + 2 + length formula) handling handlers
      → SpellsProperty bytes at (logic ∷ colon ∷ formula ++ handling)
      (record { logic = logic; first = at + 2; last = at + 2 + length formula; handlers = handlers } ∷ [])

-- no clause begins so
abbrev pub BeginsNoClause : Text → List Token → Type 0
BeginsNoClause bytes [] = Unit {0}
BeginsNoClause bytes (t ∷ ts) = BeginsClause bytes t → ⊥

-- Head = { Modifier } NAME List, which doesn't begin as a clause does
pub data SpellsHead (bytes : Text) : List Token → List Modifier → Token → List Token → Type 0 where
  head : (modifying : List Token) (modifiers : List Modifier) (name : Token) (params names : List Token)
      → SpelledAnywhere (SpellsModifier bytes) modifying modifiers
      → IsName bytes name
      → SpellsList bytes params names
      → BeginsNoClause bytes (modifying ++ name ∷ [])
      → SpellsHead bytes (modifying ++ name ∷ params) modifiers name names

-- Body = "{" { Declaration | Event } { Property { Handler } } "}"
pub data SpellsBody (bytes : Text) (at : ℕ) : List Token → List Mention → List Property → Type 0 where
  body : (opening : Token) (members : List Token) (events : List Mention) (stating : List Token)
      (properties : List Property) (closing : Token)
      → IsMark bytes (codes "{") opening
      → SpelledAnywhere (SpellsMember bytes) members events
      → Spelled (SpellsProperty bytes) (at + 1 + length members) stating properties
      → IsMark bytes (codes "}") closing
      → SpellsBody bytes at (opening ∷ members ++ stating ++ closing ∷ []) events properties

-- File = { Clause } Head Body
pub data Spells (bytes : Text) : List Token → Frame → Type 0 where
  file : (clauses heading : List Token) (modifiers : List Modifier) (name : Token) (params : List Token)
      (within : List Token) (events : List Mention) (properties : List Property)
      → Repeats (SpellsClause bytes) clauses
      → SpellsHead bytes heading modifiers name params
      → SpellsBody bytes (length clauses + length heading) within events properties
      → Spells bytes (clauses ++ heading ++ within)
      (record { modifiers = modifiers; name = name; params = params; events = events; properties = properties })
