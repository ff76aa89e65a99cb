-- What each rule of the frame's grammar reads at the front of a list of tokens.
use Rattle.std.specs.Prelude.{ℕ, ◌+◌, ◌-◌, Bool, true, false, not, ◌&&◌, ◌||◌, List, [], ◌∷◌, ◌++◌, length, take, drop, Option, Some, None, codes, ◌==◌, nat_lt, slice_get, option_and_then, if◌then◌else◌}
use Rattle.jm_model.specs.Words.{Text}
use Rattle.jm_text.specs.declared.token.Token.{Token}
use Rattle.jm_text.specs.Texts.{is_mark}
use Rattle.jm_spec.specs.declared.head.Modifier.{Modifier}
use Rattle.jm_spec.specs.declared.head.Modifier.TheVariants.{FullBinding, Suffix, NoEffect, Unsupported}
use Rattle.jm_spec.specs.declared.events.Advice.{Advice}
use Rattle.jm_spec.specs.declared.events.Advice.TheVariants.{Known, Other}
use Rattle.jm_spec.specs.declared.events.Mention.{Mention}
use Rattle.jm_spec.specs.declared.property.HandlerText.{HandlerText}
use Rattle.jm_spec.specs.declared.property.Property.{Property}
use Rattle.jm_spec.specs.declared.frame.Frame.{Frame}
use Rattle.jm_spec.specs.Runs.{clause_length, member_length, parameter_length, formula_length, begins_property}
use Rattle.jm_reading.specs.Reading.{◌>>=◌, is_mark_at, is_word_at, is_name_at, line_of, mark_at, name_at}
use Rattle.jm_reading.specs.Taking.{Rule, folded_at}
use Rattle.jm_spec.specs.Reading.{place, any_word_at, passed, unkept}

-- ( "package" | "import" ) Run ";"
abbrev pub begins_clause : Text → List Token → Bool
begins_clause bytes tokens = is_word_at bytes tokens 0 (codes "package") || is_word_at bytes tokens 0 (codes "import")

unfoldable pub clause_at : Text → List Token → Option (List Token)
clause_at bytes tokens = passed tokens (clause_length bytes tokens)

abbrev pub clauses_at : Rule (Unit {0})
clauses_at = folded_at begins_clause (unkept clause_at) tt

-- Modifier = Word { "-" Word }
unfoldable pub more_word_at : Text → List Token → Option (List Token)
more_word_at bytes tokens = mark_at bytes (codes "-") tokens >>= any_word_at

abbrev pub begins_more_word : Text → List Token → Bool
begins_more_word bytes tokens = is_mark_at bytes tokens 0 (codes "-")

abbrev pub more_words_at : Rule (Unit {0})
more_words_at = folded_at begins_more_word (unkept more_word_at) tt

-- the modifier that these tokens spell
abbrev pub modifier_of : Text → List Token → Modifier
modifier_of bytes tokens =
    if (length tokens == 1) && (is_word_at bytes tokens 0 (codes "unsynchronized")
    || is_word_at bytes tokens 0 (codes "decentralized")) then NoEffect
    else if (length tokens == 3) && is_word_at bytes tokens 0 (codes "full")
    && is_word_at bytes tokens 2 (codes "binding") then FullBinding
    else if (length tokens == 1) && is_word_at bytes tokens 0 (codes "suffix") then Suffix (line_of 0 tokens)
    else Unsupported (line_of 0 tokens)

unfoldable pub modifier_at : List Modifier → Rule (List Modifier)
modifier_at modifiers bytes tokens = do
  first ← any_word_at tokens
  rest ← more_words_at bytes first
  Some (modifiers ++ modifier_of bytes (take (length tokens - length rest.1) tokens) ∷ [], rest.1)

-- { Modifier } before a name and its list
abbrev pub begins_modifier : Text → List Token → Bool
begins_modifier bytes tokens = not (is_mark_at bytes tokens 1 (codes "("))

abbrev pub modifiers_at : Rule (List Modifier)
modifiers_at = folded_at begins_modifier modifier_at []

-- Param = Type NAME, where the type isn't empty
abbrev pub named_at : List Token → Text → List Token → ℕ → Option (List Token × List Token)
named_at names bytes tokens n =
    if nat_lt n 2 || not (is_name_at bytes tokens (n - 1)) then None
    else option_and_then (λ t. Some (names ++ t ∷ [], drop n tokens)) (slice_get tokens (n - 1))

unfoldable pub param_at : List Token → Rule (List Token)
param_at names bytes tokens = parameter_length bytes tokens >>= named_at names bytes tokens

unfoldable pub more_param_at : List Token → Rule (List Token)
more_param_at names bytes tokens = mark_at bytes (codes ",") tokens >>= param_at names bytes

abbrev pub begins_more_param : Text → List Token → Bool
begins_more_param bytes tokens = is_mark_at bytes tokens 0 (codes ",")

abbrev pub more_params_at : List Token → Rule (List Token)
more_params_at = folded_at begins_more_param more_param_at

-- [ Param { "," Param } ], before a `)`
unfoldable pub params_at : List Token → Rule (List Token)
params_at names bytes tokens =
    if is_mark_at bytes tokens 0 (codes ")") then Some (names, tokens)
    else (param_at names bytes tokens >>= λ first. more_params_at first.0 bytes first.1)

-- List = "(" [ Param { "," Param } ] ")"
unfoldable pub list_at : List Token → Rule (List Token)
list_at names bytes tokens = do
  inner ← mark_at bytes (codes "(") tokens
  all ← params_at names bytes inner
  rest ← mark_at bytes (codes ")") all.1
  Some (all.0, rest)

-- the tokens up to and with the first `;` or the first block outside brackets
unfoldable pub run_at : Text → List Token → Option (List Token)
run_at bytes tokens = passed tokens (member_length bytes tokens)

-- ":" Pointcut End
unfoldable pub pointcut_at : Text → List Token → Option (List Token)
pointcut_at bytes tokens = mark_at bytes (codes ":") tokens >>= run_at bytes

-- "before" List ":" Pointcut End
unfoldable pub before_at : Rule Advice
before_at bytes tokens = do
  head ← any_word_at tokens
  names ← list_at [] bytes head
  rest ← pointcut_at bytes names.1
  Some (Known names.0, rest)

-- a list, which may be missing
unfoldable pub optional_list_at : List Token → Rule (List Token)
optional_list_at names bytes tokens =
    if is_mark_at bytes tokens 0 (codes "(") then list_at names bytes tokens else Some (names, tokens)

-- [ word [ List ] ]
unfoldable pub outcome_at : Text → List Token → Rule (List Token)
outcome_at word names bytes tokens = if is_word_at bytes tokens 0 word
    then (any_word_at tokens >>= optional_list_at names bytes) else Some (names, tokens)

-- "after" List [ "returning" [ List ] ] [ "throwing" [ List ] ] ":" Pointcut End
unfoldable pub after_at : Rule Advice
after_at bytes tokens = do
  head ← any_word_at tokens
  names ← list_at [] bytes head
  returned ← outcome_at (codes "returning") names.0 bytes names.1
  thrown ← outcome_at (codes "throwing") returned.0 bytes returned.1
  rest ← pointcut_at bytes thrown.1
  Some (Known thrown.0, rest)

-- Other End, where the advice isn't empty
unfoldable pub other_at : Rule Advice
other_at bytes [] = None
other_at bytes (t ∷ ts) =
    if is_mark bytes t (codes ";") || is_mark bytes t (codes "{") then None
    else (run_at bytes (t ∷ ts) >>= λ rest. Some (Other t.line, rest))

unfoldable pub advice_at : Rule Advice
advice_at bytes tokens =
    if is_word_at bytes tokens 0 (codes "before") then before_at bytes tokens
    else if is_word_at bytes tokens 0 (codes "after") then after_at bytes tokens
    else other_at bytes tokens

-- [ "creation" ]
unfoldable pub creation_at : Rule Bool
creation_at bytes tokens = if is_word_at bytes tokens 0 (codes "creation")
    then (any_word_at tokens >>= λ rest. Some (true, rest)) else Some (false, tokens)

-- an event begins with `event` and a name, or with `creation`, `event` and a name
abbrev pub begins_event : Text → List Token → Bool
begins_event bytes tokens =
    (is_word_at bytes tokens 0 (codes "event") && is_name_at bytes tokens 1)
    || (is_word_at bytes tokens 0 (codes "creation") && is_word_at bytes tokens 1
    (codes "event") && is_name_at bytes tokens 2)

-- Event = [ "creation" ] "event" NAME Advice
unfoldable pub event_at : List Mention → Rule (List Mention)
event_at events bytes tokens = do
  creation ← creation_at bytes tokens
  head ← any_word_at creation.1
  name ← name_at bytes head
  advice ← advice_at bytes name.1
  Some (events ++ record { creation = creation.0; name = name.0; advice = advice.0 } ∷ [], advice.1)

-- a member is an event or a declaration, of which nothing is kept
unfoldable pub member_at : List Mention → Rule (List Mention)
member_at events bytes tokens = if begins_event bytes tokens then event_at events bytes tokens
    else (run_at bytes tokens >>= λ rest. Some (events, rest))

-- members stand up to the first property or the end of the body
abbrev pub begins_member : Text → List Token → Bool
begins_member bytes tokens = not (is_mark_at bytes tokens 0 (codes "}") || begins_property bytes tokens)

abbrev pub members_at : Rule (List Mention)
members_at = folded_at begins_member member_at []

abbrev pub begins_handler : Text → List Token → Bool
begins_handler bytes tokens = is_mark_at bytes tokens 0 (codes "@")

-- properties stand up to the end of the body
abbrev pub goes_on : Text → List Token → Bool
goes_on bytes tokens = not (is_mark_at bytes tokens 0 (codes "}"))

-- in a file of so many tokens
module _ (total : ℕ) where
  -- Block: the range of the tokens inside
  unfoldable pub block_at : Rule (ℕ × ℕ)
  block_at bytes tokens =
      if is_mark_at bytes tokens 0 (codes "{")
      then (run_at bytes tokens >>= λ rest. Some ((place total tokens + 1, place total rest - 1), rest)) else None

  -- Handler = "@" NAME Block
  unfoldable pub handler_at : List HandlerText → Rule (List HandlerText)
  handler_at handlers bytes tokens = do
    head ← mark_at bytes (codes "@") tokens
    category ← name_at bytes head
    inside ← block_at bytes category.1
    Some (handlers ++ record { category = category.0; first = inside.0.0; last = inside.0.1 } ∷ [], inside.1)

  abbrev pub handlers_at : Rule (List HandlerText)
  handlers_at = folded_at begins_handler handler_at []

  -- Property = NAME ":" Formula, and its handlers
  unfoldable pub property_at : List Property → Rule (List Property)
  property_at properties bytes tokens = do
    logic ← name_at bytes tokens
    formula ← mark_at bytes (codes ":") logic.1
    behind ← passed formula (formula_length bytes formula)
    handlers ← handlers_at bytes behind
    Some (
      properties ++ record {
        logic = logic.0;
        first = place total formula;
        last = place total behind;
        handlers = handlers.0;
      } ∷ [],
      handlers.1,
    )

  abbrev pub properties_at : Rule (List Property)
  properties_at = folded_at goes_on property_at []

-- nothing stands after
abbrev pub at_end : {X : Type 0} → X → List Token → Option X
at_end x [] = Some x
at_end x (t ∷ ts) = None

-- File = { ( "package" | "import" ) Run ";" } { Modifier } NAME List "{" { Declaration | Event } { Property { Handler }
-- } "}", in a file of so many tokens
unfoldable pub frame_at : ℕ → Text → List Token → Option Frame
frame_at total bytes tokens = do
  head ← clauses_at bytes tokens
  modifiers ← modifiers_at bytes head.1
  name ← name_at bytes modifiers.1
  params ← list_at [] bytes name.1
  body ← mark_at bytes (codes "{") params.1
  events ← members_at bytes body
  properties ← properties_at total bytes events.1
  behind ← mark_at bytes (codes "}") properties.1
  at_end (record {
    modifiers = modifiers.0;
    name = name.0;
    params = params.0;
    events = events.0;
    properties = properties.0;
  }) behind

-- what the tokens of a whole file say
abbrev pub frame_of : Text → List Token → Option Frame
frame_of bytes tokens = frame_at (length tokens) bytes tokens
