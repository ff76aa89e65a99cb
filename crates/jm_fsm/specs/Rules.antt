-- What each rule of the grammar reads at the front of a list of tokens, where the next token or two decide.
use Rattle.std.specs.Prelude.{Bool, not, ◌&&◌, List, [], Option, Some, None, codes, if◌then◌else◌}
use Rattle.std.specs.List.{list_any}
use Rattle.jm_model.specs.Words.{Text}
use Rattle.jm_text.specs.declared.token.Token.{Token}
use Rattle.jm_fsm.specs.declared.formula.TransitionText.{TransitionText}
use Rattle.jm_fsm.specs.declared.formula.TransitionText.TheVariants.{On, Fallback}
use Rattle.jm_fsm.specs.declared.formula.Part.{Part}
use Rattle.jm_fsm.specs.declared.formula.Part.TheVariants.{Declaration, Alias}
use Rattle.jm_fsm.specs.Spelling.{is_state}
use Rattle.jm_reading.specs.Reading.{◌>>=◌, is_mark_at, is_word_at, is_left, mark_at, name_at, word_at}
use Rattle.jm_reading.specs.Taking.{Rule, many_at, more_at, parted_at}

-- "default" NAME
unfoldable pub fallback_at : Rule TransitionText
fallback_at bytes tokens = do
  word ← word_at bytes (codes "default") tokens
  destination ← name_at bytes word.1
  Some (Fallback word.0 destination.0, destination.1)

-- NAME "->" NAME
unfoldable pub listed_at : Rule TransitionText
listed_at bytes tokens = do
  event ← name_at bytes tokens
  arrow ← mark_at bytes (codes "->") event.1
  destination ← name_at bytes arrow
  Some (On event.0 destination.0, destination.1)

-- `default` begins a default, if no `->` stands after it
abbrev pub begins_fallback : Text → List Token → Bool
begins_fallback bytes tokens =
    is_word_at bytes tokens 0 (codes "default") && not (is_mark_at bytes tokens 1 (codes "->"))

unfoldable pub transition_at : Rule TransitionText
transition_at bytes tokens = if begins_fallback bytes tokens then fallback_at bytes tokens else listed_at bytes tokens

-- [ "," ]
unfoldable pub comma_at : Text → List Token → Option (List Token)
comma_at bytes tokens = if is_mark_at bytes tokens 0 (codes ",") then mark_at bytes (codes ",") tokens else Some tokens

-- Transition [ "," ]
unfoldable pub entry_at : Rule TransitionText
entry_at bytes tokens = do
  transition ← transition_at bytes tokens
  rest ← comma_at bytes transition.1
  Some (transition.0, rest)

-- a `]` ends them
abbrev pub is_inside : Text → List Token → Bool
is_inside bytes tokens = not (is_mark_at bytes tokens 0 (codes "]"))

-- State = NAME "[" { Transition [ "," ] } "]"
unfoldable pub declaration_at : Rule Part
declaration_at bytes tokens = do
  name ← name_at bytes tokens
  inner ← mark_at bytes (codes "[") name.1
  entries ← many_at is_inside entry_at [] bytes inner
  rest ← mark_at bytes (codes "]") entries.1
  Some (Declaration name.0 entries.0, rest)

-- "," NAME
abbrev pub more_member_at : Rule Token
more_member_at = more_at (codes ",") name_at

abbrev pub begins_more_member : Text → List Token → Bool
begins_more_member bytes tokens = is_mark_at bytes tokens 0 (codes ",")

-- Alias = "alias" NAME "=" NAME { "," NAME }
unfoldable pub alias_at : Rule Part
alias_at bytes tokens = do
  word ← word_at bytes (codes "alias") tokens
  name ← name_at bytes word.1
  inner ← mark_at bytes (codes "=") name.1
  members ← parted_at (codes ",") name_at begins_more_member bytes inner
  Some (Alias name.0 members.0, members.1)

-- `alias` begins an alias, if no `[` stands after it
abbrev pub begins_alias : Text → List Token → Bool
begins_alias bytes tokens = is_word_at bytes tokens 0 (codes "alias") && not (is_mark_at bytes tokens 1 (codes "["))

-- State | Alias
unfoldable pub part_at : Rule Part
part_at bytes tokens = if begins_alias bytes tokens then alias_at bytes tokens else declaration_at bytes tokens

-- Formula = { State | Alias }, with at least one State
abbrev pub with_a_state : List Part → Option (List Part)
with_a_state parts = if list_any is_state parts then Some parts else None

unfoldable pub formula_at : Text → List Token → Option (List Part)
formula_at bytes tokens = do
  parts ← many_at is_left part_at [] bytes tokens
  with_a_state parts.0
