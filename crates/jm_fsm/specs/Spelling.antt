-- What the tokens of a formula spell, by the grammar of state machines:
--
--   Formula    = { State | Alias }, with at least one State
--   State      = NAME "[" { Transition [ "," ] } "]"
--   Transition = NAME "->" NAME | "default" NAME
--   Alias      = "alias" NAME "=" NAME { "," NAME }
use Rattle.std.specs.Prelude.{◌≡◌, ◌⊎◌, Bool, true, false, List, [], ◌∷◌, ◌++◌, codes}
use Rattle.std.specs.List.{list_any}
use Rattle.jm_model.specs.Words.{Text}
use Rattle.jm_text.specs.declared.token.Token.{Token}
use Rattle.jm_reading.specs.Tokens.{IsName, IsMark, IsWord, SpellsEach, SpellsParted}
use Rattle.jm_fsm.specs.declared.formula.TransitionText.{TransitionText}
use Rattle.jm_fsm.specs.declared.formula.TransitionText.TheVariants.{On, Fallback}
use Rattle.jm_fsm.specs.declared.formula.Part.{Part}
use Rattle.jm_fsm.specs.declared.formula.Part.TheVariants.{Declaration, Alias}

abbrev pub is_state : Part → Bool
is_state (Declaration name transitions) = true
is_state (Alias name members) = false

module _ (bytes : Text) where
  -- NAME "->" NAME | "default" NAME
  abbrev pub SpellsTransition : List Token → TransitionText → Type 0
  SpellsTransition tokens (On event destination) =
      (arrow : Token) × (tokens ≡ event ∷ arrow ∷ destination ∷ []) × IsName bytes event
      × IsMark bytes (codes "->") arrow × IsName bytes destination
  SpellsTransition tokens (Fallback word destination) =
      (tokens ≡ word ∷ destination ∷ []) × IsWord bytes (codes "default") word × IsName bytes destination

  -- [ "," ]
  abbrev pub SpellsComma : List Token → Type 0
  SpellsComma tokens = (tokens ≡ []) ⊎ ((comma : Token) × (tokens ≡ comma ∷ []) × IsMark bytes (codes ",") comma)

  -- Transition [ "," ]
  abbrev pub SpellsEntry : List Token → TransitionText → Type 0
  SpellsEntry tokens transition =
      (first : List Token) × (comma : List Token) × (tokens ≡ first ++ comma) × SpellsTransition first transition
      × SpellsComma comma

  -- NAME
  abbrev pub SpellsName : List Token → Token → Type 0
  SpellsName tokens name = (tokens ≡ name ∷ []) × IsName bytes name

  -- State | Alias
  abbrev pub SpellsPart : List Token → Part → Type 0
  SpellsPart tokens (Declaration name transitions) =
      (opening : Token) × (closing : Token) × (inner : List Token)
      × (tokens ≡ name ∷ opening ∷ (inner ++ closing ∷ []))
      × IsName bytes name × IsMark bytes (codes "[") opening × SpellsEach SpellsEntry inner transitions
      × IsMark bytes (codes "]") closing
  SpellsPart tokens (Alias name members) =
      (word : Token) × (equals : Token) × (inner : List Token) × (tokens ≡ word ∷ name ∷ equals ∷ inner)
      × IsWord bytes (codes "alias") word × IsName bytes name × IsMark bytes (codes "=") equals
      × SpellsParted bytes (codes ",") SpellsName inner members

  -- the tokens spell the formula
  unfoldable pub Spells : List Token → List Part → Type 0
  Spells tokens parts = SpellsEach SpellsPart tokens parts × (list_any is_state parts ≡ true)
