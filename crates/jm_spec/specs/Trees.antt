-- The tree of a frame, and what a reader of a specification answers.
use Rattle.std.specs.Prelude.{ℕ, ◌≡◌, ◌<◌, ◌≤◌, Bool, true, false, List, [], ◌∷◌, length, map, Option, Some, None, Ok}
use Rattle.std.specs.List.{list_any}
use Rattle.jm_model.specs.Words.{Text}
use Rattle.jm_model.specs.declared.fault.SpecError.{SpecError}
use Rattle.jm_model.specs.declared.fault.SpecError.TheVariants.{Bad, NoMemory}
use Rattle.jm_model.specs.declared.fault.SpecFault.TheVariants.{Syntax}
use Rattle.jm_text.specs.declared.token.Token.{Token}
use Rattle.jm_reading.specs.Formulas.{IsRefusedBy}
use Rattle.jm_spec.specs.declared.head.Modifier.{Modifier}
use Rattle.jm_spec.specs.declared.head.Modifier.TheVariants.{FullBinding, Suffix, NoEffect, Unsupported}
use Rattle.jm_spec.specs.declared.property.Property.{Property}
use Rattle.jm_spec.specs.declared.frame.Frame.{Frame}
use Rattle.jm_spec.specs.declared.property.HandlerText.{HandlerText}
use Rattle.jm_spec.specs.declared.tree.Logic.{Logic}
use Rattle.jm_spec.specs.declared.tree.PropertyTree.{PropertyTree}
use Rattle.jm_spec.specs.declared.tree.SpecTree.{SpecTree}
use Rattle.jm_spec.specs.Spelling.{Spells}
use Rattle.jm_spec.specs.Faults.{most_properties, logic_of, table_of, frame_fault}

abbrev pub is_full_binding : Modifier → Bool
is_full_binding FullBinding = true
is_full_binding _ = false

-- the line of the first `suffix`
abbrev pub suffix_of : List Modifier → Option ℕ
suffix_of [] = None
suffix_of (Suffix line ∷ ms) = Some line
suffix_of (FullBinding ∷ ms) = suffix_of ms
suffix_of (NoEffect ∷ ms) = suffix_of ms
suffix_of (Unsupported line ∷ ms) = suffix_of ms

-- What a tree has of a property, as plain data: its logic and the line of that word, the range of its formula, and its
-- handlers.
pub record PropertyFacts : Type 0 where
  pub logic : Logic
  pub logic_line : ℕ
  pub first : ℕ
  pub last : ℕ
  pub handlers : List HandlerText

abbrev pub facts_of : PropertyTree → PropertyFacts
facts_of t = record {
  logic = t.logic;
  logic_line = t.logic_line;
  first = t.first;
  last = t.last;
  handlers = t.handlers.items;
}

abbrev pub properties_of : SpecTree → List PropertyFacts
properties_of tree = map facts_of tree.properties.items

-- there are 1 to 16 properties
abbrev pub IsFewProperties : SpecTree → Type 0
IsFewProperties tree = (0 < length tree.properties.items) × (length tree.properties.items ≤ most_properties)

-- these are the facts of the property
pub record TellsProperty (bytes : Text) (p : Property) (facts : PropertyFacts) : Type 0 where
  pub logic : logic_of bytes p.logic ≡ Some facts.logic
  pub logic_line : facts.logic_line ≡ p.logic.line
  pub first : facts.first ≡ p.first
  pub last : facts.last ≡ p.last
  pub handlers : facts.handlers ≡ p.handlers

-- these are the facts of the properties, one by one
abbrev pub TellsProperties : Text → List Property → List PropertyFacts → Type 0
TellsProperties bytes [] [] = Unit {0}
TellsProperties bytes (p ∷ ps) (facts ∷ more) = TellsProperty bytes p facts × TellsProperties bytes ps more
TellsProperties bytes _ _ = ⊥

-- the tree is that of the frame
pub record IsTreeOf (bytes : Text) (frame : Frame) (tree : SpecTree) : Type 0 where
  pub name : tree.name ≡ frame.name
  pub full_binding : tree.full_binding ≡ list_any is_full_binding frame.modifiers
  pub suffix : tree.suffix ≡ suffix_of frame.modifiers
  pub table : table_of bytes frame.params frame.events ≡ Ok tree.table
  pub properties : TellsProperties bytes frame.properties (properties_of tree)

-- the tokens spell a frame without a fault, whose tree this is
abbrev pub IsTreeOfTokens : Text → List Token → SpecTree → Type 0
IsTreeOfTokens bytes tokens tree =
    (frame : Frame) × Spells bytes tokens frame × (frame_fault bytes frame ≡ None) × IsTreeOf bytes frame tree

-- the tokens spell no frame, unless memory is short
abbrev pub IsUnspelled : Text → List Token → SpecError → Type 0
IsUnspelled bytes tokens NoMemory = Unit {0}
IsUnspelled bytes tokens (Bad (Syntax line)) = (frame : Frame) → Spells bytes tokens frame → ⊥
IsUnspelled bytes tokens (Bad _) = ⊥

-- of so many tokens, the formula's tokens are some, after at least one
abbrev pub HasRange : ℕ → Property → Type 0
HasRange n p = (0 < p.first) × (p.first ≤ p.last) × (p.last ≤ n)

-- the tokens spell no frame, or one with this first fault, unless memory is short
abbrev pub IsFaultOfTokens : Text → List Token → SpecError → Type 0
IsFaultOfTokens bytes tokens = IsRefusedBy (Spells bytes tokens) (frame_fault bytes)
