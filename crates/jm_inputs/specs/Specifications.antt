-- What a file says that is a specification, and what is wrong with one that isn't.
use Rattle.std.specs.Prelude.{ℕ, Bool, ◌≡◌, ◌<◌, ◌≤◌, List, [], ◌∷◌, length, map, Option, Some, None, is_some, slice_range}
use Rattle.std.specs.List.{flat_map}
use Rattle.jm_model.specs.Words.{Text}
use Rattle.jm_model.specs.Meanings.{Meaning}
use Rattle.jm_model.specs.declared.fault.SpecFault.{SpecFault}
use Rattle.jm_model.specs.declared.fault.SpecFault.TheVariants.{TooLong}
use Rattle.jm_model.specs.declared.fault.SpecError.TheVariants.{Bad}
use Rattle.jm_text.specs.declared.token.Token.{Token}
use Rattle.jm_text.specs.Tokens.{AreTokensOf, IsFaultOf}
use Rattle.jm_events.specs.Events.{EventDefinitions}
use Rattle.jm_reading.specs.Tokens.{name_of}
use Rattle.jm_handler.specs.declared.term.Term.{Term}
use Rattle.jm_handler.specs.Blocks.{Says}
use Rattle.jm_spec.specs.declared.property.HandlerText.{HandlerText}
use Rattle.jm_spec.specs.declared.tree.Logic.{Logic}
use Rattle.jm_spec.specs.declared.tree.Logic.TheVariants.{Cfg}
use Rattle.jm_spec.specs.declared.tree.SpecTree.{SpecTree}
use Rattle.jm_spec.specs.Trees.{PropertyFacts, properties_of, IsTreeOfTokens, IsFaultOfTokens}
use Rattle.jm_machine.specs.Meanings.{RuleDefinition, rules_meaning}
use Rattle.jm_machine.specs.Compiling.{IsCompiledFrom, IsFaultyTree}

-- a specification: its name, its parameters and events, the logics of its properties and the line of the first word
-- that names a grammar, whether it is for full bindings alone, whether `suffix` stands, its rules, and what each of its
-- handlers prints: a list of terms for each statement
pub record Specification : Type 0 where
  pub name : Text
  pub table : EventDefinitions
  pub logics : List Logic
  pub grammar_line : Option ℕ
  pub full_binding : Bool
  pub suffix : Bool
  pub rules : RuleDefinition
  pub texts : List (List (List Term))

-- what it means is what its rules mean
abbrev pub meaning_of : Specification → Meaning
meaning_of s = rules_meaning s.rules

-- ---- the steps of reading

-- the most bytes that a file may have
abbrev pub most_bytes : ℕ
most_bytes = 4194304

-- ---- what a file says

-- the bytes have tokens, which spell a frame without a fault, and this is its tree
pub record IsTreeOfBytes (bytes : Text) (tokens : List Token) (tree : SpecTree) : Type 0 where
  pub small : length bytes ≤ most_bytes
  pub cut : AreTokensOf bytes tokens
  pub told : IsTreeOfTokens bytes tokens tree

-- the logics of properties
abbrev pub logics_of : List PropertyFacts → List Logic
logics_of properties = map (λ p. p.logic) properties

-- the line of the first of their words that names a grammar
abbrev pub line_or : Logic → ℕ → Option ℕ → Option ℕ
line_or Cfg line later = Some line
line_or _ line later = later

abbrev pub grammar_line_of : List PropertyFacts → Option ℕ
grammar_line_of [] = None
grammar_line_of (p ∷ properties) = line_or p.logic p.logic_line (grammar_line_of properties)

-- their handlers, in the order of the file
abbrev pub all_handlers : List PropertyFacts → List HandlerText
all_handlers properties = flat_map (λ p. p.handlers) properties

-- what the blocks of handlers say, one by one
abbrev pub BlocksSay : Text → List Token → List Text → List HandlerText → List (List (List Term)) → Type 0
BlocksSay bytes tokens parameters [] texts = texts ≡ []
BlocksSay bytes tokens parameters (h ∷ hs) texts =
    (text : List (List Term)) × (more : List (List (List Term))) × (texts ≡ text ∷ more)
    × Says bytes parameters (slice_range tokens h.first h.last) text × BlocksSay bytes tokens parameters hs more

-- the bytes say this specification: no step has a fault
pub record IsSpecification (bytes : Text) (s : Specification) : Type 0 where
  pub tokens : List Token
  pub tree : SpecTree
  pub told : IsTreeOfBytes bytes tokens tree
  pub rules : IsCompiledFrom bytes tokens tree s.rules
  pub name : s.name ≡ name_of bytes tree.name
  pub table : s.table ≡ tree.table
  pub logics : s.logics ≡ logics_of (properties_of tree)
  pub grammar_line : s.grammar_line ≡ grammar_line_of (properties_of tree)
  pub full_binding : s.full_binding ≡ tree.full_binding
  pub suffix : s.suffix ≡ is_some tree.suffix
  pub texts : BlocksSay bytes tokens tree.table.parameters (all_handlers (properties_of tree)) s.texts

-- The first fault of the bytes, step by step: they are too many; they have no tokens; these spell no frame, or one with
-- a fault; its formulas, its handlers or the tables of its formulas have one. The line of `Syntax` is left open.
pub data IsSpecFault (bytes : Text) : SpecFault → Type 0 where
  too_long : most_bytes < length bytes → IsSpecFault bytes TooLong
  no_tokens : (fault : SpecFault) → length bytes ≤ most_bytes → IsFaultOf bytes (Bad fault) → IsSpecFault bytes fault
  in_frame : (tokens : List Token) (fault : SpecFault)
      → length bytes ≤ most_bytes
      → AreTokensOf bytes tokens
      → IsFaultOfTokens bytes tokens (Bad fault)
      → IsSpecFault bytes fault
  in_tree : (tokens : List Token) (tree : SpecTree) (fault : SpecFault)
      → IsTreeOfBytes bytes tokens tree
      → IsFaultyTree bytes tokens tree fault
      → IsSpecFault bytes fault
