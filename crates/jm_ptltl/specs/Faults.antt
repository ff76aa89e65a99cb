-- What is wrong with a formula, step by step, and the formula over letters that it says.
use Rattle.std.specs.Prelude.{List, [], ◌∷◌, ◌++◌, length, Option, Some, None, Result, Ok, nat_lt, if◌then◌else◌}
use Rattle.jm_model.specs.Words.{Text}
use Rattle.jm_model.specs.declared.step.Letter.{Letter}
use Rattle.jm_model.specs.declared.fault.Counted.TheVariants.{Subformulas}
use Rattle.jm_model.specs.declared.fault.SpecFault.{SpecFault}
use Rattle.jm_model.specs.declared.fault.SpecFault.TheVariants.{TooMany}
use Rattle.jm_text.specs.declared.token.Token.{Token}
use Rattle.jm_reading.specs.Faults.{or_else, ◌>>>◌, fault_of}
use Rattle.jm_reading.specs.Events.{reserved_event_fault, letter_said}
use Rattle.jm_events.specs.Events.{EventDefinitions, event_names}
use Rattle.jm_ptltl.specs.declared.formula.Node.{Node}
use Rattle.jm_ptltl.specs.declared.formula.Node.TheVariants.{Event, Constant, Prefix, Infix}
use Rattle.jm_ptltl.specs.Formulas.{Formula, event, constant, unary, binary, subformulas}
use Rattle.jm_ptltl.specs.Lexicon.{is_grammar_word}

-- there are at most 64 subformulas, each occurrence counted
abbrev pub subformulas_fault : Formula Token → Option SpecFault
subformulas_fault f = if nat_lt 64 (length (subformulas f)) then Some (TooMany Subformulas) else None

module _ (bytes : Text) (events : List Text) where
  -- the formula over letters that a formula says, or its first name that is no event's
  abbrev pub formula_said : Formula Token → Result (Formula Letter) SpecFault
  formula_said (event t) = letter_said bytes events t >>> λ letter. Ok (event letter)
  formula_said (constant b) = Ok (constant b)
  formula_said (unary op f) = formula_said f >>> λ part. Ok (unary op part)
  formula_said (binary op f g) =
      formula_said f >>> λ left. formula_said g >>> λ right. Ok (binary op left right)

  -- the same over a list of nodes, which are added one after the other
  abbrev pub node_said : Node Token → Result (Node Letter) SpecFault
  node_said (Event t) = letter_said bytes events t >>> λ letter. Ok (Event letter)
  node_said (Constant b) = Ok (Constant b)
  node_said (Prefix op) = Ok (Prefix op)
  node_said (Infix op right) = Ok (Infix op right)

  abbrev pub with_node : List (Node Letter) → Node Token → Result (List (Node Letter)) SpecFault
  with_node nodes n = node_said n >>> λ node. Ok (nodes ++ node ∷ [])

-- the fault of the first step that has one: too many subformulas, reserved names of events, unknown names
unfoldable pub first_fault : Text → EventDefinitions → Formula Token → Option SpecFault
first_fault bytes table f =
    or_else (subformulas_fault f) (or_else (reserved_event_fault is_grammar_word table.events)
    (fault_of (formula_said bytes (event_names table) f)))
