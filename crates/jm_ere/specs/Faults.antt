-- What is wrong with a formula, step by step, and what one says: the same of its nodes, operands first, each of which
-- makes an expression of the topmost ones of a stack.
use Rattle.std.specs.Prelude.{ℕ, ◌≡◌, Bool, ◌||◌, List, [], ◌∷◌, length, Option, Some, None, Result, Ok, codes, nat_lt, if◌then◌else◌}
use Rattle.std.specs.Str.{bytes_eq}
use Rattle.jm_model.specs.Words.{Text}
use Rattle.jm_model.specs.declared.fault.Counted.TheVariants.{Nodes}
use Rattle.jm_model.specs.declared.fault.SpecFault.{SpecFault}
use Rattle.jm_model.specs.declared.fault.SpecFault.TheVariants.{TooMany}
use Rattle.jm_reading.specs.Faults.{or_else, ◌>>>◌, with_each, fault_of}
use Rattle.jm_reading.specs.Events.{reserved_event_fault, letter_said}
use Rattle.jm_events.specs.Events.{EventDefinitions, event_names}
use Rattle.jm_ere.specs.declared.formula.Atom.{Atom}
use Rattle.jm_ere.specs.declared.formula.Atom.TheVariants.{Name, Epsilon, Empty}
use Rattle.jm_ere.specs.declared.formula.Unary.{Unary}
use Rattle.jm_ere.specs.declared.formula.Unary.TheVariants.{Not, Any, Many}
use Rattle.jm_ere.specs.declared.formula.Binary.{Binary}
use Rattle.jm_ere.specs.declared.formula.Binary.TheVariants.{Then, Either, Both}
use Rattle.jm_ere.specs.declared.formula.Node.{Node}
use Rattle.jm_ere.specs.declared.formula.Node.TheVariants.{Push, Wrap, Join}
use Rattle.jm_ere.specs.declared.tree.Operator.TheVariants.{Or, And}
use Rattle.jm_ere.specs.Expressions.{Expression, Symbol, EmptyWord, NoWord, Complement, Star, Plus, Product, Combination}
use Rattle.jm_ere.specs.Formulas.{Formula, Leaf, Over, Between, node_count}

-- there are at most 256 nodes
abbrev pub nodes_fault : ℕ → Option SpecFault
nodes_fault count = if nat_lt 256 count then Some (TooMany Nodes) else None

-- the words of the grammar
abbrev pub is_grammar_word : Text → Bool
is_grammar_word name = bytes_eq name (codes "epsilon") || bytes_eq name (codes "empty")

-- what an operator makes
abbrev pub over : Unary → Expression → Expression
over Not r = Complement r
over Any r = Star r
over Many r = Plus r

abbrev pub between : Binary → Expression → Expression → Expression
between Then r s = Product r s
between Either r s = Combination Or r s
between Both r s = Combination And r s

module _ (bytes : Text) (events : List Text) where
  -- the expression that a formula says among these events, or its first name that isn't there
  abbrev pub atom_said : Atom → Result Expression SpecFault
  atom_said (Name token) = letter_said bytes events token >>> λ letter. Ok (Symbol letter.0)
  atom_said Epsilon = Ok EmptyWord
  atom_said Empty = Ok NoWord

  abbrev pub expression_said : Formula → Result Expression SpecFault
  expression_said (Leaf atom) = atom_said atom
  expression_said (Over operator f) = expression_said f >>> λ r. Ok (over operator r)
  expression_said (Between operator f g) =
      expression_said f >>> λ r. expression_said g >>> λ s. Ok (between operator r s)

-- the fault of the first step that has one: too many nodes, reserved names of events, unknown names
abbrev pub first_fault : Text → EventDefinitions → Formula → Option SpecFault
first_fault bytes table f =
    or_else (nodes_fault (node_count f))
    (or_else (reserved_event_fault is_grammar_word table.events)
    (fault_of (expression_said bytes (event_names table) f)))

-- ---- by nodes

-- of the nodes of a formula none lacks its operands
abbrev pub wrapped : Unary → List Expression → List Expression
wrapped operator (r ∷ stack) = over operator r ∷ stack
wrapped operator [] = []

abbrev pub joined : Binary → List Expression → List Expression
joined operator (s ∷ r ∷ stack) = between operator r s ∷ stack
joined operator _ = []

module _ (bytes : Text) (events : List Text) where
  abbrev pub with_node : List Expression → Node → Result (List Expression) SpecFault
  with_node stack (Push atom) = atom_said bytes events atom >>> λ r. Ok (r ∷ stack)
  with_node stack (Wrap operator) = Ok (wrapped operator stack)
  with_node stack (Join operator) = Ok (joined operator stack)

  -- what the nodes leave on the stack, or their first fault
  abbrev pub stack_of : List Node → Result (List Expression) SpecFault
  stack_of nodes = with_each with_node [] nodes

  -- they leave the expression on top
  abbrev pub Leave : List Node → Expression → Type 0
  Leave nodes e = (rest : List Expression) × (stack_of nodes ≡ Ok (e ∷ rest))

-- the first fault of nodes
unfoldable pub fault_of_nodes : Text → EventDefinitions → List Node → Option SpecFault
fault_of_nodes bytes table nodes =
    or_else (nodes_fault (length nodes))
    (or_else (reserved_event_fault is_grammar_word table.events)
    (fault_of (stack_of bytes (event_names table) nodes)))
