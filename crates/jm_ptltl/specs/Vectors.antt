-- The truth of all subformulas at the last position, as bits of a number, and how a letter changes it.
use Rattle.std.specs.Prelude.{ℕ, ◌≡◌, ◌↔◌, ◌++◌, Contains, IsSomeAnd, slice_get, ◌==◌, ◌+◌, ◌-◌, ◌*◌, ◌/◌, ◌%◌, ◌^◌, Bool, true, false, not, ◌&&◌, ◌||◌, List, [], ◌∷◌, Option, Some, None, Ok, bit_or, if◌then◌else◌}
use Rattle.std.specs.Int.{bit_at}
use Rattle.jm_model.specs.declared.step.Letter.{Letter}
use Rattle.jm_table.specs.Graphs.{GraphMeaning}
use Rattle.jm_table.specs.Tables.{Transitions}
use Rattle.jm_ptltl.specs.declared.formula.Unary.{Unary}
use Rattle.jm_ptltl.specs.declared.formula.Unary.TheVariants.{Not, Historically, Once, Previously}
use Rattle.jm_ptltl.specs.declared.formula.Binary.{Binary}
use Rattle.jm_ptltl.specs.declared.formula.Binary.TheVariants.{Equivalent, Implies, Or, Xor, And, Since}
use Rattle.jm_ptltl.specs.declared.formula.Node.{Node}
use Rattle.jm_ptltl.specs.declared.formula.Node.TheVariants.{Event, Constant, Prefix, Infix}
use Rattle.jm_ptltl.specs.Formulas.{Formula, postfix}

-- the bit of a place is set
abbrev pub has_bit : ℕ → ℕ → Bool
has_bit vector place = bit_at vector place == 1

-- the bit of a place is set where b says so
unfoldable pub with_bit : ℕ → ℕ → Bool → ℕ
with_bit vector place b = if b then bit_or vector (1 * 2 ^ place % 2 ^ 64) else vector

-- the bit of a place in the last vector, or this at the start
abbrev pub was : Option ℕ → ℕ → Bool → Bool
was None place before = before
was (Some vector) place before = has_bit vector place

-- the truth of an operator at this place, from that of its part now, and from the last vector
abbrev pub unary_truth : Unary → Option ℕ → ℕ → Bool → Bool
unary_truth Not last place part = not part
unary_truth Historically last place part = part && was last place true
unary_truth Once last place part = part || was last place false
unary_truth Previously last place part = was last (place - 1) false

abbrev pub binary_truth : Binary → Option ℕ → ℕ → Bool → Bool → Bool
binary_truth Equivalent last place left right = if left then right else not right
binary_truth Implies last place left right = not left || right
binary_truth Or last place left right = left || right
binary_truth Xor last place left right = if left then not right else right
binary_truth And last place left right = left && right
binary_truth Since last place left right = right || (left && was last place false)

-- the truth of a node at this place, where the bits of the places before are set
abbrev pub node_truth : Option ℕ → ℕ → ℕ → ℕ → Node Letter → Bool
node_truth last letter place next (Event e) = e.0 == letter
node_truth last letter place next (Constant b) = b
node_truth last letter place next (Prefix op) = unary_truth op last place (has_bit next (place - 1))
node_truth last letter place next (Infix op right) =
    binary_truth op last place (has_bit next (place - 1 - right)) (has_bit next (place - 1))

-- the next vector, from the inside out: these nodes from this place on are left
abbrev pub vector_from : Option ℕ → ℕ → ℕ → ℕ → List (Node Letter) → ℕ
vector_from last letter place next [] = next
vector_from last letter place next (x ∷ xs) =
    vector_from last letter (place + 1) (with_bit next place (node_truth last letter place next x)) xs

abbrev pub next_vector : Formula Letter → Option ℕ → ℕ → ℕ
next_vector f last letter = vector_from last letter 0 0 (postfix f)

-- the start, and the vectors, as a graph
abbrev pub graph_of : Formula Letter → GraphMeaning (Option ℕ)
graph_of f = record { start = Ok None; step = λ last letter. Ok (Some (next_vector f last letter)) }

-- a hash of a vector
abbrev pub key_of : Option ℕ → ℕ
key_of None = 0
key_of (Some vector) = vector * 0x9E3779B97F4A7C15 % 2 ^ 64 / 2 ^ 54

-- the bit of a place says so, and it isn't the start
abbrev pub Says : ℕ → Bool → Option ℕ → Type 0
Says place b None = ⊥
Says place b (Some vector) = has_bit vector place ≡ b

-- the table after has one group more than the table before: the places of the list at which the bit says so
pub record HasGroup (place : ℕ) (b : Bool) (nodes : List (Option ℕ)) (before after : Transitions) : Type 0 where
  pub members : List ℕ
  pub added : after ≡ record before { groups = before.groups ++ members ∷ [] }
  pub each : (state : ℕ) → Contains members state ↔ IsSomeAnd (slice_get nodes state) (Says place b)
