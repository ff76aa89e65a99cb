-- A formula as it is written, and how many nodes it has.
use Rattle.std.specs.Prelude.{ℕ, ◌+◌}
use Rattle.jm_ere.specs.declared.formula.Atom.{Atom}
use Rattle.jm_ere.specs.declared.formula.Unary.{Unary}
use Rattle.jm_ere.specs.declared.formula.Binary.{Binary}

-- an atom, or an operator over one formula or two
pub data Formula : Type 0 where
  Leaf : (atom : Atom) → Formula
  Over : (operator : Unary) (f : Formula) → Formula
  Between : (operator : Binary) (f g : Formula) → Formula

-- its atoms and its operators, where juxtaposition is one too
abbrev pub node_count : Formula → ℕ
node_count (Leaf atom) = 1
node_count (Over operator f) = node_count f + 1
node_count (Between operator f g) = node_count f + node_count g + 1
