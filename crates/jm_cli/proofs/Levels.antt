-- One level of clap's walk: a command below the line, or one by itself.
use Rattle.std.proofs.Common.{◌≡◌, Bool, true, false, List, [], ◌∷◌, Option, Some, None, is_some, refl, sym, ap}
use Rattle.std.proofs.lemmas.Bool.{false≢true}
use Rattle.clap.specs.Walk.{Row, Text, walk, nothing_held, rows_after}
use Rattle.clap.specs.Simple.{Shape, App, built, built_leaf, inherited, marked_built, with_leaf_noted, entered}
use Rattle.clap.specs.Kinds.{Kinds, or_else}
use Rattle.clap.specs.Faults.{fault_of, level_fault, entered_fault}
use Rattle.jm_cli.specs.Line.{line_shape, names_shape, alone}

-- the command as it is built below the line
abbrev pub leaf : Shape → Shape
leaf s = built_leaf (inherited (with_leaf_noted (marked_built line_shape)) s)

-- the faults of the words after it, and what is found in them
abbrev pub level : Shape → List Text → Kinds
level s ws = level_fault (leaf s) [] nothing_held ws false []

abbrev pub rows : Shape → List Text → List Row
rows s ws = rows_after (leaf s).rules [] ws

-- a list that has a fault
abbrev pub IsFault : Kinds → Type 0
IsFault [] = ⊥
IsFault (k ∷ ks) = Unit {0}

pub no_fault : (k : Kinds) → IsFault k → k ≡ [] → ⊥
no_fault [] is e = absurd is
no_fault (x ∷ k) is e = false≢true (sym (ap some e))
  where
    some : Kinds → Bool
    some [] = false
    some (y ∷ ys) = true

pub first_fault : (k m : Kinds) → IsFault k → IsFault (or_else k m)
first_fault [] m is = absurd is
first_fault (x ∷ k) m is = tt

pub before_nothing : (k : Kinds) → or_else k [] ≡ k
before_nothing [] = refl
before_nothing (x ∷ k) = refl

-- a command of names by itself has the faults that it has below the line
pub by_itself : (name : Text) (ws : List Text) → fault_of (alone (names_shape name)) ws ≡ level (names_shape name) ws
by_itself name ws = go (walk a.top.rules [] nothing_held ws).stopped
  where
    a : App
    a = built (alone (names_shape name))

    go : (stop : Option (Text × List Text))
        → level_fault a.top [] nothing_held ws (is_some (entered a stop)) (entered_fault a stop) ≡ level_fault a.top [] nothing_held ws false []
    go None = refl
    go (Some p) = refl
