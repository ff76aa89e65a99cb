-- The dead objects of a history, as flags of all objects.
use Rattle.std.specs.Prelude.{ℕ, ◌≡◌, Bool, List}
use Rattle.jm_model.specs.declared.step.Entry.{Entry}
use Rattle.jm_semantics.specs.Histories.{is_dead}
use Rattle.jm_marks.specs.Marks.{is_dead_object}

-- the flags are set for exactly the dead objects of the history
abbrev pub AreFlagsOf : List Entry → List Bool → Type 0
AreFlagsOf h dead = (o : ℕ) → is_dead h o ≡ is_dead_object dead o
