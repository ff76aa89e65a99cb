use Rattle.std.specs.Prelude.{ℕ, List}

-- how many handlers the properties of a specification have together at most
abbrev pub most_handlers : ℕ
most_handlers = 16

-- a goal: the group of each handler, the creation letters as a mask, the parameters that a reported instance has to
-- bind, as a mask, and the handlers that reset their property, as a mask
pub record GoalDefinition : Type 0 where
  pub groups : List ℕ
  pub creation : ℕ
  pub must_bind : ℕ
  pub resets : ℕ
