-- What the handlers of a property are for.
use Rattle.std.specs.Prelude.{◌≡◌, ◌<◌, ◌≤◌, ◌^◌, ◌⊎◌, Bool, false, length}
use Rattle.jm_goal.specs.Goals.{most_handlers}
use Rattle.jm_machine.specs.declared.handling.Handling.{Handling}
use Rattle.jm_machine.specs.Handlers.{AreCategories}

-- There are at most 16 handlers, each for one of the categories. Some of them reset the property, and none where the
-- specification is for full bindings alone.
pub record IsHandling (full_binding : Bool) (h : Handling) : Type 0 where
  pub many : length h.categories ≤ 65535
  pub few : length h.handlers ≤ most_handlers
  pub known : AreCategories h.categories h.handlers
  pub there : h.resets < 2 ^ length h.handlers
  pub apart : (h.resets ≡ 0) ⊎ (full_binding ≡ false)
