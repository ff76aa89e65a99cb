-- The projection of a script on a specification.
use Rattle.std.specs.Prelude.{ℕ, List, map, Option, Some, None}
use Rattle.jm_model.specs.declared.step.Step.{Step}
use Rattle.jm_model.specs.declared.step.Step.TheVariants as step
use Rattle.jm_semantics.specs.Scripts as semantics
use Rattle.jm_script.specs.declared.script.Target.{Target}
use Rattle.jm_script.specs.declared.script.Target.TheVariants.{Event, Death, Pass}
use Rattle.jm_script.specs.declared.script.ScriptLine.{ScriptLine}

-- the specification that a target is for; a death is for all
abbrev pub spec_of : Target → Option ℕ
spec_of (Event spec letter binding) = Some spec
spec_of (Death object) = None
spec_of (Pass spec) = Some spec

-- the step of a target
abbrev pub step_of : Target → Step
step_of (Event spec letter binding) = step.Event letter binding
step_of (Death object) = step.Death object
step_of (Pass spec) = step.Pass

-- a line as the semantics sees it
abbrev pub line_of : ScriptLine → semantics.ScriptLine
line_of l = record { line = l.line; spec = spec_of l.target; step = step_of l.target }

-- the lines as the semantics sees them
abbrev pub script_of : List ScriptLine → List semantics.ScriptLine
script_of lines = map line_of lines
