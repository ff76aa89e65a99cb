use Rattle.std.proofs.Common.{◌≡◌, ◌++◌, drop}
use Rattle.jm_semantics.specs.Scripts.{projection_of}
use Rattle.jm_script.specs.Projections.{script_of}
use Rattle.jm_script.proofs.script.project_lines.Given as goal

abbrev pub invariant-loop-line : goal.invariant-loop-line
invariant-loop-line l = l.steps.items ++ projection_of (script_of (drop l.line-index l.lines)) l.spec ≡ projection_of (script_of l.lines) l.spec
