use Rattle.std.proofs.Common.{◌≡◌}
use Rattle.std.specs.Prelude.{string_bytes}
use Rattle.jm_gen.specs.Scripts.{script_text}
use Rattle.jm_gen.proofs.script.script.Given as goal

abbrev pub invariant-loop-round : goal.invariant-loop-round
invariant-loop-round l = string_bytes l.text ≡ script_text l.number l.round
