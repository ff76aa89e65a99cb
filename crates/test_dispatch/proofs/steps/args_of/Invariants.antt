use Rattle.std.specs.Prelude.{◌<◌, All}
use Rattle.test_dispatch.proofs.steps.args_of.Given as goal

abbrev pub invariant-loop-word : goal.invariant-loop-word
invariant-loop-word l = All (λ o. o < l.objects) l.args.items
