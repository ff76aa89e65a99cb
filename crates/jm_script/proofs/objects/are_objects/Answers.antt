use Rattle.std.proofs.Common.{sym, ◌∙◌, arith}
use Rattle.jm_script.proofs.ObjectLemmas.{one_fails, one_passes}
use Rattle.jm_script.proofs.objects.are_objects.Goals as goal

pub returns-then-not-is_object : goal.returns-then-not-is_object
returns-then-not-is_object c = one_fails c.args.words.now c.loop-word.word-index _ _ (omega arith) c.loop-word.invariant (sym c.is_object.ensures ∙ c.if-not-is_object.true)

pub loop-word-preserved : goal.loop-word-preserved
loop-word-preserved c = one_passes c.args.words.now c.loop-word.word-index _ _ (omega arith) c.loop-word.invariant (sym c.is_object.ensures ∙ c.if-not-is_object.false)
