use Rattle.std.proofs.Common.{rules, arith}
use Rattle.std.proofs.lemmas.Result.{err_from_is_err_and}
use Rattle.jm_reading.proofs.LoopLemmas.{one_gathered, all_gathered, none_gathered, too_many}
use Rattle.jm_reading.proofs.repeat.fold_many.Goals as goal

pub returns-then-not-is_next : goal.returns-then-not-is_next
returns-then-not-is_next g c = all_gathered _ _ c.args.cursor.now c.args.whole c.loop.cursor c.loop.whole _ c.loop.invariant (search rules)

pub returns-in_err-whole : goal.returns-in_err-whole
returns-in_err-whole g c =
    let p = err_from_is_err_and c.from_residual.result c.from_residual.ensures.1 in
    rw (p.1, p.2) (none_gathered _ _ c.args.cursor.now c.args.whole c.loop.cursor c.loop.whole _ c.loop.invariant _ (search rules) (search rules))

pub loop-preserved : goal.loop-preserved
loop-preserved g c = one_gathered _ _ c.args.cursor.now c.args.whole c.loop.cursor c.loop.whole _ _ _ _ (omega (arith, c.loop-test.true)) c.loop.invariant (search rules) (search rules)

pub returns-then-is_next : goal.returns-then-is_next
returns-then-is_next g c =
    let none = too_many _ _ c.args.cursor.now c.args.whole c.loop.cursor c.loop.whole _ c.loop.invariant (omega (arith, c.loop-test.false)) (search rules) in
    search rules

pub returns : goal.returns
returns g c = all_gathered _ _ c.args.cursor.now c.args.whole c.loop.cursor c.loop.whole _ c.loop.invariant (search rules)
