use Rattle.std.proofs.Common.{◌<◌, length, arith}
use Rattle.jm_marks.proofs.PlaceLemmas.{gone_clear}
use Rattle.jm_marks.proofs.singles.clear.Goals as goal

pub returns-then-object-len-clause-gone : goal.returns-then-object-len-clause-gone
returns-then-object-len-clause-gone c =
    let there : c.args.object < length c.args.bytes.now.items = omega arith in
    gone_clear _ _ _ _ c.requires.gone there c.index_mut-then-object-len.ensures.value
