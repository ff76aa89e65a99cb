use Rattle.std.proofs.Common.{◌≤◌, length, arith}
use Rattle.test_runner.proofs.MeetLemmas.{fits_both}
use Rattle.test_runner.proofs.both.script.Goals as goal

pub returns : goal.returns
returns c =
    let few : length c.read_compact.new.objects ≤ 2 = omega (arith, c.len.ensures.value, c.if-len-gt2.false) in
    fits_both c.args.catalog.now (length c.read_compact.new.objects) c.in-Ok.script few c.in-Ok.ensures.fitting (c.in_ok-meets.ensures c.if-not-branch.false) (c.in_ok-meets-2.ensures c.if-not-branch-2.false)
