use Rattle.std.proofs.Common.{arith}
use Rattle.jm_script.proofs.ObjectLemmas.{texts, length-mentioned, length-texts, le_given, le_true}
use Rattle.jm_script.proofs.objects.have_room.Goals as goal

pub returns-then-are_few : goal.returns-then-are_few
returns-then-are_few c =
    let few = le_given _ _ c.are_few.result c.are_few.ensures c.if-are_few.true in
    le_true _ 65536 (omega (arith, few, length-mentioned c.args.names.now (texts c.args.objects.now), length-texts c.args.objects.now))
