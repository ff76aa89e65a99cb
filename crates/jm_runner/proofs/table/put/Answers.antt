use Rattle.std.proofs.Common.{length, refl, arith}
use Rattle.std.proofs.lemmas.Option.{slice_get_read}
use Rattle.jm_runner.proofs.TableLemmas.{pushed_at}
use Rattle.jm_runner.proofs.table.put.Goals as goal

pub returns-clause-pushed : goal.returns-clause-pushed
returns-clause-pushed g c =
    let columns = c.args.columns.now.items in
    let old = c.index_mut.result.now in
    pushed_at (λ v. v.items) columns c.args.k c.args.x old c.push.new.self (slice_get_read columns (length columns) c.args.k old refl (omega arith) c.index_mut.ensures.value) c.in_ok-push.ensures.items
