use Rattle.std.proofs.Common.{◌∙◌, map, arith}
use Rattle.std.proofs.lemmas.Grind.{common_steps}
use Rattle.jm_runner.proofs.TableLemmas.{lengthened-pushed}
use Rattle.jm_runner.proofs.table.lengthen.Goals as goal

pub loop-x-preserved : goal.loop-x-preserved
loop-x-preserved g c =
    let i = c.loop-x.invariant in
    record {
      count = grind (arith, common_steps);
      width = c.in_ok-put.ensures.count ∙ i.width;
      columns = lengthened-pushed (map (λ v. v.items) c.args.columns.now.items) c.loop-x.yielded c.in-Some.x c.loop-x.k (map (λ v. v.items) c.loop-x.columns.items) (map (λ v. v.items) c.put.new.columns.items) i.columns i.count c.in_ok-put.ensures.pushed;
    }
