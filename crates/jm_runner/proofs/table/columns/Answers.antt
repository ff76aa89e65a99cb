use Rattle.std.proofs.Common.{◌∷◌, [], map, sym, subst, arith}
use Rattle.std.specs.Prelude.{List}
use Rattle.std.proofs.lemmas.List.{map-append}
use Rattle.jm_runner.specs.Tables.{AreColumns}
use Rattle.jm_runner.proofs.TableLemmas.{columns_more, same_lengths}
use Rattle.jm_runner.proofs.table.columns.Goals as goal

pub loop-row-preserved : goal.loop-row-preserved
loop-row-preserved g c =
    let i = c.loop-row.invariant in
    let rows = map (λ v. v.items) c.loop-row.yielded in
    let old = map (λ v. v.items) c.loop-row.columns.items in
    let new = map (λ v. v.items) c.lengthen.new.columns.items in
    record {
      count = omega (arith, same_lengths c.lengthen.new.columns.items c.loop-row.columns.items (λ v. v.items) c.in-Some.row.items c.in_ok-lengthen.ensures, i.count);
      columns = subst (λ (l : List (List g.row.T.Denot)). AreColumns l new) (sym (map-append (λ v. v.items) c.loop-row.yielded (c.in-Some.row ∷ [])))
          (columns_more rows old new c.in-Some.row.items c.in_ok-lengthen.ensures i.columns);
    }
