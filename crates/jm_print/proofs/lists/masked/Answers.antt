use Rattle.std.proofs.Common.{◌++◌, ◌<◌, length, take, sym, ap, ◌∙◌, arith}
use Rattle.jm_print.specs.Lists.{is_empty, name_list, names_of_mask}
use Rattle.jm_print.proofs.ListLemmas.{name_written, some_name, masked_set, masked_unset}
use Rattle.jm_print.proofs.lists.masked.Goals as goal
use Rattle.jm_print.proofs.lists.masked.Goals.{then-has+in_ok-name, else-has}

pub loop-p-preserved : goal.loop-p-preserved
loop-p-preserved c =
    let names = c.args.table.now.parameters in
    let mask = c.args.mask in
    let p = c.loop-p.p in
    let so_far = names_of_mask (take p names) mask in
    elim c.if-has.branch [
      | then-has+in_ok-name w ↦
          let name = w.param_name.result.now in
          let next = masked_set mask names p name w.param_name.ensures (sym w.if-has.true ∙ c.has.ensures) in
          record {
            none = w.first-is ∙ some_name so_far name ∙ ap is_empty (sym next);
            so_far =
                w.page-is
                ∙ name_written so_far name c.args.page.now c.loop-p.page w.name.new.page c.loop-p.first c.loop-p.invariant.none c.loop-p.invariant.so_far w.in_ok-name.ensures
                ∙ ap (λ t. c.args.page.now ++ name_list t) (sym next);
          }
      | else-has w ↦
          let within : p < length names = omega (arith, c.loop-p-test.true, c.params-p-end.ensures.value) in
          let next = masked_unset mask names p within (sym w.if-has.false ∙ c.has.ensures) in
          record {
            none = w.first-is ∙ c.loop-p.invariant.none ∙ ap is_empty (sym next);
            so_far = w.page-is ∙ c.loop-p.invariant.so_far ∙ ap (λ t. c.args.page.now ++ name_list t) (sym next);
          }
    ]
