use Rattle.std.proofs.Common.{◌++◌, take, sym, ap, ◌∙◌}
use Rattle.jm_print.specs.Lists.{is_empty, name_list}
use Rattle.jm_print.proofs.ListLemmas.{take_said, name_written, some_name}
use Rattle.jm_print.proofs.lists.every.Goals as goal

pub loop-p-preserved : goal.loop-p-preserved
loop-p-preserved c =
    let names = c.args.table.now.parameters in
    let p = c.loop-p.p in
    let name = c.param_name.result.now in
    let next = take_said names p name c.param_name.ensures in
    record {
      none = some_name (take p names) name ∙ ap is_empty (sym next);
      so_far =
          name_written (take p names) name c.args.page.now c.loop-p.page c.name.new.page c.loop-p.first c.loop-p.invariant.none c.loop-p.invariant.so_far c.in_ok-name.ensures
          ∙ ap (λ t. c.args.page.now ++ name_list t) (sym next);
    }
