use Rattle.std.proofs.Common.{◌∙◌}
use Rattle.jm_machine.proofs.NamingLemmas.{named_more}
use Rattle.jm_machine.proofs.names.add_numbered.Goals as goal

pub loop-category-preserved : goal.loop-category-preserved
loop-category-preserved c =
    c.in_ok-add.ensures.ok
    ∙ named_more c.args.number c.args.names.now c.args.categories.now c.loop-category.names c.loop-category.category c.name.result.now c.as_str.result.now c.requires.distinct c.loop-category.invariant c.name.ensures
    (c.as_str.ensures.value ∙ c.in_ok-name.ensures)
