use Rattle.std.proofs.Common.{◌∙◌, ap, arith}
use Rattle.jm_events.specs.Names.{with_name}
use Rattle.jm_inputs.proofs.NameLemmas.{one_name_more}
use Rattle.jm_inputs.proofs.scripts.first_names.Goals as goal

pub loop-number-preserved : goal.loop-number-preserved
loop-number-preserved c =
    c.in_ok-add.ensures.ok ∙ ap (λ v. with_name v c.name.result.now) c.loop-number.invariant
    ∙ one_name_more c.args.names.now c.name.result.now c.args.count c.loop-number.number c.requires.distinct (omega arith) c.name.ensures
