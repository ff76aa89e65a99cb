use Rattle.std.specs.Int.{bit_at}
use Rattle.std.proofs.lemmas.Bool.{eqb-true, eq-eqb}
use Rattle.jm_machine.proofs.GoalLemmas.{one_is_set}
use Rattle.jm_machine.proofs.goal.contains.Goals as goal

pub returns : goal.returns
returns c =
    let bit = bit_at c.args.set c.args.number in
    let is = one_is_set c.args.set c.args.number in
    (λ one. is.0 (eqb-true bit 1 one), λ set. eq-eqb bit 1 (is.1 set))
