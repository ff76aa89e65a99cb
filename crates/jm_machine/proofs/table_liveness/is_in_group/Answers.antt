use Rattle.std.proofs.Common.{◌<◌, sym, subst, arith}
use Rattle.jm_machine.proofs.PlaceLemmas.{state_within}
use Rattle.jm_machine.proofs.table_liveness.is_in_group.Goals as goal

pub returns-else-state-len : goal.returns-else-state-len
returns-else-state-len c = λ word place.
    let t = c.args.table.now in
    let within : c.args.state < t.states = subst (λ n. n < t.states) (sym place.1) (state_within t word c.len.ensures.table place.0) in
    absurd (omega (arith, within, c.if-state-len.false, c.len.ensures.value))
