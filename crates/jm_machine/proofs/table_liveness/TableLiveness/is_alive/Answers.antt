use Rattle.std.proofs.Common.{◌<◌, refl, arith}
use Rattle.jm_machine.proofs.table_liveness.TableLiveness.is_alive.Goals as goal

pub returns-then-state-len : goal.returns-then-state-len
returns-then-state-len c =
    rw (← c.self.view_is)
    (λ t g v needs.
    let says = c.alive.ensures t g v needs in
    let less : c.args.state < t.states = omega (arith, c.if-state-len.true, c.len.ensures, c.self.invariant, needs.states) in
    (λ on. (less, (says.0 on).1), λ h. says.1 (refl, h.1)))
