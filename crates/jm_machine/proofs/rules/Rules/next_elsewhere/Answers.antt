use Rattle.jm_machine.proofs.RuleLemmas.{trap_later}
use Rattle.jm_machine.proofs.rules.Rules.next_elsewhere.Goals as goal

pub returns-in-Trap : goal.returns-in-Trap
returns-in-Trap c = rw c.in-Trap.is (λ w h k part at. trap_later part w c.args.letter.0 (h k part at))
