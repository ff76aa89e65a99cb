use Rattle.jm_machine.proofs.PropertyLemmas.{went_on}
use Rattle.jm_machine.proofs.property.PropertyMonitor.next.Goals as goal

pub returns-in_default : goal.returns-in_default
returns-in_default c =
    went_on c.args.self.now c.step.result c.args.state.now c.args.letter.0 c.step.ensures c.in_default.not-Start c.in_default.not-Trap
