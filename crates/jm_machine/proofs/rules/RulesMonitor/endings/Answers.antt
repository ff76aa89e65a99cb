use Rattle.jm_machine.proofs.RuleLemmas.{alone_endings}
use Rattle.jm_machine.proofs.rules.RulesMonitor.endings.Goals as goal

pub returns : goal.returns
returns c =
    rw (← c.self.view_is)
    (λ k mask at state is.
    rw is (alone_endings c.self.inside.first c.self.inside.others.items c.self.inside.names c.self.invariant
    mask k (c.state_endings.ensures k mask at)))
