use Rattle.jm_machine.proofs.PropertyLemmas.{run_hits, run_split}
use Rattle.jm_machine.proofs.property.PropertyMonitor.hits.Goals as goal

pub returns-in_default : goal.returns-in_default
returns-in_default c = λ w place.
    let h = run_split c.args.self.now c.args.state.now w c.in_default.not-Start c.in_default.not-Trap place in
    run_hits c.args.self.now c.handlers_at.ensures.rules c.args.state.now w h.0 h.1 c.handlers_at.result c.handlers_at.ensures.hits
