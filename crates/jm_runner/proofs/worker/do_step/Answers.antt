use Rattle.jm_runner.proofs.WorkLemmas.{step_done}
use Rattle.jm_runner.proofs.worker.do_step.Goals as goal

pub returns : goal.returns
returns g c =
    step_done (g.M.Monitor.meaning c.args.watch.now.fixed.definition) c.args.watch.now c.args.line c.args.step c.in_ok-answer.answer c.args.seat.now c.step.new.seat c.in_ok-answer.ensures.ok c.in_default.not-NoMemory
