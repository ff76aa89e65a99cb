use Rattle.jm_semantics.specs.Scripts.{is_for}
use Rattle.jm_script.specs.Projections.{spec_of, step_of}
use Rattle.jm_script.proofs.ProjectionLemmas.{taken}
use Rattle.jm_runner.proofs.WorkLemmas.{line_done, on_ok}
use Rattle.jm_runner.proofs.worker.do_on.Goals as goal

pub returns-in-Some : goal.returns-in-Some
returns-in-Some g c =
    let line = c.args.line.now in
    let step = c.in-Some.step in
    let is = taken (is_for c.args.spec (spec_of line.target)) step (step_of line.target) c.in-Some.ensures in
    on_ok c.do_step.result (line_done c.args.watch.now c.args.spec line step c.args.seat.now c.do_step.new.seat is.0 is.1) c.do_step.ensures
