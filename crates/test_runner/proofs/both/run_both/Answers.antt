use Rattle.std.proofs.Common.{slice_get, sym, ap, subst, ◌∙◌}
use Rattle.jm_runner.specs.Runs.{CanRun}
use Rattle.test_runner.specs.Meets.{meet_meaning}
use Rattle.test_runner.proofs.MeetLemmas.{ready_both}
use Rattle.test_runner.proofs.both.run_both.Goals as goal

pub run_scripts-requires-clause-ready : goal.run_scripts-requires-clause-ready
run_scripts-requires-clause-ready g c κs within = λ s r at.
    subst (λ l. CanRun meet_meaning l s r.watch r.seats.items) (sym (c.as_slice.ensures.value ∙ c.in_ok-scripts.ensures))
    (ready_both c.args.first c.args.second c.requires (λ r. r.watch) (λ r. r.seats.items) c.in_ok-one.one c.in_ok-two.two c.in_ok-one.ensures c.in_ok-two.ensures s r (ap (λ l. slice_get l s) (sym c.in_ok-watches.ensures) ∙ at))
