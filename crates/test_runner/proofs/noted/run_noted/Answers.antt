use Rattle.std.proofs.Common.{◌<◌, ◌-◌, ◌^◌, [], ◌∷◌, slice_get, sym, ap, subst, ◌∙◌}
use Rattle.std.specs.Prelude.{All}
use Rattle.std.proofs.lemmas.List.Elements.{All-nil, All-cons}
use Rattle.jm_sync.specs.Cuts.{RisesFrom}
use Rattle.jm_runner.specs.Runs.{CanRun}
use Rattle.test_runner.specs.Meets.{meet_meaning}
use Rattle.test_runner.proofs.MeetLemmas.{ready_both}
use Rattle.test_runner.proofs.noted.run_noted.Goals as goal

pub run_with_notes-requires-clause-ready : goal.run_with_notes-requires-clause-ready
run_with_notes-requires-clause-ready g c κs within = λ s r at.
    subst (λ l. CanRun meet_meaning l s r.watch r.seats.items) (sym (c.as_slice.ensures.value ∙ c.in_ok-scripts.ensures))
    (ready_both c.args.one c.args.two c.requires.fits (λ r. r.watch) (λ r. r.seats.items) c.in_ok-a.a c.in_ok-b.b c.in_ok-a.ensures c.in_ok-b.ensures s r (ap (λ l. slice_get l s) (sym c.in_ok-watches.ensures) ∙ at))
