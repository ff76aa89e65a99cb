use Rattle.std.proofs.Common.{◌-◌, ◌^◌, length, sym, subst, arith}
use Rattle.jm_runner.specs.Runs.{AreCuts}
use Rattle.jm_runner.proofs.PostLemmas.{none_named, none_rising, none_sound}
use Rattle.jm_runner.proofs.run.run_scripts.Goals as goal

pub run_with_notes-requires-clause-cuts : goal.run_with_notes-requires-clause-cuts
run_with_notes-requires-clause-cuts g c κs within =
    let cuts = c.in_ok-cuts.cuts.items in
    let none = c.in_ok-cuts.ensures.none in
    let are : AreCuts (length c.args.scripts.now) cuts = record {
      count = omega (arith, c.in_ok-cuts.ensures.count, c.in_ok-cuts.cuts.ok.0);
      rising = none_rising cuts none;
      names = none_named cuts none (2 ^ 32 - 1);
      sound = none_sound cuts none;
    } in
    subst (λ l. AreCuts (length c.args.scripts.now) l) (sym c.deref.ensures.value) are
