use Rattle.std.proofs.Common.{refl, sym, ap, ◌∙◌}
use Rattle.jm_model.specs.declared.step.Outcome.TheVariants.{Fired}
use Rattle.jm_semantics.specs.Traces.{ParametricEvent}
use Rattle.jm_core.proofs.FireLemmas.{outcome_before}
use Rattle.jm_core.proofs.live.Live.perform.Goals as goal

pub returns-in-Some : goal.returns-in-Some
returns-in-Some g c = record {
  twice = refl;
  closed = c.requires.can.closed;
  fits = c.requires.can.fits;
  listed = c.requires.can.listed;
  works = λ trace holds. (sym c.in-Some.ensures, record { stored = refl; marks = refl; holds = holds });
}

pub returns-in-Some-advance_listed : goal.returns-in-Some-advance_listed
returns-in-Some-advance_listed g c =
    let done = c.in-Some-advance_listed.ensures in
    record {
      twice = ap Fired done.advances.twice;
      closed = done.advances.closed;
      fits = done.advances.fits;
      listed = done.listed;
      works = λ trace holds.
          let event = done.advances.works trace holds in
          (sym c.first_dead.ensures ∙ c.in_default.is, event.answer, record { holds = event.store; none_cut = event.none_cut });
    }

pub returns-in-Some-advance_one : goal.returns-in-Some-advance_one
returns-in-Some-advance_one g c =
    let done = c.in-Some-advance_one.ensures in
    record {
      twice = ap Fired done.advances.twice;
      closed = done.advances.closed;
      fits = done.advances.fits;
      listed = done.listed c.requires.can.listed;
      works = λ trace holds.
          let event = done.advances.works trace holds in
          (sym c.first_dead.ensures ∙ c.in_default.is, event.answer, record { holds = event.store; none_cut = event.none_cut });
    }

pub returns : goal.returns
returns g c =
    let m = g.M.Monitor.meaning (g.M.Monitor.definition c.args.call.now.rules.now) in
    let Stands = g.M.Monitor.StandsFor c.args.call.now.rules.now in
    let kept = c.in_default-advance_one.ensures in
    let fired = c.fire.ensures in
    let mid = c.advance_one.new.self in
    let a : ParametricEvent = record { letter = c.args.call.now.letter.0; binding = c.args.call.now.binding.now } in
    record {
      twice = fired.twice;
      closed = fired.closed;
      fits = fired.fits;
      listed = fired.listed;
      works = λ trace holds.
          outcome_before m Stands trace c.args.call.now.objects.now a c.args.self.now.store mid c.fire.new.self.store _ kept.advances.stored kept.advances.unmarked (fired.works trace (kept.advances.keeps trace holds));
    }
