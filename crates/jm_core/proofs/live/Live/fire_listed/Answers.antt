use Rattle.std.proofs.Common.{◌≡◌, List, Option, refl, sym, ap, ◌∙◌, subst, length}
use Rattle.std.specs.Prelude.{None, Ok}
use Rattle.jm_model.specs.declared.binding.Binding.{Binding}
use Rattle.jm_model.specs.declared.step.Outcome.TheVariants.{Fired}
use Rattle.jm_index.specs.Index.{AreBelow}
use Rattle.jm_monitors.specs.declared.stored.Stored.{Stored}
use Rattle.jm_monitors.specs.Steps.{AreResting}
use Rattle.jm_store.specs.declared.moves.Plan.{Plan}
use Rattle.jm_store.specs.Contents.{stored_of}
use Rattle.jm_store.specs.Listed.{AreListed}
use Rattle.jm_store.specs.Plans.{Plans, PlansUnlessRests}
use Rattle.jm_store.proofs.ListedLemmas.{listed_same}
use Rattle.jm_core.proofs.FireLemmas.{carried_out, at_rest}
use Rattle.jm_core.proofs.live.Live.fire_listed.Goals as goal

pub returns-in-Ok-Some : goal.returns-in-Ok-Some
returns-in-Ok-Some g c =
    let m = g.M.Monitor.meaning (g.M.Monitor.definition c.args.call.now.rules.now) in
    let Stands = g.M.Monitor.StandsFor c.args.call.now.rules.now in
    let dead = c.args.call.now.objects.now in
    let done = c.commit-answer.ensures in
    let before = c.plan_listed-planned.new.self in
    let planned : Plans m Stands dead c.args.call.now.letter.0 c.args.call.now.binding.now c.args.self.now.store before (Ok c.in-Ok-Some.plan) =
    subst (λ (o : Option (Plan g.row.M-State.Denot)). PlansUnlessRests m Stands dead c.args.call.now.letter.0 c.args.call.now.binding.now c.args.self.now.store before (Ok o)) c.in-Ok-Some.field-0-is c.in-Ok-Some.ensures.plans in
    let after = c.commit-answer.new.self in
    let first = listed_same m Stands dead None c.args.self.now.store.monitors before.monitors c.plan_listed-planned.new.awake planned.monitors c.in-Ok-Some.ensures.listed in
    let followed = c.follow.ensures c.args.call.now.rules.now dead first in
    record {
      twice = ap Fired (done.copy ∙ sym done.answer);
      closed = done.closed;
      fits = done.fits dead planned.fits (subst (λ (b : Binding). AreBelow (length dead) b) (sym planned.binding) c.requires.can.there);
      listed = subst (λ (l : List (Option (Stored g.row.M-State.Denot))). AreListed m Stands dead l c.follow.new.awake) (sym done.carried.monitors) followed;
      works = λ trace holds.
          let works = planned.works trace holds in
          let out = carried_out m Stands trace dead c.args.call.now.letter.0 c.args.call.now.binding.now before after c.in-Ok-Some.plan c.commit-answer.result.0
          works planned.binding (done.works c.args.call.now.rules.now trace dead c.args.call.now.letter.0 works) done.answer in
          (c.requires.live, out.0, out.1);
    }

pub returns-in-Ok-None : goal.returns-in-Ok-None
returns-in-Ok-None g c =
    let m = g.M.Monitor.meaning (g.M.Monitor.definition c.args.call.now.rules.now) in
    let Stands = g.M.Monitor.StandsFor c.args.call.now.rules.now in
    let before = c.args.self.now.store in
    let after = c.plan_listed-planned.new.self in
    let rests : (after ≡ before) × AreResting m Stands c.args.call.now.objects.now c.args.call.now.letter.0 c.args.call.now.binding.now (stored_of before) before.marks =
    subst (λ (o : Option (Plan g.row.M-State.Denot)). PlansUnlessRests m Stands c.args.call.now.objects.now c.args.call.now.letter.0 c.args.call.now.binding.now before after (Ok o)) c.in-Ok-None.field-0-is c.in-Ok-None.ensures.plans in
    let (same, resting) = rests in
    rw same
    (record {
      twice = rw (c.new.ensures, c.new-in-Ok-None.ensures) refl;
      closed = c.requires.can.closed;
      fits = c.requires.can.fits;
      listed = c.in-Ok-None.ensures.listed;
      works = λ trace holds.
          let out = at_rest m Stands trace c.args.call.now.objects.now c.args.call.now.letter.0 c.args.call.now.binding.now c.args.self.now.store holds c.requires.can.event resting in
          (c.requires.live, rw c.new.ensures out.0, out.1);
    })

pub returns-in-Err : goal.returns-in-Err
returns-in-Err g c =
    let m = g.M.Monitor.meaning (g.M.Monitor.definition c.args.call.now.rules.now) in
    let Stands = g.M.Monitor.StandsFor c.args.call.now.rules.now in
    let same = c.in-Err.ensures.plans in
    record {
      twice = refl;
      closed = same.closed;
      fits = same.fits;
      listed = listed_same m Stands c.args.call.now.objects.now None c.args.self.now.store.monitors c.plan_listed-planned.new.self.monitors c.plan_listed-planned.new.awake same.monitors c.in-Err.ensures.listed;
      works = λ trace holds. (c.requires.live, record { stored = same.stored; marks = same.marks; holds = same.keeps trace holds });
    }
