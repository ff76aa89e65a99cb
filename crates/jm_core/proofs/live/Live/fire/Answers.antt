use Rattle.std.proofs.Common.{List, Option, refl, sym, ap, ◌∙◌, subst, length}
use Rattle.std.specs.Prelude.{None}
use Rattle.jm_model.specs.declared.binding.Binding.{Binding}
use Rattle.jm_model.specs.declared.step.Outcome.TheVariants.{Fired}
use Rattle.jm_index.specs.Index.{AreBelow}
use Rattle.jm_monitors.proofs.BaseLemmas.{object-among}
use Rattle.jm_monitors.specs.declared.stored.Stored.{Stored}
use Rattle.jm_store.specs.Listed.{AreListed}
use Rattle.jm_store.proofs.ListedLemmas.{listed_same}
use Rattle.jm_core.proofs.FireLemmas.{carried_out}
use Rattle.jm_core.proofs.live.Live.fire.Goals as goal

pub list_if-requires-clause-fits : goal.list_if-requires-clause-fits
list_if-requires-clause-fits g c =
    let dead = c.args.call.now.objects.now in
    let planned = c.in-Ok.ensures.plans in
    (c.commit-answer.ensures.fits dead planned.fits (subst (λ (b : Binding). AreBelow (length dead) b) (sym planned.binding) c.requires.can.there)).index

pub list_if-requires-clause-live : goal.list_if-requires-clause-live
list_if-requires-clause-live g c = λ o binds. c.requires.can.event.live o (object-among _ binds.0 o binds.1)

pub returns-after-is_marked : goal.returns-after-is_marked
returns-after-is_marked g c =
    let m = g.M.Monitor.meaning (g.M.Monitor.definition c.args.call.now.rules.now) in
    let Stands = g.M.Monitor.StandsFor c.args.call.now.rules.now in
    let dead = c.args.call.now.objects.now in
    let planned = c.in-Ok.ensures.plans in
    let done = c.commit-answer.ensures in
    let before = c.plan_as.new.self in
    let after = c.commit-answer.new.self in
    let first = listed_same m Stands dead None c.args.self.now.store.monitors before.monitors c.args.self.now.awake planned.monitors c.requires.listed in
    let followed = c.follow.ensures c.args.call.now.rules.now dead first in
    let committed : AreListed m Stands dead after.monitors c.follow.new.awake = subst (λ (l : List (Option (Stored g.row.M-State.Denot))). AreListed m Stands dead l c.follow.new.awake) (sym done.carried.monitors) followed in
    record {
      twice = ap Fired (done.copy ∙ sym done.answer);
      closed = done.closed;
      fits = done.fits dead planned.fits (subst (λ (b : Binding). AreBelow (length dead) b) (sym planned.binding) c.requires.can.there);
      listed = c.list_if.ensures committed;
      works = λ trace holds.
          let works = planned.works trace holds in
          let out = carried_out m Stands trace dead c.args.call.now.letter.0 c.args.call.now.binding.now before after c.in-Ok.plan c.commit-answer.result.0
          works planned.binding (done.works c.args.call.now.rules.now trace dead c.args.call.now.letter.0 works) done.answer in
          (c.requires.live, out.0, out.1);
    }

pub returns-in-Err : goal.returns-in-Err
returns-in-Err g c =
    let m = g.M.Monitor.meaning (g.M.Monitor.definition c.args.call.now.rules.now) in
    let Stands = g.M.Monitor.StandsFor c.args.call.now.rules.now in
    let same = c.in-Err.ensures.plans in
    record {
      twice = refl;
      closed = same.closed;
      fits = same.fits;
      listed = listed_same m Stands c.args.call.now.objects.now None c.args.self.now.store.monitors c.plan_as.new.self.monitors c.args.self.now.awake same.monitors c.requires.listed;
      works = λ trace holds. (c.requires.live, record { stored = same.stored; marks = same.marks; holds = same.keeps trace holds });
    }
