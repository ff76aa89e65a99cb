use Rattle.std.proofs.Common.{◌≡◌, Bool, List, length, sym, ap, subst}
use Rattle.jm_model.specs.declared.binding.Binding.{Binding}
use Rattle.jm_index.specs.Index.{AreBelow}
use Rattle.jm_monitors.specs.Steps.{IsLiveEvent}
use Rattle.jm_store.specs.Contents.{Contents}
use Rattle.test_store.proofs.rig.Rig.fire.Goals as goal

pub plan-requires : goal.plan-requires
plan-requires g c =
    let Seen = g.row.M-Definition.Denot × List Bool × Contents g.row.M-State.Denot in
    let rules : g.M.Monitor.definition c.self.inside.rules.now ≡ c.args.self.now.0 = ap (λ (v : Seen). v.0) c.self.view_is in
    let objects : c.self.inside.objects ≡ c.args.self.now.1 = ap (λ (v : Seen). v.1) c.self.view_is in
    let e = c.args.letter.0 in
    let b = c.args.binding.now in
    record {
      closed = c.self.invariant.closed;
      fits = c.self.invariant.fits.fits;
      event = subst (λ (d : g.row.M-Definition.Denot). IsLiveEvent (g.M.Monitor.meaning d) c.self.inside.objects e b) (sym rules)
          (subst (λ (dead : List Bool). IsLiveEvent (g.M.Monitor.meaning c.args.self.now.0) dead e b) (sym objects) c.requires.event);
      there = subst (λ (dead : List Bool). AreBelow (length dead) b) (sym objects) c.requires.in_range;
    }

pub invariant_of-self : goal.invariant_of-self
invariant_of-self g c =
    let plans = c.in_err-plan.ensures.plans in
    record { closed = plans.closed; fits = record { fits = plans.fits; spared = plans.spares c.self.invariant.fits.spared } }

pub invariant_of-self-2 : goal.invariant_of-self-2
invariant_of-self-2 g c =
    let Seen = g.row.M-Definition.Denot × List Bool × Contents g.row.M-State.Denot in
    let dead = c.self.inside.objects in
    let objects : dead ≡ c.args.self.now.1 = ap (λ (v : Seen). v.1) c.self.view_is in
    let there = subst (λ (d : List Bool). AreBelow (length d) c.args.binding.now) (sym objects) c.requires.in_range in
    let plans = c.in_ok-plan.ensures.plans in
    let done = c.commit-answer.ensures in
    record {
      closed = done.closed;
      fits = record {
        fits = done.fits dead plans.fits (subst (λ (b : Binding). AreBelow (length dead) b) (sym plans.binding) there);
        spared = plans.leaves c.self.invariant.fits.spared c.commit-answer.new.self done.carried;
      };
    }
