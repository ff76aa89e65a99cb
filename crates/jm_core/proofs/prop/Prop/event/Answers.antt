use Rattle.std.proofs.Common.{◌≡◌, List, [], ◌∷◌, ◌++◌, length, refl, sym, ◌∙◌, ap, subst}
use Rattle.jm_model.specs.declared.step.Step.{Step}
use Rattle.jm_model.specs.declared.step.Step.TheVariants.{Event}
use Rattle.jm_model.specs.declared.step.Outcome.{Outcome}
use Rattle.jm_model.specs.declared.step.Entry.{Entry}
use Rattle.jm_history.specs.Nodes.{answered}
use Rattle.jm_semantics.specs.Traces.{ParametricEvent}
use Rattle.jm_semantics.specs.Histories.{trace_of}
use Rattle.jm_store.specs.Contents.{stored_of}
use Rattle.jm_core.specs.Steps.{IsEventOf}
use Rattle.jm_core.specs.Cores.{Core}
use Rattle.jm_core.specs.Inside.{IsCore, instances_of}
use Rattle.jm_core.proofs.FlagLemmas.{live_event, objects_below}
use Rattle.jm_core.proofs.FitLemmas.{fits_history}
use Rattle.jm_core.proofs.FireLemmas.{keeps_memory}
use Rattle.jm_core.proofs.CoreLemmas.{core_after_event}
use Rattle.jm_core.proofs.prop.Prop.event.Goals as goal

pub perform-outcome-requires-clause-can : goal.perform-outcome-requires-clause-can
perform-outcome-requires-clause-can g c =
    let m = g.M.Monitor.meaning (g.M.Monitor.definition c.self.inside.rules) in
    let is : c.args.node.step ≡ Event c.in-Event.letter c.in-Event.binding = sym c.step.ensures ∙ c.in-Event.is in
    let fits : IsEventOf m (length c.self.inside.objects) (Event c.in-Event.letter c.in-Event.binding) =
    subst (λ (s : Step). IsEventOf m (length c.self.inside.objects) s) is
    (subst (λ (core : Core g.row.M-Definition.Denot). IsEventOf (g.M.Monitor.meaning core.definition) core.objects c.args.node.step) (sym c.self.view_is) c.requires) in
    record {
      closed = c.self.invariant.0.closed;
      fits = c.self.invariant.0.fits;
      eight = fits.0.1;
      event = λ none. live_event m c.self.inside.objects c.in-Event.letter c.in-Event.binding fits.0 none;
      within = objects_below (length c.self.inside.objects) c.in-Event.binding fits.1;
      listed = c.self.invariant.1;
    }

pub invariant_of-self : goal.invariant_of-self
invariant_of-self g c =
    let m = g.M.Monitor.meaning (g.M.Monitor.definition c.self.inside.rules) in
    let Stands = g.M.Monitor.StandsFor c.self.inside.rules in
    let h = c.self.inside.history in
    let dead = c.self.inside.objects in
    let before = c.self.inside.live.store in
    let after = c.perform-outcome.new.self.store in
    let done = c.perform-outcome.ensures in
    let is : c.args.node.step ≡ Event c.in-Event.letter c.in-Event.binding = sym c.step.ensures ∙ c.in-Event.is in
    let fits : IsEventOf m c.args.self.now.objects (Event c.in-Event.letter c.in-Event.binding) =
    subst (λ (s : Step). IsEventOf m c.args.self.now.objects s) is
    (subst (λ (core : Core g.row.M-Definition.Denot). IsEventOf (g.M.Monitor.meaning core.definition) c.args.self.now.objects c.args.node.step) (sym c.self.view_is) c.requires) in
    let works = done.works (trace_of h) c.self.invariant.0.holds in
    let core = subst (λ (l : List Entry). IsCore m Stands l dead after) (sym c.push.ensures)
    (subst (λ (o : Outcome). IsCore m Stands (h ++ answered c.args.node o ∷ []) dead after) (sym done.twice)
    (core_after_event m Stands h dead before after c.args.node c.in-Event.letter c.in-Event.binding c.perform-outcome.result.0 c.self.invariant.0 is fits.0 done.closed done.fits
    works)) in
    (core, done.listed)

pub returns-clause-memory : goal.returns-clause-memory
returns-clause-memory g c =
    let m = g.M.Monitor.meaning (g.M.Monitor.definition c.self.inside.rules) in
    let Stands = g.M.Monitor.StandsFor c.self.inside.rules in
    let h = c.self.inside.history in
    let after = c.perform-outcome.new.self.store in
    let a : ParametricEvent = record { letter = c.in-Event.letter.0; binding = c.in-Event.binding } in
    let next : Core g.row.M-Definition.Denot = record { definition = g.M.Monitor.definition c.self.inside.rules; objects = length c.self.inside.objects; entries = c.push.new.self; stored = instances_of (stored_of after); marks = after.marks } in
    keeps_memory m Stands (trace_of h) c.self.inside.objects a c.self.inside.live.store after c.perform-outcome.result.0 c.args.self.now next
    (c.perform-outcome.ensures.works (trace_of h) c.self.invariant.0.holds) (sym (ap (λ core. core.stored) c.self.view_is)) (sym (ap (λ core. core.marks) c.self.view_is)) refl refl

pub returns-clause-legal : goal.returns-clause-legal
returns-clause-legal g c = (invariant_of-self g c).0.legal

pub returns-clause-fits : goal.returns-clause-fits
returns-clause-fits g c =
    fits_history (g.M.Monitor.meaning (g.M.Monitor.definition c.self.inside.rules)) (g.M.Monitor.StandsFor c.self.inside.rules) c.push.new.self c.self.inside.objects c.perform-outcome.new.self.store (invariant_of-self g c).0
