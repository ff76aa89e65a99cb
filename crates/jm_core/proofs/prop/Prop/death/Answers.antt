use Rattle.std.proofs.Common.{◌≡◌, ◌<◌, Bool, true, false, not, List, [], ◌∷◌, ◌++◌, length, sym, ◌∙◌, ap, subst}
use Rattle.std.specs.Prelude.{slice_set}
use Rattle.std.proofs.lemmas.List.{set-get_or}
use Rattle.std.proofs.lemmas.Option.{get_or_from_slice_get}
use Rattle.jm_model.specs.declared.step.Step.{Step}
use Rattle.jm_model.specs.declared.step.Step.TheVariants.{Death}
use Rattle.jm_model.specs.declared.step.Outcome.TheVariants.{Done, Refused}
use Rattle.jm_model.specs.declared.step.Entry.{Entry}
use Rattle.jm_history.specs.Nodes.{answered}
use Rattle.jm_marks.specs.Marks.{is_dead_object}
use Rattle.jm_core.specs.Steps.{IsDeathOf}
use Rattle.jm_index.specs.Index.{flag_of}
use Rattle.jm_store.specs.Listed.{AreListed}
use Rattle.std.proofs.lemmas.Bool.{false≢true, false_from_ne_true}
use Rattle.jm_core.specs.Inside.{IsCore}
use Rattle.jm_core.proofs.FitLemmas.{fits_history}
use Rattle.jm_core.proofs.CoreLemmas.{core_after_death, core_after_refusal}
use Rattle.jm_core.proofs.prop.Prop.death.Goals as goal

pub invariant_of-self : goal.invariant_of-self
invariant_of-self g c =
    let m = g.M.Monitor.meaning (g.M.Monitor.definition c.self.inside.rules) in
    let Stands = g.M.Monitor.StandsFor c.self.inside.rules in
    let dead = c.self.inside.objects in
    let o = c.in-Death.object in
    let is : c.args.node.step ≡ Death o = sym c.step.ensures ∙ c.in-Death.is in
    let count : length dead ≡ c.args.self.now.objects = ap (λ core. core.objects) c.self.view_is in
    let within : o < length dead = subst (λ n. o < n) (sym count) (subst (λ (s : Step). IsDeathOf c.args.self.now.objects s) is c.requires) in
    let alive : is_dead_object dead o ≡ false = get_or_from_slice_get dead o (not c.kill.result) false c.kill.ensures.answer ∙ ap not c.if-kill.true in
    let core = subst (λ (l : List Entry). IsCore m Stands l c.kill.new.self c.self.inside.live.store) (sym c.push.ensures)
    (subst (λ (d : List Bool). IsCore m Stands (c.self.inside.history ++ answered c.args.node Done ∷ []) d c.self.inside.live.store) (sym c.kill.ensures.dead)
    (core_after_death m Stands c.self.inside.history dead c.self.inside.live.store c.args.node o c.self.invariant.0 is within alive)) in
    let mourned = c.mourn.ensures.listed c.self.inside.rules dead c.self.invariant.1 in
    let listed : AreListed m Stands c.kill.new.self c.self.inside.live.store.monitors c.mourn.new.awake = subst (λ (d : List Bool). AreListed m Stands d c.self.inside.live.store.monitors c.mourn.new.awake) (sym c.kill.ensures.dead) mourned in
    rw c.mourn.ensures.unchanged (core, listed)

pub mourn-requires : goal.mourn-requires
mourn-requires g c =
    let dead = c.self.inside.objects in
    let o = c.in-Death.object in
    let alive : is_dead_object dead o ≡ false = get_or_from_slice_get dead o (not c.kill.result) false c.kill.ensures.answer ∙ ap not c.if-kill.true in
    false_from_ne_true (flag_of c.self.inside.live.store.index.dropped o) (λ gone. false≢true (sym alive ∙ c.self.invariant.0.fits.index.reached o gone))

pub invariant_of-self-else-kill : goal.invariant_of-self-else-kill
invariant_of-self-else-kill g c =
    let m = g.M.Monitor.meaning (g.M.Monitor.definition c.self.inside.rules) in
    let Stands = g.M.Monitor.StandsFor c.self.inside.rules in
    let dead = c.self.inside.objects in
    let o = c.in-Death.object in
    let is : c.args.node.step ≡ Death o = sym c.step.ensures ∙ c.in-Death.is in
    let gone : is_dead_object dead o ≡ true = get_or_from_slice_get dead o (not c.kill.result) false c.kill.ensures.answer ∙ ap not c.if-kill.false in
    let kept : c.kill.new.self ≡ dead = c.kill.ensures.dead ∙ ap (λ v. slice_set dead o v) (sym gone) ∙ set-get_or dead o false in
    let core = subst (λ (l : List Entry). IsCore m Stands l c.kill.new.self c.self.inside.live.store) (sym c.push-else-kill.ensures)
    (subst (λ (d : List Bool). IsCore m Stands (c.self.inside.history ++ answered c.args.node (Refused o) ∷ []) d c.self.inside.live.store) (sym kept)
    (core_after_refusal m Stands c.self.inside.history dead c.self.inside.live.store c.args.node o c.self.invariant.0 is gone)) in
    (core, subst (λ (d : List Bool). AreListed m Stands d c.self.inside.live.store.monitors c.self.inside.live.awake) (sym kept) c.self.invariant.1)

pub returns-then-kill-clause-legal : goal.returns-then-kill-clause-legal
returns-then-kill-clause-legal g c = (invariant_of-self g c).0.legal

pub returns-then-kill-clause-fits : goal.returns-then-kill-clause-fits
returns-then-kill-clause-fits g c =
    fits_history (g.M.Monitor.meaning (g.M.Monitor.definition c.self.inside.rules)) (g.M.Monitor.StandsFor c.self.inside.rules) c.push.new.self c.kill.new.self c.mourn.new.self (invariant_of-self g c).0

pub returns-else-kill-clause-legal : goal.returns-else-kill-clause-legal
returns-else-kill-clause-legal g c = (invariant_of-self-else-kill g c).0.legal

pub returns-else-kill-clause-fits : goal.returns-else-kill-clause-fits
returns-else-kill-clause-fits g c =
    fits_history (g.M.Monitor.meaning (g.M.Monitor.definition c.self.inside.rules)) (g.M.Monitor.StandsFor c.self.inside.rules) c.push-else-kill.new.self c.kill.new.self c.self.inside.live.store (invariant_of-self-else-kill g c).0
