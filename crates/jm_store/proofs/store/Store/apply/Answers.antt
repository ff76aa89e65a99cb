use Rattle.std.proofs.Common.{◌≡◌, length, refl, sym, ap, ◌∙◌, arith}
use Rattle.std.proofs.lemmas.Grind.{common_steps}
use Rattle.std.proofs.lemmas.List.Elements.{Contains-push}
use Rattle.jm_store.specs.Moves.{after_moves}
use Rattle.jm_store.specs.Contents.{Contents}
use Rattle.jm_store.proofs.CommitLemmas.{after_none, after_push, apart_front, leads_on}
use Rattle.jm_store.proofs.FitLemmas.{housed_fits}
use Rattle.jm_store.proofs.store.Store.apply.Goals as goal

pub follow_moves-requires : goal.follow_moves-requires
follow_moves-requires g c = rw (c.as_slice-2.ensures.value, c.end_fewer.ensures.unchanged) (record { apart = c.requires.ready.apart; leads = c.requires.ready.leads })

pub loop-step-init : goal.loop-step-init
loop-step-init g c = record {
  closed = rw c.end_fewer.ensures.unchanged c.requires.closed;
  monitors = refl;
  marks = refl;
  dropped = refl;
  fits = λ dead fits. fits;
  fewer = λ e d ends. ends;
  ended = rw c.as_slice.ensures.value at c.end_fewer.ensures.ended;
  apart = c.requires.ready.apart;
  leads = rw c.end_fewer.ensures.unchanged c.requires.ready.leads;
}

pub carry_out-requires : goal.carry_out-requires
carry_out-requires g c = λ k slot.
    let items = c.in-Some.ensures.items in
    let leads = rw items at c.loop-step.invariant.leads in
    leads c.in-Some.step k (Contains-push c.pop.new.self.items c.in-Some.step) slot

pub loop-step-preserved : goal.loop-step-preserved
loop-step-preserved g c =
    let inv = rw c.in-Some.ensures.items at c.loop-step.invariant in
    let carried = c.carry_out.ensures in
    let rest = c.pop.new.self.items in
    let step = c.in-Some.step in
    record {
      closed = carried.done.still ∙ inv.closed;
      monitors = ap (after_moves rest) carried.done.monitors ∙ sym (after_push rest step c.loop-step.self.monitors) ∙ inv.monitors;
      marks = carried.done.marks ∙ inv.marks;
      dropped = carried.done.dropped ∙ inv.dropped;
      fits = λ dead fits. carried.fits dead (inv.fits dead fits);
      fewer = rw carried.done.ending inv.fewer;
      ended = rw carried.done.ending inv.ended;
      apart = apart_front rest step inv.apart;
      leads = leads_on c.loop-step.self c.carry_out.new.self rest step carried.bindings carried.slots carried.within inv.apart inv.leads carried.done.monitors carried.done.index;
    }

pub returns-clause-applied : goal.returns-clause-applied
returns-clause-applied g c =
    let S = g.row.M-State.Denot in
    let none : length c.loop-step.moves.items ≡ 0 = grind (arith, common_steps) in
    let inv = c.loop-step.invariant in
    let same = c.end_fewer.ensures.unchanged in
    let whole = c.give_moves.ensures in
    let marks = inv.marks ∙ ap (λ (s : Contents S). s.marks) same in
    rw whole (record {
      closed = inv.closed;
      monitors = sym (after_none c.loop-step.moves.items c.loop-step.self.monitors none) ∙ inv.monitors ∙ ap (λ (s : Contents S). after_moves c.args.moves.items s.monitors) same;
      marks = marks;
      dropped = inv.dropped ∙ ap (λ (s : Contents S). s.index.dropped) same;
      fits = λ dead fit.
          let index = inv.fits dead (rw same fit.index) in
          rw (← c.self-2.view_is) (housed_fits _ _ _ _ _ dead c.self-2.invariant.housed (rw (← c.self-2.view_is) at index) (rw (← c.self-2.view_is) at (rw (sym marks) at fit.marks)));
      fewer = λ e d ends. c.end_fewer.ensures.fewer e d (inv.fewer e d ends);
      ended = inv.ended;
    })

pub returns-clause-listed : goal.returns-clause-listed
returns-clause-listed g c = λ dead listed.
    let S = g.row.M-State.Denot in
    let m = g.M.Monitor.meaning (g.M.Monitor.definition c.args.rules.now) in
    let Stands = g.M.Monitor.StandsFor c.args.rules.now in
    let none : length c.loop-step.moves.items ≡ 0 = grind (arith, common_steps) in
    let same = c.end_fewer.ensures.unchanged in
    let monitors = ap (λ (s : Contents S). s.monitors) same in
    let after = sym (after_none c.loop-step.moves.items c.loop-step.self.monitors none) ∙ c.loop-step.invariant.monitors in
    let followed = rw c.as_slice-2.ensures.value at c.follow_moves.ensures in
    rw (c.give_moves.ensures, after) (followed c.args.rules.now dead (rw monitors listed))
