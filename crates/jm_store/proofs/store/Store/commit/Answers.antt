use Rattle.std.proofs.Common.{◌≡◌, inl, inr, length, sym, ap, ◌∙◌, arith}
use Rattle.std.proofs.lemmas.Grind.{common_steps}
use Rattle.std.proofs.lemmas.Bool.{false≢true}
use Rattle.jm_store.specs.Moves.{after_moves}
use Rattle.jm_store.proofs.CommitLemmas.{after_none, after_push, apart_front, leads_on, filled_on, unplanned}
use Rattle.jm_store.proofs.FitLemmas.{housed_fits}
use Rattle.jm_store.proofs.StoreLemmas.{store_after_plan}
use Rattle.jm_store.proofs.store.Store.commit.Goals as goal

pub loop-step-preserved : goal.loop-step-preserved
loop-step-preserved g c =
    let inv = rw c.in-Some.ensures.items at c.loop-step.invariant in
    let carried = c.carry_out.ensures in
    let rest = c.pop.new.self.items in
    let step = c.in-Some.step in
    record {
      open_now = carried.done.still ∙ inv.open_now;
      monitors = ap (after_moves rest) carried.done.monitors ∙ sym (after_push rest step c.loop-step.self.monitors) ∙ inv.monitors;
      marks = carried.done.marks ∙ inv.marks;
      ending = carried.done.ending ∙ inv.ending;
      dropped = carried.done.dropped ∙ inv.dropped;
      fits = λ dead fits. carried.fits dead (inv.fits dead fits);
      apart = apart_front rest step inv.apart;
      leads = leads_on c.loop-step.self c.carry_out.new.self rest step carried.bindings carried.slots carried.within inv.apart inv.leads carried.done.monitors carried.done.index;
      filled = filled_on c.loop-step.self c.carry_out.new.self rest step carried.bindings carried.slots carried.within inv.apart inv.leads carried.done.monitors carried.done.index inv.filled;
    }

pub invariant_of-self : goal.invariant_of-self
invariant_of-self g c =
    let none : length c.loop-step.moves.items ≡ 0 = grind (arith, common_steps) in
    let filled = rw (← c.self.view_is) at c.loop-step.invariant.filled in
    record {
      housed = c.self.invariant.housed;
      domains = c.self.invariant.domains;
      settled = λ e pair there. elim (filled pair there) [ inl full ↦ (full.0, full.1) | inr planned ↦ absurd (unplanned c.loop-step.moves.items pair none planned) ];
      room = λ e. absurd (false≢true e);
    }

pub returns-clause-fits : goal.returns-clause-fits
returns-clause-fits g c =
    let fits = rw (← c.self.view_is) at c.loop-step.invariant.fits in
    let same = rw (← c.self.view_is) at c.loop-step.invariant.marks in
    let added = c.add_mark.ensures in
    λ dead fit below.
    housed_fits _ _ _ _ _ dead c.self.invariant.housed (fits dead fit.index)
    (λ b there. elim ((added b).0 there) [
      | inl before ↦ fit.marks b (rw same at before)
      | inr is ↦ rw is below
    ])

pub returns-clause-carried : goal.returns-clause-carried
returns-clause-carried g c =
    let none : length c.loop-step.moves.items ≡ 0 = grind (arith, common_steps) in
    let after = rw (← c.self.view_is) at c.loop-step.invariant.monitors in
    let same = rw (← c.self.view_is) at c.loop-step.invariant.marks in
    record {
      monitors = sym (after_none c.loop-step.moves.items _ none) ∙ after;
      marks = rw (← same) c.add_mark.ensures;
      ending = rw (← c.self.view_is) at c.loop-step.invariant.ending;
      dropped = rw (← c.self.view_is) at c.loop-step.invariant.dropped;
    }

pub returns-clause-works : goal.returns-clause-works
returns-clause-works g c =
    let carried = returns-clause-carried g c in
    λ rules trace dead letter plan.
    store_after_plan (g.M.Monitor.meaning (g.M.Monitor.definition rules)) (g.M.Monitor.StandsFor rules) trace dead letter c.args.self.now _ c.args.plan plan carried.monitors carried.marks carried.ending carried.dropped
