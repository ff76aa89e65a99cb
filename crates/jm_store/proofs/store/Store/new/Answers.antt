use Rattle.std.proofs.Common.{[], inl, inr, ap}
use Rattle.std.proofs.lemmas.Bool.{both_ways}
use Rattle.jm_store.specs.Slots.{stored_in}
use Rattle.jm_store.proofs.EndingLemmas.{first_ended, none_ended}
use Rattle.jm_store.proofs.SparedLemmas.{spared_first, spared_none}
use Rattle.jm_store.proofs.StoreLemmas.{store_at_start}
use Rattle.jm_store.proofs.store.Store.new.Goals as goal

pub returns-then-cut-clause-holds : goal.returns-then-cut-clause-holds
returns-then-cut-clause-holds g c =
    let m = g.M.Monitor.meaning (g.M.Monitor.definition c.args.rules.now) in
    let Stands = g.M.Monitor.StandsFor c.args.rules.now in
    let none = ap stored_in c.vacant.ensures.monitors in
    let cut = (c.cut.ensures [] c.in_ok-state.ensures).0 c.if-cut.true in
    λ dead. store_at_start m Stands dead c.vacant.result (inr (none, cut)) c.vacant.ensures.marks (none_ended m Stands _ _ none) (spared_none m Stands _ _ none)

pub returns-clause-holds : goal.returns-clause-holds
returns-clause-holds g c =
    let m = g.M.Monitor.meaning (g.M.Monitor.definition c.args.rules.now) in
    let Stands = g.M.Monitor.StandsFor c.args.rules.now in
    let first = c.in_ok-store.ensures in
    let instance = c.empty-instance.ensures in
    λ dead.
    store_at_start m Stands dead c.in_ok-store.store (inl (c.in_ok-state.state, c.in_ok-state.ensures, rw c.empty-instance.ensures at first.stored)) first.marks (first_ended m Stands _ c.ending-letters.result _ _ first.stored instance first.ending c.ending-letters.ensures.quiet c.ending-letters.ensures.cut)
    (spared_first m Stands _ _ _ first.stored instance (λ w stands gone. both_ways c.cut.result c.if-cut.false ((c.cut.ensures w stands).1 gone)))

pub returns-then-cut-clause-fits : goal.returns-then-cut-clause-fits
returns-then-cut-clause-fits g c =
    λ dead. record { fits = c.vacant.ensures.fits dead; spared = (returns-then-cut-clause-holds g c dead).spared }

pub returns-clause-fits : goal.returns-clause-fits
returns-clause-fits g c =
    λ dead. record { fits = c.in_ok-store.ensures.fits dead; spared = (returns-clause-holds g c dead).spared }
