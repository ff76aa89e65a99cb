use Rattle.std.proofs.Common.{◌≡◌, inl, inr, List, [], ◌∷◌, true, refl, sym, ap, ◌∙◌, subst}
use Rattle.std.specs.Prelude.{Some, Contains}
use Rattle.jm_index.specs.Index.{Pair}
use Rattle.std.proofs.lemmas.Bool.{cases_Bool, false≢true}
use Rattle.jm_store.specs.declared.moves.Move.{Move}
use Rattle.jm_store.proofs.VisitLemmas.{was_none}
use Rattle.jm_store.proofs.FitLemmas.{are_paired}
use Rattle.jm_store.proofs.GivenLemmas.{one_pair}
use Rattle.jm_store.proofs.DirectLemmas.{one_of, some_is}
use Rattle.jm_store.proofs.PlacingLemmas.{placed_none, placed_next, placed_already}
use Rattle.jm_store.proofs.store.Store.place_one.Goals as goal

pub place-requires : goal.place-requires
place-requires g c =
    let slotless = was_none _ (sym c.if-is_some.ensures) in
    record { «open» = elim (cases_Bool c.args.self.now.is_open) [ inl is ↦ is | inr closed ↦ absurd (c.requires.slotted closed slotless) ] }

pub returns-then-is_some-clause-placed : goal.returns-then-is_some-clause-placed
returns-then-is_some-clause-placed g c =
    let step = c.args.step.now in
    let placed = placed_already c.args.self.now (step ∷ []) (one_pair (λ x y. (k : _) → x.slot ≡ Some k → y.slot ≡ Some k → ⊥) step) c.requires.leads c.requires.settled
    (λ move there none. some_is step.slot (sym c.if-is_some.ensures) (ap (λ (x : Move g.row.M-State.Denot). x.slot) (one_of step move there) ∙ none)) in
    record { still = refl; placed = placed }

pub returns-then-is_some-clause-paired : goal.returns-then-is_some-clause-paired
returns-then-is_some-clause-paired g c = rw (← c.self.view_is) (are_paired _ _ _ c.self.inside.index _ c.self.invariant.housed)

pub returns-in-Ok-clause-placed : goal.returns-in-Ok-clause-placed
returns-in-Ok-clause-placed g c =
    let step = c.args.step.now in
    let old = c.args.self.now in
    let none = was_none _ (sym c.if-is_some.ensures) in
    let placed = placed_next old old c.place.new.self (step ∷ []) [] [] [] step c.requires.settled (one_pair (λ x y. (k : _) → x.slot ≡ Some k → y.slot ≡ Some k → ⊥) step) c.requires.leads refl (λ k. refl) c.in-Ok.ensures.kept.monitors
    (placed_none old old (step ∷ []) refl (λ k. refl) c.requires.settled) _ (record { slot = c.in-Ok.slot; slotted = inr (none, c.in-Ok.ensures.placed); grown = refl }) in
    let here : old.is_open ≡ true = elim (cases_Bool old.is_open) [ inl is ↦ is | inr closed ↦ absurd (c.requires.slotted closed none) ] in
    record { still = c.in-Ok.ensures.«open» ∙ sym here; placed = placed }

pub returns-in-Ok-clause-paired : goal.returns-in-Ok-clause-paired
returns-in-Ok-clause-paired g c = rw (← c.self-2.view_is) (are_paired _ _ _ c.self-2.inside.index _ c.self-2.invariant.housed)

pub invariant_of-self : goal.invariant_of-self
invariant_of-self g c =
    let same = rw (← c.self-2.view_is) at c.in-Err.ensures.unchanged in
    let monitors = rw (← c.self-2.view_is) at c.in-Err.ensures.kept.monitors in
    record {
      housed = c.self-2.invariant.housed;
      domains = c.self-2.invariant.domains;
      settled = λ e pair there. let full = c.requires.settled pair (subst (λ (l : List Pair). Contains l pair) same there) in (full.0, monitors pair.slot ∙ full.1);
      room = λ e. absurd (false≢true e);
    }

pub returns-in-Err-clause-fits : goal.returns-in-Err-clause-fits
returns-in-Err-clause-fits g c = rw (← c.self-2.view_is) at c.in-Err.ensures.fits

pub returns-in-Err-clause-paired : goal.returns-in-Err-clause-paired
returns-in-Err-clause-paired g c = are_paired _ _ _ c.self-2.inside.index _ c.self-2.invariant.housed
