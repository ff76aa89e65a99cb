use Rattle.std.proofs.Common.{◌≡◌, ℕ, List, sym, ap, subst}
use Rattle.std.specs.Prelude.{Contains}
use Rattle.std.proofs.lemmas.Bool.{eq-eqb}
use Rattle.std.proofs.lemmas.List.{take_all}
use Rattle.jm_model.specs.Bindings.{mask_of}
use Rattle.jm_store.proofs.VisitLemmas.{not_all, mask_within}
use Rattle.jm_store.proofs.ShiftedLemmas.{AreEndsOf, ends_next, ends_passed}
use Rattle.jm_store.proofs.store.Store.ends_above.Goals as goal
use Rattle.jm_store.proofs.store.Store.ends_above.Goals.{then-mask-domain, else-mask-domain}

pub loop-domain-preserved : goal.loop-domain-preserved
loop-domain-preserved g c =
    let i = c.loop-domain.domain-index in
    let ds = c.deref-domain-items.result.now in
    let b = c.args.binding.now in
    let ending = c.args.self.now.ending in
    let inv = c.loop-domain.invariant in
    let same : c.self.inside.ending ≡ ending = ap (λ v. v.ending) c.self.view_is in
    elim c.if-mask-domain.branch [
      | then-mask-domain w ↦
          rw (w.letters-is, same)
          (ends_next b ending ds c.loop-domain.letters i c.loop-domain-test.true inv)
      | else-mask-domain w ↦
          rw w.letters-is
          (ends_passed b ending ds c.loop-domain.letters i c.loop-domain-test.true (not_all b _ (rw c.mask-mask.ensures.value at w.if-mask-domain.false)) inv)
    ]

pub returns : goal.returns
returns g c = λ k s at below e ends.
    let ds = c.deref-domain-items.result.now in
    let b = c.args.binding.now in
    let inv = subst (AreEndsOf b c.args.self.now.ending ds c.loop-domain.letters) (take_all c.loop-domain.domain-index ds c.loop-domain-test.false) c.loop-domain.invariant in
    let there = c.self.invariant.housed.paired k s (rw (← c.self.view_is) at at) in
    let listed = c.self.invariant.domains.listed (record { binding = s.instance; slot = k }) there in
    inv (mask_of s.instance) (subst (λ (l : List ℕ). Contains l (mask_of s.instance)) (sym c.deref-domain-items.ensures.value) listed) (eq-eqb _ (mask_of b) (mask_within b s.instance below)) e ends
