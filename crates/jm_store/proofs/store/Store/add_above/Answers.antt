use Rattle.std.proofs.Common.{◌≡◌, ℕ, ◌++◌, List, true, false, sym, ap, ◌∙◌, append-nil, subst}
use Rattle.std.specs.Prelude.{Contains}
use Rattle.std.proofs.lemmas.Bool.{eq-eqb}
use Rattle.std.proofs.lemmas.List.{take_all}
use Rattle.jm_model.specs.Bindings.{mask_of}
use Rattle.jm_store.specs.Moves.{visited, has_all}
use Rattle.jm_store.proofs.VisitLemmas.{visited_taken, visited_above, are_visited, not_all}
use Rattle.jm_store.proofs.store.Store.add_above.Goals as goal
use Rattle.jm_store.proofs.store.Store.add_above.Goals.{then-mask-domain+in_ok-compatible_into+in_ok-extend_from_slice, else-mask-domain}

pub loop-domain-init : goal.loop-domain-init
loop-domain-init g c = c.requires.none

pub loop-domain-preserved : goal.loop-domain-preserved
loop-domain-preserved g c =
    let i = c.loop-domain.domain-index in
    let ds = c.deref-domain-items.result.now in
    let b = c.args.binding.now in
    let pairs = c.self.inside.index.list in
    let inv = c.loop-domain.invariant in
    elim c.if-mask-domain.branch [
      | then-mask-domain+in_ok-compatible_into+in_ok-extend_from_slice w ↦
          let more = visited_taken (has_all b) b pairs ds i true c.loop-domain-test.true (eq-eqb _ (mask_of b) (rw c.mask-mask.ensures.value at w.if-mask-domain.true)) in
          let slots = w.as_slice.ensures.value ∙ w.in_ok-compatible_into.ensures.slots in
          rw (w.above-is, more, ← slots) (w.in_ok-extend_from_slice.ensures.items ∙ ap (λ (l : List ℕ). l ++ w.as_slice.result.now) inv)
      | else-mask-domain w ↦
          let more = visited_taken (has_all b) b pairs ds i false c.loop-domain-test.true (not_all b _ (rw c.mask-mask.ensures.value at w.if-mask-domain.false)) in
          rw (w.above-is, more) (inv ∙ sym (append-nil _))
    ]

pub returns-clause-visit : goal.returns-clause-visit
returns-clause-visit g c =
    let closed = rw (← c.self.view_is) at c.requires.closed in
    let items = c.deref-domain-items.ensures.value in
    let b = c.args.binding.now in
    let ds = c.deref-domain-items.result.now in
    let pairs = c.self.inside.index.list in
    let whole : c.loop-domain.above.items ≡ visited (has_all b) b pairs ds = c.loop-domain.invariant ∙ ap (visited (has_all b) b pairs) (take_all c.loop-domain.domain-index ds c.loop-domain-test.false) in
    rw (← c.self.view_is, whole) (are_visited (has_all b) b _ pairs ds c.self.invariant.housed (c.self.invariant.settled closed) (rw (← items) at c.self.invariant.domains))

pub returns-clause-above : goal.returns-clause-above
returns-clause-above g c = λ k s has at.
    let closed = rw (← c.self.view_is) at c.requires.closed in
    let b = c.args.binding.now in
    let ds = c.deref-domain-items.result.now in
    let pairs = c.self.inside.index.list in
    let whole : c.loop-domain.above.items ≡ visited (has_all b) b pairs ds = c.loop-domain.invariant ∙ ap (visited (has_all b) b pairs) (take_all c.loop-domain.domain-index ds c.loop-domain-test.false) in
    visited_above b _ pairs ds c.self.invariant.housed (c.self.invariant.settled closed) k s (subst (λ (l : List ℕ). Contains l k) whole has) (rw (← c.self.view_is) at at)
