use Rattle.std.proofs.Common.{◌≡◌, ℕ, ◌++◌, List, Option, [], true, false, take, get_or, sym, ap, ◌∙◌, subst, append-nil}
use Rattle.std.specs.Option.{option_to_list}
use Rattle.std.specs.Prelude.{MatchOption}
use Rattle.std.proofs.lemmas.Bool.{eq-eqb}
use Rattle.std.proofs.lemmas.List.{take_all}
use Rattle.jm_index.specs.Index.{asked_slots}
use Rattle.jm_model.specs.Bindings.{mask_of}
use Rattle.jm_store.specs.Moves.{visited, has_all}
use Rattle.jm_store.specs.Contents.{IsAbove}
use Rattle.jm_store.proofs.VisitLemmas.{visited_taken, only_above, none_above, above_by, if_some, was_none, not_all}
use Rattle.jm_store.proofs.store.Store.only_slot_above.Goals as goal
use Rattle.jm_store.proofs.store.Store.only_slot_above.Goals.{then-mask-domain+else-is_some, else-mask-domain}

pub loop-domain-preserved : goal.loop-domain-preserved
loop-domain-preserved g c =
    let i = c.loop-domain.domain-index in
    let ds = c.deref-domain-items.result.now in
    let b = c.args.binding.now in
    let pairs = c.args.self.now.index.list in
    let inv = c.loop-domain.invariant in
    elim c.if-mask-domain.branch [
      | then-mask-domain+else-is_some w ↦
          let more = visited_taken (has_all b) b pairs ds i true c.loop-domain-test.true (eq-eqb _ (mask_of b) (rw c.mask-mask.ensures.value at w.if-mask-domain.true)) in
          let before : visited (has_all b) b pairs (take i ds) ≡ [] =
          subst (λ (o : Option ℕ). MatchOption o (visited (has_all b) b pairs (take i ds) ≡ []) (λ (d : ℕ). visited (has_all b) b pairs (take i ds) ≡ asked_slots d b pairs)) (was_none _ (sym w.if-is_some.ensures)) inv in
          rw w.above-is (more ∙ ap (λ (l : List ℕ). l ++ asked_slots (get_or ds i 0) b pairs) before)
      | else-mask-domain w ↦
          let more = visited_taken (has_all b) b pairs ds i false c.loop-domain-test.true (not_all b _ (rw c.mask-mask.ensures.value at w.if-mask-domain.false)) in
          rw (w.above-is, more, append-nil (visited (has_all b) b pairs (take i ds))) inv
    ]

pub returns-in_default : goal.returns-in_default
returns-in_default g c =
    let closed = rw (← c.self.view_is) at c.requires.closed in
    let items = c.deref-domain-items.ensures.value in
    let b = c.args.binding.now in
    let ds = c.deref-domain-items.result.now in
    let pairs = c.self.inside.index.list in
    let inv = rw (← c.self.view_is, c.in_default.is) at c.loop-domain.invariant in
    let none : visited (has_all b) b pairs ds ≡ [] = ap (visited (has_all b) b pairs) (sym (take_all c.loop-domain.domain-index ds c.loop-domain-test.false)) ∙ inv in
    rw (← c.self.view_is)
    (none_above b _ _ _ c.self.inside.index _ ds c.self.invariant.housed (c.self.invariant.settled closed) (rw (← items) at c.self.invariant.domains) none)

pub returns : goal.returns
returns g c =
    let closed = rw (← c.self.view_is) at c.requires.closed in
    let items = c.deref-domain-items.ensures.value in
    let b = c.args.binding.now in
    let ds = c.deref-domain-items.result.now in
    let pairs = c.self.inside.index.list in
    let inv = rw (← c.self.view_is, c.in-Some.is) at c.loop-domain.invariant in
    let whole : visited (has_all b) b pairs ds ≡ asked_slots c.in-Some.domain b pairs =
    ap (visited (has_all b) b pairs) (sym (take_all c.loop-domain.domain-index ds c.loop-domain-test.false)) ∙ inv in
    let found = rw (← c.self.view_is) at c.only_slot_in.ensures in
    rw (← c.self.view_is)
    (if_some (λ (only : Option ℕ). asked_slots c.in-Some.domain b pairs ≡ option_to_list only) (IsAbove b _) c.only_slot_in.result
    (λ only is. above_by b _ only (visited (has_all b) b pairs ds) (whole ∙ is)
    (λ none. none_above b _ _ _ c.self.inside.index _ ds c.self.invariant.housed (c.self.invariant.settled closed) (rw (← items) at c.self.invariant.domains) none)
    (λ k one. only_above b _ _ _ c.self.inside.index _ ds k c.self.invariant.housed (c.self.invariant.settled closed) (rw (← items) at c.self.invariant.domains) one)) found)
