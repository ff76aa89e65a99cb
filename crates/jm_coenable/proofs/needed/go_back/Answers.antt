use Rattle.std.proofs.Common.{ℕ, ◌<◌, ◌≤◌, ◌+◌, ◌-◌, inl, inr, List, sym, subst, arith}
use Rattle.std.proofs.lemmas.Bool.Decides.{eqb_tells}
use Rattle.jm_coenable.specs.Rounds.{AreNeeded, IsPart, IsClosedState, AreClosedStates}
use Rattle.jm_coenable.proofs.SetLemmas.{part_map, part_then}
use Rattle.jm_coenable.proofs.needed.go_back.Goals as goal

pub loop-done-preserved : goal.loop-done-preserved
loop-done-preserved c =
    let t = c.args.table.now in let g = c.args.goal.now in let v = c.args.events.now in
    let here = t.states - 1 - c.loop-done.done in
    part_then (AreNeeded t g v) (λ (sets : List (List ℕ)). (state : ℕ) → state < t.states → t.states ≤ state + c.loop-done.done → IsClosedState t g v state sets)
    (IsClosedState t g v here) (λ (sets : List (List ℕ)). (state : ℕ) → state < t.states → t.states ≤ state + (c.loop-done.done + 1) → IsClosedState t g v state sets)
    c.args.needed.now.items c.loop-done.needed.items c.leave-more.new.needed.items c.loop-done.changed c.leave-more.result c.loop-done.invariant
    (subst (λ (n : ℕ). IsPart (AreNeeded t g v) (IsClosedState t g v (n - 1 - c.loop-done.done)) c.loop-done.needed.items c.leave-more.new.needed.items c.leave-more.result)
    c.len-states.ensures.value c.leave-more.ensures)
    (λ before closed state lt late. elim (eqb_tells state here) [
      | inl same ↦ subst (λ (s : ℕ). IsClosedState t g v s c.leave-more.new.needed.items) (sym same.1) closed
      | inr differs ↦ before state lt (omega (arith, late, lt, differs.1))
    ])

pub returns : goal.returns
returns c =
    let t = c.args.table.now in let g = c.args.goal.now in let v = c.args.events.now in
    part_map (AreNeeded t g v) (λ (sets : List (List ℕ)). (state : ℕ) → state < t.states → t.states ≤ state + c.loop-done.done → IsClosedState t g v state sets) (AreClosedStates t g v)
    c.args.needed.now.items c.loop-done.needed.items c.loop-done.changed c.loop-done.invariant (λ closed state lt. closed state lt (omega (arith, c.len-states.ensures.value)))
