use Rattle.std.proofs.Common.{◌+◌, take, length, get_or, sym, ap, ◌∙◌, append-nil, arith, true, false}
use Rattle.std.proofs.lemmas.List.{take_all, length-append}
use Rattle.jm_index.specs.Index.{asked_slots}
use Rattle.jm_store.specs.Moves.{is_marked, visited, asks_by}
use Rattle.jm_store.proofs.VisitLemmas.{visited_taken, visited_bound, are_visited, compatible_at}
use Rattle.jm_store.proofs.store.Store.reach.Goals as goal
use Rattle.jm_store.proofs.store.Store.reach.Goals.{then-asks+in_ok-compatible_into+in_ok-reach_slots, else-asks}

pub loop-domain-preserved : goal.loop-domain-preserved
loop-domain-preserved g c =
    let i = c.loop-domain.domain-index in
    let ds = c.deref-domain-items.result.now in
    let inv = rw (← c.self.view_is) at c.loop-domain.invariant in
    let b = c.args.event.now.binding.now in
    let pairs = c.self.inside.index.list in
    elim c.if-asks.branch [
      | then-asks+in_ok-compatible_into+in_ok-reach_slots w ↦
          let more = visited_taken (asks_by (is_marked c.args.event.now.status) c.self.inside.ending c.args.event.now.letter.0 c.args.event.now.binding.now) b pairs ds i true c.loop-domain-test.true (sym c.asks.ensures ∙ w.if-asks.true) in
          let slots = w.as_slice.ensures.value ∙ w.in_ok-compatible_into.ensures.slots in
          let step = rw (← c.self.view_is, slots) at w.in_ok-reach_slots.ensures.moves in
          let next = step (visited (asks_by (is_marked c.args.event.now.status) c.self.inside.ending c.args.event.now.letter.0 c.args.event.now.binding.now) b pairs (take i ds)) inv.moves in
          rw (← c.self.view_is, w.moves-is, w.steps-is, more) (record {
            moves = next;
            steps = omega (arith, length-append (visited (asks_by (is_marked c.args.event.now.status) c.self.inside.ending c.args.event.now.letter.0 c.args.event.now.binding.now) b pairs (take i ds)) (asked_slots (get_or ds i 0) b pairs), ap length slots, w.in_ok-reach_slots.ensures.steps, inv.steps);
          })
      | else-asks w ↦
          let more = visited_taken (asks_by (is_marked c.args.event.now.status) c.self.inside.ending c.args.event.now.letter.0 c.args.event.now.binding.now) b pairs ds i false c.loop-domain-test.true (sym c.asks.ensures ∙ w.if-asks.false) in
          rw (← c.self.view_is, w.moves-is, w.steps-is, more, append-nil (visited (asks_by (is_marked c.args.event.now.status) c.self.inside.ending c.args.event.now.letter.0 c.args.event.now.binding.now) b pairs (take i ds))) (record { moves = inv.moves; steps = inv.steps })
    ]

pub reach_slots-requires : goal.reach_slots-requires
reach_slots-requires g c =
    let closed = rw (← c.self.view_is) at c.requires.closed in
    let slots = c.as_slice.ensures.value ∙ c.in_ok-compatible_into.ensures.slots in
    record {
      letter = c.requires.letter;
      known = c.requires.known;
      compatible = rw (← c.self.view_is, slots) (compatible_at _ _ _ _ c.self.invariant.housed (c.self.invariant.settled closed));
    }

pub returns-in_err-compatible_into-clause-steps : goal.returns-in_err-compatible_into-clause-steps
returns-in_err-compatible_into-clause-steps g c =
    let closed = rw (← c.self.view_is) at c.requires.closed in
    let inv = rw (← c.self.view_is) at c.loop-domain.invariant in
    let items = c.deref-domain-items.ensures.value in
    let bound = visited_bound (asks_by (is_marked c.args.event.now.status) c.self.inside.ending c.args.event.now.letter.0 c.args.event.now.binding.now) c.args.event.now.binding.now _ _ _ c.loop-domain.domain-index c.self.invariant.housed (c.self.invariant.settled closed)
    (rw (← items) at c.self.invariant.domains) in
    rw (← c.self.view_is) (omega (arith, inv.steps, bound))

pub returns-in_err-reach_slots-clause-steps : goal.returns-in_err-reach_slots-clause-steps
returns-in_err-reach_slots-clause-steps g c =
    let i = c.loop-domain.domain-index in
    let ds = c.deref-domain-items.result.now in
    let b = c.args.event.now.binding.now in
    let pairs = c.self.inside.index.list in
    let closed = rw (← c.self.view_is) at c.requires.closed in
    let inv = rw (← c.self.view_is) at c.loop-domain.invariant in
    let items = c.deref-domain-items.ensures.value in
    let slots = c.as_slice.ensures.value ∙ c.in_ok-compatible_into.ensures.slots in
    let more = visited_taken (asks_by (is_marked c.args.event.now.status) c.self.inside.ending c.args.event.now.letter.0 c.args.event.now.binding.now) b pairs ds i true c.loop-domain-test.true (sym c.asks.ensures ∙ c.if-asks.true) in
    let bound = visited_bound (asks_by (is_marked c.args.event.now.status) c.self.inside.ending c.args.event.now.letter.0 c.args.event.now.binding.now) b _ _ _ (i + 1) c.self.invariant.housed (c.self.invariant.settled closed) (rw (← items) at c.self.invariant.domains) in
    rw (← c.self.view_is)
    (omega (arith, inv.steps, bound, ap length more, length-append (visited (asks_by (is_marked c.args.event.now.status) c.self.inside.ending c.args.event.now.letter.0 c.args.event.now.binding.now) b pairs (take i ds)) (asked_slots (get_or ds i 0) b pairs), ap length slots, c.in_err-reach_slots.ensures.steps))

pub returns-clause-moves : goal.returns-clause-moves
returns-clause-moves g c =
    let closed = rw (← c.self.view_is) at c.requires.closed in
    let inv = rw (← c.self.view_is) at c.loop-domain.invariant in
    let items = c.deref-domain-items.ensures.value in
    let whole = take_all c.loop-domain.domain-index c.deref-domain-items.result.now c.loop-domain-test.false in
    rw (← c.self.view_is) (record {
      slots = visited (asks_by (is_marked c.args.event.now.status) c.self.inside.ending c.args.event.now.letter.0 c.args.event.now.binding.now) c.args.event.now.binding.now c.self.inside.index.list c.deref-domain-items.result.now;
      visit = are_visited (asks_by (is_marked c.args.event.now.status) c.self.inside.ending c.args.event.now.letter.0 c.args.event.now.binding.now) c.args.event.now.binding.now _ _ _ c.self.invariant.housed (c.self.invariant.settled closed) (rw (← items) at c.self.invariant.domains);
      given = rw whole at inv.moves;
    })

pub returns-clause-steps : goal.returns-clause-steps
returns-clause-steps g c =
    let closed = rw (← c.self.view_is) at c.requires.closed in
    let inv = rw (← c.self.view_is) at c.loop-domain.invariant in
    let items = c.deref-domain-items.ensures.value in
    let bound = visited_bound (asks_by (is_marked c.args.event.now.status) c.self.inside.ending c.args.event.now.letter.0 c.args.event.now.binding.now) c.args.event.now.binding.now _ _ _ c.loop-domain.domain-index c.self.invariant.housed (c.self.invariant.settled closed)
    (rw (← items) at c.self.invariant.domains) in
    rw (← c.self.view_is) (omega (arith, inv.steps, bound))
