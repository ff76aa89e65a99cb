use Rattle.std.proofs.Common.{Some, refl}
use Rattle.std.specs.Prelude.{string_bytes}
use Rattle.std.proofs.lemmas.Result.{err_from_is_err_and}
use Rattle.jm_events.specs.Events.{event_names}
use Rattle.jm_reading.specs.Events.{letter_said}
use Rattle.jm_fsm.specs.Machines.{StateDefinition}
use Rattle.jm_fsm.specs.Faults.{destination_said, with_transition}
use Rattle.jm_fsm.proofs.LoopLemmas.{each_ends, each_goes_on, each_refuses, first_refused, next_refused}
use Rattle.jm_fsm.proofs.resolve.Resolver.state.Goals.{in-On+in_ok-letter-in-On+in_ok-destination-in-On+in_ok-push-in-On, in-Fallback+in_ok-destination-in-Fallback}
use Rattle.jm_fsm.proofs.resolve.Resolver.state.Goals as goal

pub loop-transition-init : goal.loop-transition-init
loop-transition-init c = rw (c.in_ok-from_str.ensures.ok, c.new.ensures.items, c.name_of.ensures) refl

pub returns-in_err-letter-in-On : goal.returns-in_err-letter-in-On
returns-in_err-letter-in-On c =
    let bytes = c.args.self.now.bytes.now in
    let events = event_names c.args.self.now.table.now in
    let states = c.args.self.now.states.now in
    let inside = c.loop-transition.state-inside in
    let state : StateDefinition = record { name = string_bytes inside.name; transitions = inside.transitions.items; fallback = inside.fallback } in
    let e = c.in_err-letter-in-On.field-0.0 in
    let p = err_from_is_err_and c.from_residual-in_err-letter-in-On.result c.from_residual-in_err-letter-in-On.ensures.1 in
    rw (p.1, p.2)
    (each_refuses (with_transition bytes events states) state c.args.transitions.now c.loop-transition.transition-index _ c.loop-transition.invariant _ _ c.loop-transition-test.true c.in-On.is e
    (first_refused (letter_said bytes events c.in-On.event) _ e c.in_err-letter-in-On.ensures))

pub returns-in_err-destination-in-On : goal.returns-in_err-destination-in-On
returns-in_err-destination-in-On c =
    let bytes = c.args.self.now.bytes.now in
    let events = event_names c.args.self.now.table.now in
    let states = c.args.self.now.states.now in
    let inside = c.loop-transition.state-inside in
    let state : StateDefinition = record { name = string_bytes inside.name; transitions = inside.transitions.items; fallback = inside.fallback } in
    let e = c.in_err-destination-in-On.field-0.0 in
    let p = err_from_is_err_and c.from_residual-in_err-destination-in-On.result c.from_residual-in_err-destination-in-On.ensures.1 in
    rw (p.1, p.2)
    (each_refuses (with_transition bytes events states) state c.args.transitions.now c.loop-transition.transition-index _ c.loop-transition.invariant _ _ c.loop-transition-test.true c.in-On.is e
    (next_refused (letter_said bytes events c.in-On.event) _ e c.in_ok-letter-in-On.letter c.in_ok-letter-in-On.ensures (first_refused (destination_said bytes states c.in-On.destination) _ e c.in_err-destination-in-On.ensures)))

pub returns-in_err-destination-in-Fallback : goal.returns-in_err-destination-in-Fallback
returns-in_err-destination-in-Fallback c =
    let bytes = c.args.self.now.bytes.now in
    let events = event_names c.args.self.now.table.now in
    let states = c.args.self.now.states.now in
    let inside = c.loop-transition.state-inside in
    let state : StateDefinition = record { name = string_bytes inside.name; transitions = inside.transitions.items; fallback = inside.fallback } in
    let e = c.in_err-destination-in-Fallback.field-0.0 in
    let p = err_from_is_err_and c.from_residual-in_err-destination-in-Fallback.result c.from_residual-in_err-destination-in-Fallback.ensures.1 in
    rw (p.1, p.2)
    (each_refuses (with_transition bytes events states) state c.args.transitions.now c.loop-transition.transition-index _ c.loop-transition.invariant _ _ c.loop-transition-test.true c.in-Fallback.is e
    (first_refused (destination_said bytes states c.in-Fallback.destination) _ e c.in_err-destination-in-Fallback.ensures))

pub loop-transition-preserved : goal.loop-transition-preserved
loop-transition-preserved c =
    let bytes = c.args.self.now.bytes.now in
    let events = event_names c.args.self.now.table.now in
    let states = c.args.self.now.states.now in
    let inside = c.loop-transition.state-inside in
    let state : StateDefinition = record { name = string_bytes inside.name; transitions = inside.transitions.items; fallback = inside.fallback } in
    elim c.match-transition.branch [
      | in-On+in_ok-letter-in-On+in_ok-destination-in-On+in_ok-push-in-On w ↦
          rw w.state-inside-is
          (each_goes_on (with_transition bytes events states) state c.args.transitions.now c.loop-transition.transition-index _ c.loop-transition.invariant _ _ c.loop-transition-test.true w.in-On.is (record { name = string_bytes inside.name; transitions = w.push.new.self.items; fallback = inside.fallback })
          (rw (w.in_ok-letter-in-On.ensures, w.in_ok-destination-in-On.ensures, w.in_ok-push-in-On.ensures.items) refl))
      | in-Fallback+in_ok-destination-in-Fallback w ↦
          rw w.state-inside-is
          (each_goes_on (with_transition bytes events states) state c.args.transitions.now c.loop-transition.transition-index _ c.loop-transition.invariant _ _ c.loop-transition-test.true w.in-Fallback.is (record { name = string_bytes inside.name; transitions = inside.transitions.items; fallback = Some w.in_ok-destination-in-Fallback.field-0 })
          (rw w.in_ok-destination-in-Fallback.ensures refl))
    ]

pub returns : goal.returns
returns c =
    let bytes = c.args.self.now.bytes.now in
    let events = event_names c.args.self.now.table.now in
    let states = c.args.self.now.states.now in
    let inside = c.loop-transition.state-inside in
    let state : StateDefinition = record { name = string_bytes inside.name; transitions = inside.transitions.items; fallback = inside.fallback } in
    each_ends (with_transition bytes events states) state c.args.transitions.now c.loop-transition.transition-index _ c.loop-transition.invariant c.loop-transition-test.false
