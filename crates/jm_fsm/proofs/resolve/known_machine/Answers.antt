use Rattle.std.proofs.Common.{◌≡◌, length, arith, refl, sym, ap, ◌∙◌, List, ℕ, Ok}
use Rattle.std.proofs.lemmas.Result.{err_from_is_err_and}
use Rattle.jm_events.specs.Events.{event_names}
use Rattle.jm_fsm.specs.Machines.{StateMachine}
use Rattle.jm_fsm.specs.Faults.{state_names, state_said, alias_said, with_part, machine_of}
use Rattle.jm_fsm.proofs.LoopLemmas.{each_ends, each_goes_on, each_refuses, first_refused}
use Rattle.jm_fsm.proofs.MadeLemmas.{is_machine, states_distinct, few_state_names}
use Rattle.jm_fsm.proofs.resolve.known_machine.Goals.{in-Declaration+in_ok-state-in-Declaration+in_ok-push-in-Declaration, in-Alias+in_ok-alias-in-Alias+in_ok-push-in-Alias}
use Rattle.jm_fsm.proofs.resolve.known_machine.Goals as goal

pub state_names-requires : goal.state_names-requires
state_names-requires c = states_distinct c.args.bytes.now c.args.parts.now c.requires.distinct

pub invariant_of-resolver : goal.invariant_of-resolver
invariant_of-resolver c = omega (arith, few_state_names c.args.bytes.now c.args.parts.now c.requires.states, ap (λ (l : List (List ℕ)). length l) c.in_ok-names.ensures.ok)

pub invariant_of-resolver-in-Alias : goal.invariant_of-resolver-in-Alias
invariant_of-resolver-in-Alias c = omega (arith, few_state_names c.args.bytes.now c.args.parts.now c.requires.states, ap (λ (l : List (List ℕ)). length l) c.in_ok-names.ensures.ok)

pub loop-part-init : goal.loop-part-init
loop-part-init c = rw (c.new-states.ensures.items, c.new-aliases.ensures.items) refl

pub returns-in_err-state-in-Declaration : goal.returns-in_err-state-in-Declaration
unfolding machine_of
returns-in_err-state-in-Declaration c =
    let bytes = c.args.bytes.now in
    let events = event_names c.args.table.now in
    let parts = c.args.parts.now in
    let states = state_names bytes parts in
    let machine : StateMachine = record { states = c.loop-part.states.items; aliases = c.loop-part.aliases.items } in
    let e = c.in_err-state-in-Declaration.field-0.0 in
    let p = err_from_is_err_and c.from_residual-in_err-state-in-Declaration.result c.from_residual-in_err-state-in-Declaration.ensures.1 in
    rw (p.1, p.2)
    (each_refuses (with_part bytes events states) machine parts c.loop-part.part-index _ c.loop-part.invariant c.part-item.result _ c.loop-part-test.true (sym c.part-item.is ∙ c.in-Declaration.is) e
    (first_refused (state_said bytes events states c.in-Declaration.name c.in-Declaration.transitions) _ e (rw (c.in_ok-names.ensures.ok, c.as_slice.ensures) at c.in_err-state-in-Declaration.ensures)))

pub returns-in_err-alias-in-Alias : goal.returns-in_err-alias-in-Alias
unfolding machine_of
returns-in_err-alias-in-Alias c =
    let bytes = c.args.bytes.now in
    let events = event_names c.args.table.now in
    let parts = c.args.parts.now in
    let states = state_names bytes parts in
    let machine : StateMachine = record { states = c.loop-part.states.items; aliases = c.loop-part.aliases.items } in
    let e = c.in_err-alias-in-Alias.field-0.0 in
    let p = err_from_is_err_and c.from_residual-in_err-alias-in-Alias.result c.from_residual-in_err-alias-in-Alias.ensures.1 in
    rw (p.1, p.2)
    (each_refuses (with_part bytes events states) machine parts c.loop-part.part-index _ c.loop-part.invariant c.part-item.result _ c.loop-part-test.true (sym c.part-item.is ∙ c.in-Alias.is) e
    (first_refused (alias_said bytes states c.in-Alias.name c.in-Alias.members) _ e (rw (c.in_ok-names.ensures.ok, c.as_slice-in-Alias.ensures) at c.in_err-alias-in-Alias.ensures)))

pub loop-part-preserved : goal.loop-part-preserved
loop-part-preserved c =
    let bytes = c.args.bytes.now in
    let events = event_names c.args.table.now in
    let parts = c.args.parts.now in
    let states = state_names bytes parts in
    let machine : StateMachine = record { states = c.loop-part.states.items; aliases = c.loop-part.aliases.items } in
    elim c.match-part.branch [
      | in-Declaration+in_ok-state-in-Declaration+in_ok-push-in-Declaration w ↦
          let said : state_said bytes events states w.in-Declaration.name w.in-Declaration.transitions ≡ Ok w.in_ok-state-in-Declaration.field-0 = rw (c.in_ok-names.ensures.ok, w.as_slice.ensures) at w.in_ok-state-in-Declaration.ensures in
          rw (w.states-is, w.aliases-is)
          (each_goes_on (with_part bytes events states) machine parts c.loop-part.part-index _ c.loop-part.invariant c.part-item.result _ c.loop-part-test.true (sym c.part-item.is ∙ w.in-Declaration.is) (record { states = w.push.new.self.items; aliases = c.loop-part.aliases.items }) (rw (said, w.in_ok-push-in-Declaration.ensures.items) refl))
      | in-Alias+in_ok-alias-in-Alias+in_ok-push-in-Alias w ↦
          let said : alias_said bytes states w.in-Alias.name w.in-Alias.members ≡ Ok w.in_ok-alias-in-Alias.field-0 = rw (c.in_ok-names.ensures.ok, w.as_slice-in-Alias.ensures) at w.in_ok-alias-in-Alias.ensures in
          rw (w.states-is, w.aliases-is)
          (each_goes_on (with_part bytes events states) machine parts c.loop-part.part-index _ c.loop-part.invariant c.part-item.result _ c.loop-part-test.true (sym c.part-item.is ∙ w.in-Alias.is) (record { states = c.loop-part.states.items; aliases = w.push-in-Alias.new.self.items }) (rw (said, w.in_ok-push-in-Alias.ensures.items) refl))
    ]

pub new-requires : goal.new-requires
new-requires c =
    let bytes = c.args.bytes.now in
    let events = event_names c.args.table.now in
    let parts = c.args.parts.now in
    let states = state_names bytes parts in
    let machine : StateMachine = record { states = c.loop-part.states.items; aliases = c.loop-part.aliases.items } in
    is_machine bytes events parts machine c.requires.some c.requires.aliases c.requires.names c.requires.distinct c.requires.states
    (each_ends (with_part bytes events states) machine parts c.loop-part.part-index _ c.loop-part.invariant c.loop-part-test.false)

pub returns : goal.returns
unfolding machine_of
returns c =
    let bytes = c.args.bytes.now in
    let events = event_names c.args.table.now in
    let parts = c.args.parts.now in
    let states = state_names bytes parts in
    let machine : StateMachine = record { states = c.loop-part.states.items; aliases = c.loop-part.aliases.items } in
    rw c.new.ensures (each_ends (with_part bytes events states) machine parts c.loop-part.part-index _ c.loop-part.invariant c.loop-part-test.false)
