use Rattle.std.proofs.Common.{◌≡◌, [], ap}
use Rattle.std.specs.Prelude.{Option, Result, Ok, Err, IfOk}
use Rattle.std.proofs.lemmas.Result.{err_from_is_err_and}
use Rattle.jm_model.specs.declared.fault.SpecError.{SpecError}
use Rattle.jm_model.specs.declared.fault.SpecError.TheVariants.{Bad, NoMemory}
use Rattle.jm_model.specs.declared.fault.SpecFault.{SpecFault}
use Rattle.jm_reading.specs.Events.{reserved_event_fault}
use Rattle.jm_reading.specs.Faults.{or_else, fault_of, Refuses, Checks, Answers}
use Rattle.jm_fsm.specs.Faults.{is_grammar_word, aliases_fault, part_name_fault, duplicate_state_fault, states_fault, machine_of, first_fault}
use Rattle.jm_fsm.proofs.resolve.machine_of.Goals as goal

-- a step refuses, and so do all
refuses_first : (fault next : Option SpecFault) (e : SpecError) → Refuses fault e → Refuses (or_else fault next) e
refuses_first fault next NoMemory h = tt
refuses_first fault next (Bad f) h = ap (λ o. or_else o next) h

module _ {Y : Type 0} (made : Result Y SpecFault) where
  -- the last step answers what is made
  checks_made : (r : Result Y SpecError) → Answers r made → Checks r (fault_of made)
  checks_made (Ok y) h = ap fault_of h
  checks_made (Err NoMemory) h = tt
  checks_made (Err (Bad f)) h = ap fault_of h

  is_made : (r : Result Y SpecError) → Answers r made → IfOk r (λ y. made ≡ Ok y)
  is_made (Ok y) h = h
  is_made (Err e) h = tt

pub returns-in_err-check_aliases-clause-ok : goal.returns-in_err-check_aliases-clause-ok
returns-in_err-check_aliases-clause-ok c =
    let p = err_from_is_err_and c.from_residual.result c.from_residual.ensures.1 in
    rw p.1 tt

pub returns-in_err-check_aliases-clause-checked : goal.returns-in_err-check_aliases-clause-checked
unfolding first_fault
returns-in_err-check_aliases-clause-checked c =
    let p = err_from_is_err_and c.from_residual.result c.from_residual.ensures.1 in
    rw (p.1, p.2) (refuses_first (aliases_fault c.args.parts.now) _ c.in_err-check_aliases.field-0.0 c.in_err-check_aliases.ensures)

pub returns-in_err-check_event_names-clause-ok : goal.returns-in_err-check_event_names-clause-ok
returns-in_err-check_event_names-clause-ok c =
    let p = err_from_is_err_and c.from_residual-in_err-check_event_names.result c.from_residual-in_err-check_event_names.ensures.1 in
    rw p.1 tt

pub returns-in_err-check_event_names-clause-checked : goal.returns-in_err-check_event_names-clause-checked
unfolding first_fault
returns-in_err-check_event_names-clause-checked c =
    let p = err_from_is_err_and c.from_residual-in_err-check_event_names.result c.from_residual-in_err-check_event_names.ensures.1 in
    rw (p.1, p.2, c.in_ok-check_aliases.ensures)
    (refuses_first (reserved_event_fault is_grammar_word c.args.table.now.events) _ c.in_err-check_event_names.field-0.0 c.in_err-check_event_names.ensures.checked)

pub returns-in_err-check_part_names-clause-ok : goal.returns-in_err-check_part_names-clause-ok
returns-in_err-check_part_names-clause-ok c =
    let p = err_from_is_err_and c.from_residual-in_err-check_part_names.result c.from_residual-in_err-check_part_names.ensures.1 in
    rw p.1 tt

pub returns-in_err-check_part_names-clause-checked : goal.returns-in_err-check_part_names-clause-checked
unfolding first_fault
returns-in_err-check_part_names-clause-checked c =
    let p = err_from_is_err_and c.from_residual-in_err-check_part_names.result c.from_residual-in_err-check_part_names.ensures.1 in
    rw (p.1, p.2, c.in_ok-check_aliases.ensures, c.in_ok-check_event_names.ensures.checked)
    (refuses_first (part_name_fault c.args.bytes.now c.args.parts.now) _ c.in_err-check_part_names.field-0.0 c.in_err-check_part_names.ensures)

pub returns-in_err-check_duplicate_states-clause-ok : goal.returns-in_err-check_duplicate_states-clause-ok
returns-in_err-check_duplicate_states-clause-ok c =
    let p = err_from_is_err_and c.from_residual-in_err-check_duplicate_states.result c.from_residual-in_err-check_duplicate_states.ensures.1 in
    rw p.1 tt

pub returns-in_err-check_duplicate_states-clause-checked : goal.returns-in_err-check_duplicate_states-clause-checked
unfolding first_fault
returns-in_err-check_duplicate_states-clause-checked c =
    let p = err_from_is_err_and c.from_residual-in_err-check_duplicate_states.result c.from_residual-in_err-check_duplicate_states.ensures.1 in
    rw (p.1, p.2, c.in_ok-check_aliases.ensures, c.in_ok-check_event_names.ensures.checked, c.in_ok-check_part_names.ensures)
    (refuses_first (duplicate_state_fault c.args.bytes.now [] c.args.parts.now) _ c.in_err-check_duplicate_states.field-0.0 c.in_err-check_duplicate_states.ensures)

pub returns-in_err-check_duplicate_transitions-clause-ok : goal.returns-in_err-check_duplicate_transitions-clause-ok
returns-in_err-check_duplicate_transitions-clause-ok c =
    let p = err_from_is_err_and c.from_residual-in_err-check_duplicate_transitions.result c.from_residual-in_err-check_duplicate_transitions.ensures.1 in
    rw p.1 tt

pub returns-in_err-check_states-clause-ok : goal.returns-in_err-check_states-clause-ok
returns-in_err-check_states-clause-ok c =
    let p = err_from_is_err_and c.from_residual-in_err-check_states.result c.from_residual-in_err-check_states.ensures.1 in
    rw p.1 tt

pub returns-in_err-check_states-clause-checked : goal.returns-in_err-check_states-clause-checked
unfolding first_fault
returns-in_err-check_states-clause-checked c =
    let p = err_from_is_err_and c.from_residual-in_err-check_states.result c.from_residual-in_err-check_states.ensures.1 in
    rw (p.1, p.2, c.in_ok-check_aliases.ensures, c.in_ok-check_event_names.ensures.checked, c.in_ok-check_part_names.ensures, c.in_ok-check_duplicate_states.ensures, c.in_ok-check_duplicate_transitions.ensures)
    (refuses_first (states_fault c.args.parts.now) _ c.in_err-check_states.field-0.0 c.in_err-check_states.ensures)

pub known_machine-requires-clause-some : goal.known_machine-requires-clause-some
known_machine-requires-clause-some c = c.requires

pub known_machine-requires-clause-aliases : goal.known_machine-requires-clause-aliases
known_machine-requires-clause-aliases c = c.in_ok-check_aliases.ensures

pub known_machine-requires-clause-names : goal.known_machine-requires-clause-names
known_machine-requires-clause-names c = c.in_ok-check_part_names.ensures

pub known_machine-requires-clause-distinct : goal.known_machine-requires-clause-distinct
known_machine-requires-clause-distinct c = c.in_ok-check_duplicate_states.ensures

pub known_machine-requires-clause-states : goal.known_machine-requires-clause-states
known_machine-requires-clause-states c = c.in_ok-check_states.ensures

pub returns-clause-ok : goal.returns-clause-ok
returns-clause-ok c = is_made (machine_of c.args.bytes.now c.args.table.now c.args.parts.now) c.known_machine.result c.known_machine.ensures

pub returns-clause-checked : goal.returns-clause-checked
unfolding first_fault
returns-clause-checked c =
    rw (c.in_ok-check_aliases.ensures, c.in_ok-check_event_names.ensures.checked, c.in_ok-check_part_names.ensures, c.in_ok-check_duplicate_states.ensures, c.in_ok-check_duplicate_transitions.ensures, c.in_ok-check_states.ensures)
    (checks_made (machine_of c.args.bytes.now c.args.table.now c.args.parts.now) c.known_machine.result c.known_machine.ensures)
