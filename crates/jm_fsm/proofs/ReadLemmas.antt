-- What a reader of a formula answers.
use Rattle.std.proofs.Common.{ℕ, ◌≡◌, Bool, true, false, List, [], ◌∷◌, Some, None, Result, Ok, Err, IfOk, IfErr}
use Rattle.jm_model.specs.declared.fault.SpecError.{SpecError}
use Rattle.jm_model.specs.declared.fault.SpecError.TheVariants.{Bad, NoMemory}
use Rattle.jm_model.specs.declared.fault.SpecFault.{SpecFault}
use Rattle.jm_model.specs.declared.fault.SpecFault.TheVariants.{Syntax}
use Rattle.jm_text.specs.declared.token.Token.{Token}
use Rattle.jm_events.specs.Names.{with_name}
use Rattle.jm_events.specs.Events.{EventDefinitions, event_names}
use Rattle.jm_fsm.specs.declared.formula.TransitionText.{TransitionText}
use Rattle.jm_fsm.specs.declared.formula.TransitionText.TheVariants.{On, Fallback}
use Rattle.jm_fsm.specs.declared.formula.Part.{Part}
use Rattle.jm_fsm.specs.declared.formula.Part.TheVariants.{Declaration, Alias}
use Rattle.jm_fsm.specs.Machines.{StateDefinition, AliasDefinition, StateMachine}
use Rattle.jm_reading.specs.Tokens.{name_of}
use Rattle.jm_reading.specs.Events.{letter_said}
use Rattle.jm_reading.proofs.ReadLemmas.{IsOther, FailsOther, other_or, other_if, other_event, other_then, other_name, other_of, other_each}
use Rattle.jm_fsm.specs.Faults.{name_token, is_grammar_word, part_name_fault, duplicate_state_fault, duplicate_transition_fault, part_transitions_fault, transitions_fault, destination_said, with_transition, state_said, alias_said, with_member, with_part, state_names, machine_of, first_fault}
use Rattle.jm_fsm.specs.Spelling.{Spells}
use Rattle.jm_fsm.specs.Rules.{formula_at}
use Rattle.jm_reading.specs.Answers.{FailsAt}
use Rattle.jm_reading.specs.Faults.{Checks}
use Rattle.jm_reading.proofs.FormulaLemmas as reading
use Rattle.jm_fsm.specs.Readings.{IsReadFrom, IsRefused}
use Rattle.jm_fsm.proofs.GrammarLemmas.{formula_sound, formula_none, one_formula}

other_part : (bytes : List ℕ) (ps : List Part) → IsOther (part_name_fault bytes ps)
other_part bytes [] = tt
other_part bytes (p ∷ ps) = other_if _ _ _ tt (other_part bytes ps)

other_state : (bytes : List ℕ) (names : List (List ℕ)) (ps : List Part) → IsOther (duplicate_state_fault bytes names ps)
other_state bytes names [] = tt
other_state bytes names (p ∷ ps) = other_if _ _ _ tt (other_state bytes (with_name names (name_of bytes (name_token p))) ps)

other_transition : (bytes : List ℕ) (events : List (List ℕ)) (b : Bool) (ts : List TransitionText) → IsOther (duplicate_transition_fault bytes events b ts)
other_transition bytes events b [] = tt
other_transition bytes events b (On event destination ∷ ts) = other_if _ _ _ tt (other_transition bytes (with_name events (name_of bytes event)) b ts)
other_transition bytes events b (Fallback word destination ∷ ts) = other_if _ _ _ tt (other_transition bytes events true ts)

other_transitions_of : (bytes : List ℕ) (p : Part) → IsOther (part_transitions_fault bytes p)
other_transitions_of bytes (Declaration name ts) = other_transition bytes [] false ts
other_transitions_of bytes (Alias name ms) = tt

other_transitions : (bytes : List ℕ) (ps : List Part) → IsOther (transitions_fault bytes ps)
other_transitions bytes [] = tt
other_transitions bytes (p ∷ ps) = other_or _ _ (other_transitions_of bytes p) (other_transitions bytes ps)

module _ (bytes : List ℕ) (events states : List (List ℕ)) where
  other_one : (s : StateDefinition) (t : TransitionText) → FailsOther (with_transition bytes events states s t)
  other_one s (On event destination) = other_then (letter_said bytes events event) _ (other_name _ event.line) (λ letter. other_then (destination_said bytes states destination) _ (other_name _ destination.line) (λ to. tt))
  other_one s (Fallback word destination) = other_then (destination_said bytes states destination) _ (other_name _ destination.line) (λ to. tt)

  other_member : (a : AliasDefinition) (t : Token) → FailsOther (with_member bytes states a t)
  other_member a t = other_then (destination_said bytes states t) _ (other_name _ t.line) (λ to. tt)

  other_in : (m : StateMachine) (p : Part) → FailsOther (with_part bytes events states m p)
  other_in m (Declaration name ts) = other_then (state_said bytes events states name ts) _ (other_each (with_transition bytes events states) other_one _ ts) (λ s. tt)
  other_in m (Alias name ms) = other_then (alias_said bytes states name ms) _ (other_each (with_member bytes states) other_member _ ms) (λ a. tt)

other_fault : (bytes : List ℕ) (table : EventDefinitions) (parts : List Part) → IsOther (first_fault bytes table parts)
unfolding first_fault machine_of
other_fault bytes table parts =
    other_or _ _ (other_if _ _ None tt tt)
    (other_or _ _ (other_event is_grammar_word table.events)
    (other_or _ _ (other_part bytes parts)
    (other_or _ _ (other_state bytes [] parts)
    (other_or _ _ (other_transitions bytes parts)
    (other_or _ _ (other_if _ _ None tt tt)
    (other_of _ (other_each (with_part bytes (event_names table) (state_names bytes parts)) (other_in bytes (event_names table) (state_names bytes parts)) (record { states = []; aliases = [] }) parts)))))))

module _ (bytes : List ℕ) (tokens : List Token) (table : EventDefinitions) (parts : List Part) (spelled : formula_at bytes tokens ≡ Some parts) where
  pub read_err : (r : Result StateMachine SpecError) → Checks r (first_fault bytes table parts) → IfErr r (IsRefused bytes tokens table)
  read_err (Ok m) h = tt
  read_err (Err e) h = reading.refused_by (Spells bytes tokens) (first_fault bytes table) parts (formula_sound bytes tokens parts spelled) (other_fault bytes table parts) e h

  pub read_ok : (r : Result StateMachine SpecError) → IfOk r (λ m. machine_of bytes table parts ≡ Ok m) → Checks r (first_fault bytes table parts) → IfOk r (IsReadFrom bytes tokens table)
  read_ok (Ok m) made h = (parts, formula_sound bytes tokens parts spelled, h, made)
  read_ok (Err e) made h = tt

-- nothing was read
pub read_none : (bytes : List ℕ) (tokens : List Token) (table : EventDefinitions) (e : SpecError) → FailsAt e (formula_at bytes tokens) → IsRefused bytes tokens table e
read_none bytes tokens table NoMemory h = tt
read_none bytes tokens table (Bad (Syntax line)) h = λ parts spelled. formula_none bytes tokens parts h spelled
read_none bytes tokens table (Bad _) h = absurd h

-- ---- one answer

module _ (bytes : List ℕ) (tokens : List Token) (table : EventDefinitions) where
  pub one_machine : (m n : StateMachine) → IsReadFrom bytes tokens table m → IsReadFrom bytes tokens table n → m ≡ n
  one_machine = reading.one_read (Spells bytes tokens) (first_fault bytes table) (one_formula bytes tokens) (machine_of bytes table)

  pub never_both : (m : StateMachine) (fault : SpecFault) → IsReadFrom bytes tokens table m → IsRefused bytes tokens table (Bad fault) → ⊥
  never_both = reading.never_both (Spells bytes tokens) (first_fault bytes table) (one_formula bytes tokens) (machine_of bytes table)
