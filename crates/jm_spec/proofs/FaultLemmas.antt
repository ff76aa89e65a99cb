-- No step's fault is that of the grammar.
use Rattle.std.proofs.Common.{ℕ, Bool, true, false, cond, ◌==◌, List, [], ◌∷◌, length, Option, Some, None, Result}
use Rattle.std.specs.Prelude.{nat_lt}
use Rattle.std.specs.List.{list_any}
use Rattle.std.specs.Option.{option_map_or}
use Rattle.std.specs.Str.{bytes_eq}
use Rattle.jm_model.specs.declared.fault.SpecError.{SpecError}
use Rattle.jm_model.specs.declared.fault.SpecFault.{SpecFault}
use Rattle.jm_model.specs.declared.fault.SpecFault.TheVariants.{DuplicateEvent, UnsupportedLogic}
use Rattle.jm_text.specs.declared.token.Token.{Token}
use Rattle.jm_events.specs.Events.{EventDefinitions, EventDefinition, event_named}
use Rattle.jm_reading.specs.Faults.{with_each, Refuses}
use Rattle.jm_reading.proofs.ReadLemmas.{IsOther, FailsOther, other_or, other_if, other_then, other_of}
use Rattle.jm_reading.proofs.FormulaLemmas.{refused_by}
use Rattle.jm_spec.specs.declared.head.Modifier.{Modifier}
use Rattle.jm_spec.specs.declared.head.Modifier.TheVariants.{FullBinding, Suffix, NoEffect, Unsupported}
use Rattle.jm_spec.specs.declared.events.Advice.{Advice}
use Rattle.jm_spec.specs.declared.events.Advice.TheVariants.{Known, Other}
use Rattle.jm_spec.specs.declared.events.Mention.{Mention}
use Rattle.jm_spec.specs.declared.property.Property.{Property}
use Rattle.jm_spec.specs.declared.frame.Frame.{Frame}
use Rattle.jm_spec.specs.declared.tree.Logic.{Logic}
use Rattle.jm_spec.specs.Spelling.{Spells}
use Rattle.jm_spec.specs.Faults.{modifier_fault, advice_or, advice_fault, property_fault, name_of, unless_known, logic_of, logic_fault, unless, with_param, with_params, with_names, with_mention, with_advice, table_of, frame_fault}
use Rattle.jm_spec.specs.Trees.{IsFaultOfTokens}

other_modifier : (ms : List Modifier) → IsOther (modifier_fault ms)
other_modifier [] = tt
other_modifier (FullBinding ∷ ms) = other_modifier ms
other_modifier (Suffix line ∷ ms) = other_modifier ms
other_modifier (NoEffect ∷ ms) = other_modifier ms
other_modifier (Unsupported line ∷ ms) = tt

other_advice_or : (a : Advice) (o : Option SpecFault) → IsOther o → IsOther (advice_or a o)
other_advice_or (Known names) o h = h
other_advice_or (Other line) o h = tt

other_advice : (es : List Mention) → IsOther (advice_fault es)
other_advice [] = tt
other_advice (e ∷ es) = other_advice_or e.advice _ (other_advice es)

other_property : (ps : List Property) → IsOther (property_fault ps)
other_property [] = tt
other_property (p ∷ ps) = other_if (nat_lt 16 (length (p ∷ ps))) _ _ tt tt

other_logic_of : (l : Option Logic) (line : ℕ) → IsOther (unless_known l (UnsupportedLogic line))
other_logic_of None line = tt
other_logic_of (Some l) line = tt

other_logic : (bytes : List ℕ) (ps : List Property) → IsOther (logic_fault bytes ps)
other_logic bytes [] = tt
other_logic bytes (p ∷ ps) = other_or (unless_known (logic_of bytes p.logic) (UnsupportedLogic p.logic.line)) _ (other_logic_of (logic_of bytes p.logic) p.logic.line) (other_logic bytes ps)

other_unless : (o : Option SpecFault) (t : EventDefinitions) → IsOther o → FailsOther (unless o t)
other_unless None t h = tt
other_unless (Some fault) t h = h

other_each : {A B : Type 0} (with_one : B → A → Result B SpecFault) → ((b : B) (a : A) → FailsOther (with_one b a)) → (b : B) (xs : List A) → FailsOther (with_each with_one b xs)
other_each with_one h b [] = tt
other_each with_one h b (x ∷ xs) = other_then (with_one b x) _ (h b x) (λ more. other_each with_one h more xs)

other_param : (t : EventDefinitions) (name : Option (List ℕ)) (line : ℕ) → FailsOther (with_param t name line)
other_param t None line = tt
other_param t (Some name) line = other_unless _ _ (other_if (list_any (bytes_eq name) t.parameters) _ _ tt (other_if (length t.parameters == 8) _ _ tt tt))

other_new : (same : Bool) (line : ℕ) → IsOther (cond same None (Some (DuplicateEvent line)))
other_new true line = tt
other_new false line = tt

other_known : (known : Option EventDefinition) (mask line : ℕ) (new : Option SpecFault) → IsOther new → IsOther (option_map_or (λ k. cond (k.mask == mask) None (Some (DuplicateEvent line))) known new)
other_known None mask line new h = h
other_known (Some k) mask line new h = other_new (k.mask == mask) line

other_mention : (t : EventDefinitions) (name : Option (List ℕ)) (mask : ℕ) (creation : Bool) (line : ℕ) → FailsOther (with_mention t name mask creation line)
other_mention t None mask creation line = tt
other_mention t (Some name) mask creation line = other_unless _ _ (other_known (event_named t name) mask line _ (other_if (length t.events == 32) _ _ tt tt))

other_advised : (bytes : List ℕ) (t : EventDefinitions) (e : Mention) (a : Advice) → FailsOther (with_advice bytes t e a)
other_advised bytes t e (Known names) = other_mention t (name_of bytes e.name) (with_names bytes t 0 names) e.creation e.name.line
other_advised bytes t e (Other line) = tt

other_table : (bytes : List ℕ) (params : List Token) (events : List Mention) → FailsOther (table_of bytes params events)
other_table bytes params events =
    other_then (with_params bytes _ params) _ (other_each _ (λ t p. other_param t (name_of bytes p) p.line) _ params) (λ t. other_each _ (λ t e. other_advised bytes t e e.advice) t events)

other_fault : (bytes : List ℕ) (frame : Frame) → IsOther (frame_fault bytes frame)
unfolding frame_fault
other_fault bytes frame =
    other_or (modifier_fault frame.modifiers) _ (other_modifier frame.modifiers)
    (other_or (advice_fault frame.events) _ (other_advice frame.events)
    (other_or (property_fault frame.properties) _ (other_property frame.properties)
    (other_or (logic_fault bytes frame.properties) _ (other_logic bytes frame.properties)
    (other_of (table_of bytes frame.params frame.events) (other_table bytes frame.params frame.events)))))

-- a fault of a frame is one of its tokens
pub refused_as : (bytes : List ℕ) (tokens : List Token) (frame : Frame) (e : SpecError) → Spells bytes tokens frame → Refuses (frame_fault bytes frame) e → IsFaultOfTokens bytes tokens e
refused_as bytes tokens frame e spelled h = refused_by (Spells bytes tokens) (frame_fault bytes) frame spelled (other_fault bytes frame) e h
