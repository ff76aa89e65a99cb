-- The parameters and the events of a table that was read have names of their own, and an event's parameters are some
-- of the table's.
use Rattle.std.proofs.Common.{◌≡◌, ℕ, ◌<◌, ◌^◌, Bool, true, false, cond, List, [], ◌∷◌, ◌++◌, Option, Some, None, Result, Ok, Err, map, length, refl, sym, ap, subst, ◌∙◌}
use Rattle.std.specs.Prelude.{◌&&◌, ◌==◌, nat_le}
use Rattle.std.specs.List.{list_any}
use Rattle.std.specs.Str.{bytes_eq}
use Rattle.std.proofs.lemmas.Option.{cond_some}
use Rattle.std.proofs.lemmas.List.{map-append}
use Rattle.jm_model.specs.declared.fault.SpecFault.{SpecFault}
use Rattle.jm_model.specs.declared.fault.SpecFault.TheVariants.{DuplicateParameter, TooMany}
use Rattle.jm_model.specs.declared.fault.Counted.TheVariants.{Parameters}
use Rattle.jm_text.specs.declared.token.Token.{Token}
use Rattle.jm_text.specs.Spans.{text_of}
use Rattle.jm_text.specs.Texts.{is_name}
use Rattle.jm_events.specs.Names.{with_name}
use Rattle.jm_events.specs.Events.{EventDefinition, EventDefinitions, event_names, parameter_fault, with_parameter, event_fault, after_mention, with_event}
use Rattle.jm_print.specs.Told.{IsName, AreNames}
use Rattle.jm_lines.proofs.WordLemmas.{both_right}
use Rattle.jm_spec.specs.declared.events.Advice.{Advice}
use Rattle.jm_spec.specs.declared.events.Advice.TheVariants.{Known, Other}
use Rattle.jm_spec.specs.declared.events.Mention.{Mention}
use Rattle.jm_reading.specs.Faults.{◌>>>◌}
use Rattle.jm_spec.specs.Faults.{name_of, unless, with_param, with_params, with_names, with_mention, with_advice, with_events, table_of}
use Rattle.jm_inputs.proofs.OneReadingLemmas.{same_ok}
use Rattle.jm_telling.proofs.NameLists.{no_names, name_more, name_mentioned, plain_token}
use Rattle.jm_telling.proofs.TableMasks.{HasMasks, mask_said, parameter_masks, same_after, event_masks}

-- a table whose parameters and events have names of their own, and whose events have some of its parameters
pub record HasTableNames (t : EventDefinitions) : Type 0 where
  pub parameters : AreNames t.parameters
  pub events : AreNames (event_names t)
  pub masks : HasMasks t

-- the name that a token says, if it says one
said_plain : (bytes : List ℕ) (token : Token) (name : List ℕ) → name_of bytes token ≡ Some name → IsName name
unfolding name_of
said_plain bytes token name e =
    let said = cond_some (nat_le token.start token.end && nat_le token.end (length bytes) && is_name bytes token) (text_of bytes token) name e in
    subst IsName said.1 (plain_token bytes token (both_right (nat_le token.start token.end && nat_le token.end (length bytes)) _ said.0))

-- the table before the last step
step_before : (r : Result EventDefinitions SpecFault) (f : EventDefinitions → Result EventDefinitions SpecFault) (u : EventDefinitions) → r >>> f ≡ Ok u → (x : EventDefinitions) × (r ≡ Ok x) × (f x ≡ Ok u)
step_before (Ok x) f u e = (x, refl, e)
step_before (Err fault) f u e = absurd cc

unless_made : (fault : Option SpecFault) (t u : EventDefinitions) → unless fault t ≡ Ok u → t ≡ u
unless_made None t u e = same_ok e
unless_made (Some fault) t u e = absurd cc

-- ---- parameters

parameter_named : (t u : EventDefinitions) (name : List ℕ) (line : ℕ) → HasTableNames t → IsName name → unless (parameter_fault t name line) (with_parameter t name) ≡ Ok u → HasTableNames u
parameter_named t u name line before plain e = by_case (list_any (bytes_eq name) t.parameters) refl e
  where
    by_case : (b : Bool) → list_any (bytes_eq name) t.parameters ≡ b → unless (cond b (Some (DuplicateParameter line)) (cond (length t.parameters == 8) (Some (TooMany Parameters)) None)) (with_parameter t name) ≡ Ok u → HasTableNames u
    by_case true known e = absurd cc
    by_case false new e =
        subst HasTableNames (unless_made (cond (length t.parameters == 8) (Some (TooMany Parameters)) None) (with_parameter t name) u e)
        (record { parameters = name_more t.parameters name new before.parameters plain; events = before.events; masks = parameter_masks t name before.masks })

said_parameter : (t u : EventDefinitions) (said : Option (List ℕ)) (line : ℕ) → ((name : List ℕ) → said ≡ Some name → IsName name) → HasTableNames t → with_param t said line ≡ Ok u → HasTableNames u
said_parameter t u None line plain before e = subst HasTableNames (same_ok e) before
said_parameter t u (Some name) line plain before e = parameter_named t u name line before (plain name refl) e

parameters_named : (bytes : List ℕ) (ps : List Token) (t u : EventDefinitions) → HasTableNames t → with_params bytes t ps ≡ Ok u → HasTableNames u
parameters_named bytes [] t u before e = subst HasTableNames (same_ok e) before
parameters_named bytes (p ∷ ps) t u before e =
    let step = step_before (with_param t (name_of bytes p) p.line) (λ more. with_params bytes more ps) u e in
    parameters_named bytes ps step.0 u (said_parameter t step.0 (name_of bytes p) p.line (said_plain bytes p) before step.1) step.2

-- ---- events

same_names : (e : EventDefinition) (events : List EventDefinition) → map (λ (x : EventDefinition). x.name) (map (after_mention e) events) ≡ map (λ (x : EventDefinition). x.name) events
same_names e [] = refl
same_names e (x ∷ events) = ap (λ (n : List ℕ). n ∷ map (λ (y : EventDefinition). y.name) (map (after_mention e) events)) (same_after (λ (d : EventDefinition). d.name) (λ d c. refl) e x) ∙ ap (λ (ns : List (List ℕ)). x.name ∷ ns) (same_names e events)

-- the names after a mention of an event
names_mentioned : (t : EventDefinitions) (e : EventDefinition) → event_names (with_event t e) ≡ with_name (event_names t) e.name
names_mentioned t e = by_case (list_any (bytes_eq e.name) (event_names t))
  where
    by_case : (b : Bool) → map (λ (x : EventDefinition). x.name) (cond b (map (after_mention e) t.events) (t.events ++ e ∷ [])) ≡ cond b (event_names t) (event_names t ++ e.name ∷ [])
    by_case true = same_names e t.events
    by_case false = map-append (λ (x : EventDefinition). x.name) t.events (e ∷ [])

event_named : (t u : EventDefinitions) (e : EventDefinition) → HasTableNames t → IsName e.name → e.mask < 2 ^ length t.parameters → unless (event_fault t e) (with_event t e) ≡ Ok u → HasTableNames u
event_named t u e before plain small made =
    subst HasTableNames (unless_made (event_fault t e) (with_event t e) u made)
    (record { parameters = before.parameters; events = subst AreNames (sym (names_mentioned t e)) (name_mentioned (event_names t) e.name before.events plain); masks = event_masks t e before.masks small })

said_event : (t u : EventDefinitions) (said : Option (List ℕ)) (mask : ℕ) (creation : Bool) (line : ℕ) → ((name : List ℕ) → said ≡ Some name → IsName name) → mask < 2 ^ length t.parameters → HasTableNames t → with_mention t said mask creation line ≡ Ok u → HasTableNames u
said_event t u None mask creation line plain small before e = subst HasTableNames (same_ok e) before
said_event t u (Some name) mask creation line plain small before e = event_named t u (record { name = name; mask = mask; creation = creation; line = line }) before (plain name refl) small e

advice_named : (bytes : List ℕ) (t u : EventDefinitions) (m : Mention) (advice : Advice) → HasTableNames t → with_advice bytes t m advice ≡ Ok u → HasTableNames u
advice_named bytes t u m (Known names) before e = said_event t u (name_of bytes m.name) (with_names bytes t 0 names) m.creation m.name.line (said_plain bytes m.name) (mask_said bytes t names) before e
advice_named bytes t u m (Other line) before e = subst HasTableNames (same_ok e) before

events_named : (bytes : List ℕ) (ms : List Mention) (t u : EventDefinitions) → HasTableNames t → with_events bytes t ms ≡ Ok u → HasTableNames u
events_named bytes [] t u before e = subst HasTableNames (same_ok e) before
events_named bytes (m ∷ ms) t u before e =
    let step = step_before (with_advice bytes t m m.advice) (λ more. with_events bytes more ms) u e in
    events_named bytes ms step.0 u (advice_named bytes t step.0 m m.advice before step.1) step.2

-- the table of a frame
pub table_names : (bytes : List ℕ) (params : List Token) (events : List Mention) (u : EventDefinitions) → table_of bytes params events ≡ Ok u → HasTableNames u
table_names bytes params events u e =
    let step = step_before (with_params bytes (record { parameters = []; events = [] }) params) (λ t. with_events bytes t events) u e in
    events_named bytes events step.0 u (parameters_named bytes params (record { parameters = []; events = [] }) step.0 (record { parameters = no_names; events = no_names; masks = tt }) step.1) step.2
