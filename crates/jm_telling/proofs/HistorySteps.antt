-- Each entry of a history of scripts is told by its line.
use Rattle.std.proofs.Common.{◌≡◌, ◌≢◌, ℕ, zero, suc, ◌<◌, ◌≤◌, ◌^◌, Bool, true, false, cond, List, [], ◌∷◌, ◌++◌, Some, None, map, filter, length, pow-suc, sym, ap, subst, ◌∙◌, arith}
use Rattle.std.specs.Prelude.{All, Contains, ◌==◌, ◌%◌, find, filter_map, unwrap_or, slice_get}
use Rattle.std.specs.List.{AllByRecursion}
use Rattle.std.proofs.Math.Nat.{mod-lt}
use Rattle.std.proofs.lemmas.Bool.Decides.{nat_tests}
use Rattle.std.proofs.lemmas.Option.{none-some, same_Some}
use Rattle.std.proofs.lemmas.List.{length-map}
use Rattle.std.proofs.lemmas.List.Elements.{All-from_recursion, recursion_from_All, All-weaker, All-contains, All-contains_itself}
use Rattle.jm_model.specs.Bindings.{object_at, objects_of, mask_of}
use Rattle.jm_model.specs.Meanings.{Meaning}
use Rattle.jm_model.specs.declared.binding.Binding.{Binding}
use Rattle.jm_model.specs.declared.firings.Firing.{Firing}
use Rattle.jm_model.specs.declared.step.Step.{Step}
use Rattle.jm_model.specs.declared.step.Step.TheVariants.{Event, Death, Pass}
use Rattle.jm_model.specs.declared.step.Outcome.{Outcome}
use Rattle.jm_model.specs.declared.step.Outcome.TheVariants.{Fired, Refused, Done, Kept, NoMemory}
use Rattle.jm_model.specs.declared.step.Entry.{Entry}
use Rattle.jm_semantics.specs.Histories.{is_dead}
use Rattle.jm_semantics.specs.Scripts.{is_for, steps_of, projection_of, IsInterleaving}
use Rattle.jm_semantics.specs.Legality.{IsReply, IsStepOf, IsLegalAfter, IsLegal}
use Rattle.jm_semantics.proofs.ListLemmas.{Contains-filter, Contains-map}
use Rattle.jm_events.specs.Events.{EventDefinition, event_names}
use Rattle.jm_events.proofs.NameLemmas.{at_place}
use Rattle.jm_script.specs.declared.script.Target.{Target}
use Rattle.jm_script.specs.declared.script.Target.TheVariants as target
use Rattle.jm_script.specs.declared.script.ScriptLine.{ScriptLine}
use Rattle.jm_script.specs.Projections.{spec_of, step_of, line_of, script_of}
use Rattle.jm_machine.specs.HandlerNames.{names_of}
use Rattle.jm_machine.specs.Meanings.{handler_count}
use Rattle.jm_machine.proofs.RuleLemmas.{count_names}
use Rattle.jm_print.specs.Texts.{IsPrintable}
use Rattle.jm_print.specs.Told.{BindsSome, HaveEight, FitsStep, IsTold, AreTold}
use Rattle.jm_inputs.specs.Specifications.{Specification, meaning_of}
use Rattle.jm_top.specs.Histories.{IsHistoryOf, lexicon}
use Rattle.jm_print.specs.Names.{IsNamedStep}
use Rattle.jm_print.proofs.PrintLemmas.{printable}
use Rattle.jm_telling.specs.Tellable.{NamesWithin, IsTellable}
use Rattle.jm_telling.proofs.TableMasks.{HasMasks, mask_within}
use Rattle.jm_telling.proofs.ScriptSteps.{HasObjects, IsLineIn}

-- ---- the steps of the scripts

-- each object of a step is one of so many
abbrev StepHas : ℕ → Step → Type 0
StepHas n (Event e b) = AllByRecursion (λ o. o < n) (objects_of b)
StepHas n (Death o) = o < n
StepHas n Pass = Unit {0}

within_has : (n : ℕ) (step : Step) → NamesWithin n step → StepHas n step
within_has n (Event e b) within = recursion_from_All (λ (o : ℕ). o < n) (objects_of b) within
within_has n (Death o) within = within
within_has n Pass within = tt

-- and its line fits 64 bits
abbrev IsStepIn : ℕ → ℕ × Step → Type 0
IsStepIn n s = StepHas n s.1 × (s.0 < 2 ^ 64)

target_has : (n : ℕ) (t : Target) → HasObjects n t → StepHas n (step_of t)
target_has n (target.Event spec letter b) has = has
target_has n (target.Death o) has = has
target_has n (target.Pass spec) has = tt

projected : (n number : ℕ) (ls : List ScriptLine) → AllByRecursion (IsLineIn n (2 ^ 64)) ls → AllByRecursion (IsStepIn n) (projection_of (script_of ls) number)
projected n number [] all = tt
projected n number (l ∷ ls) all = by_case (is_for number (spec_of l.target)) (projected n number ls all.1)
  where
    by_case : (b : Bool) → AllByRecursion (IsStepIn n) (projection_of (script_of ls) number)
        → AllByRecursion (IsStepIn n) (map (λ l. (l.line, l.step)) (cond b (line_of l ∷ filter (λ l. is_for number l.spec) (script_of ls)) (filter (λ l. is_for number l.spec) (script_of ls))))
    by_case true rest = ((target_has n l.target all.0.0, all.0.1), rest)
    by_case false rest = rest

all_projected : (n number : ℕ) (scripts : List (List ScriptLine)) → AllByRecursion (AllByRecursion (IsLineIn n (2 ^ 64))) scripts → AllByRecursion (AllByRecursion (IsStepIn n)) (map (λ script. projection_of (script_of script) number) scripts)
all_projected n number [] all = tt
all_projected n number (script ∷ scripts) all = (projected n number script all.0, all_projected n number scripts all.1)

-- what holds of each step of the lists holds of the steps of an interleaving
entry_of_lists : (P : ℕ × Step → Type 0) (lists : List (List (ℕ × Step))) (h : List Entry) → AllByRecursion (AllByRecursion P) lists → IsInterleaving h lists → (x : Entry) → Contains h x → P (x.line, x.step)
entry_of_lists P lists h all woven x among =
    let own = steps_of x.caller h in
    let caller : x.caller < length lists = All-contains (λ (y : Entry). y.caller < length lists) h x woven.callers among in
    let itself : (x.caller == x.caller) ≡ true = grind (arith, nat_tests) in
    let there : Contains own (x.line, x.step) =
    Contains-map (λ (y : Entry). (y.line, y.step)) (filter (λ (y : Entry). y.caller == x.caller) h) x (Contains-filter (λ (y : Entry). y.caller == x.caller) h x among itself) in
    All-contains P own (x.line, x.step) (All-from_recursion P own (at_place (AllByRecursion P) lists x.caller own all (woven.each x.caller caller))) there

-- ---- the steps of a legal history

steps_legal : (m : Meaning) (h g : List Entry) → IsLegalAfter m h g → AllByRecursion (λ x. IsStepOf m x.step) g
steps_legal m h [] legal = tt
steps_legal m h (x ∷ g) legal = (legal.0, steps_legal m (h ++ x ∷ []) g legal.2)

each_eight : (firings : List Firing) → AllByRecursion (λ f. length f.instance ≡ 8) firings → HaveEight firings
each_eight [] all = tt
each_eight (f ∷ firings) all = (all.0, each_eight firings all.1)

found_bound : (test : ℕ → Bool) (b : Binding) (o : ℕ) → find test (filter_map (λ x. x) b) ≡ Some o → BindsSome b
found_bound test [] o found = absurd (none-some o found)
found_bound test (None ∷ b) o found = found_bound test b o found
found_bound test (Some q ∷ b) o found = tt

reply_fits : (m : Meaning) (h : List Entry) (s : Step) (o : Outcome) → IsStepOf m s → IsReply m h s o → FitsStep s o
reply_fits m h (Event e b) (Fired firings) own reply =
    let eight : All (λ (f : Firing). length f.instance ≡ 8) firings =
    All-weaker (Contains firings) (λ (f : Firing). length f.instance ≡ 8) (λ f among. ((reply.1.exact f).0 among).instance.eight) firings (All-contains_itself firings) in
    (own.1, each_eight firings (recursion_from_All (λ (f : Firing). length f.instance ≡ 8) firings eight))
reply_fits m h (Event e b) (Refused o) own reply = (own.1, found_bound (is_dead h) b o reply)
reply_fits m h (Event e b) Done own reply = tt
reply_fits m h (Event e b) (Kept n) own reply = tt
reply_fits m h (Event e b) NoMemory own reply = tt
reply_fits m h (Death o) outcome own reply = tt
reply_fits m h Pass (Kept n) own reply =
    let small : reply.0 % 2 ^ 64 < 2 ^ 64 = mod-lt reply.0 (omega arith) in
    subst (λ (k : ℕ). k < 2 ^ 64) (sym reply.2) small
reply_fits m h Pass (Fired firings) own reply = tt
reply_fits m h Pass (Refused o) own reply = tt
reply_fits m h Pass Done own reply = tt
reply_fits m h Pass NoMemory own reply = tt

replies_fit : (m : Meaning) (h g : List Entry) → IsLegalAfter m h g → AllByRecursion (λ x. FitsStep x.step x.outcome) g
replies_fit m h [] legal = tt
replies_fit m h (x ∷ g) legal = (reply_fits m h x.step x.outcome legal.0 legal.1, replies_fit m (h ++ x ∷ []) g legal.2)

-- ---- the names of a step

-- what is bound is one of the first parameters, if the set of them holds no others, and one of the objects
bound_place : (b : Binding) (parameters objects p o : ℕ) → mask_of b < 2 ^ parameters → AllByRecursion (λ q. q < objects) (objects_of b) → object_at b p ≡ Some o → (p < parameters) × (o < objects)
bound_place [] parameters objects p o small all at = absurd cc
bound_place (None ∷ b) parameters objects zero o small all at = absurd cc
bound_place (None ∷ b) zero objects (suc p) o small all at = absurd (omega (arith, (bound_place b zero objects p o (omega (arith, small)) all at).0))
bound_place (None ∷ b) (suc n) objects (suc p) o small all at =
    let later = bound_place b n objects p o (omega (arith, small, pow-suc 2 n)) all at in
    (omega (arith, later.0), later.1)
bound_place (Some q ∷ b) zero objects p o small all at = absurd (omega (arith, small))
bound_place (Some q ∷ b) (suc n) objects zero o small all at = (omega arith, subst (λ (x : ℕ). x < objects) (same_Some q o at) all.0)
bound_place (Some q ∷ b) (suc n) objects (suc p) o small all at =
    let later = bound_place b n objects p o (omega (arith, small, pow-suc 2 n)) all.1 at in
    (omega (arith, later.0), later.1)

-- A specification whose letters have the sets of its events.
module _ (s : Specification) (objects : List (List ℕ)) (masks : s.rules.masks ≡ map (λ (e : EventDefinition). e.mask) s.table.events) (fit : HasMasks s.table) where
  step_named : (x : Step) → IsStepOf (meaning_of s) x → StepHas (length objects) x → IsNamedStep (lexicon objects s) x
  step_named (Event e b) own has =
      let many : length s.rules.masks ≡ length s.table.events = ap (λ (ms : List ℕ). length ms) masks ∙ length-map s.table.events (λ (d : EventDefinition). d.mask) in
      let names : length (event_names s.table) ≡ length s.table.events = length-map s.table.events (λ (d : EventDefinition). d.name) in
      let letter : e.0 < length s.table.events = subst (λ (n : ℕ). e.0 < n) many own.0 in
      let small : mask_of b < 2 ^ length s.table.parameters =
      subst (λ (n : ℕ). n < 2 ^ length s.table.parameters) (sym (own.2 ∙ ap (λ (ms : List ℕ). unwrap_or (slice_get ms e.0) 0) masks))
      (mask_within (2 ^ length s.table.parameters) s.table.events e.0 letter fit) in
      (subst (λ (n : ℕ). e.0 < n) (sym names) letter, λ p o at. bound_place b (length s.table.parameters) (length objects) p o small has at)
  step_named (Death o) own has = has
  step_named Pass own has = tt

  -- a legal history of it, whose steps name objects that are there
  module _ (h : List Entry) (legal : IsLegal (meaning_of s) h) (done : All (λ x. x.outcome ≢ NoMemory) h) (steps_in : (x : Entry) → Contains h x → IsStepIn (length objects) (x.line, x.step)) (callers_small : (x : Entry) → Contains h x → x.caller < 2 ^ 64) where
    legal_steps : All (λ x. IsStepOf (meaning_of s) x.step) h
    legal_steps = All-from_recursion (λ (x : Entry). IsStepOf (meaning_of s) x.step) h (steps_legal (meaning_of s) [] h legal)

    named_steps : All (λ x. IsNamedStep (lexicon objects s) x.step) h
    named_steps = All-weaker (Contains h) (λ (x : Entry). IsNamedStep (lexicon objects s) x.step)
        (λ x among. step_named x.step (All-contains (λ (y : Entry). IsStepOf (meaning_of s) y.step) h x legal_steps among) (steps_in x among).0) h (All-contains_itself h)

    printed : All (IsPrintable (lexicon objects s)) h
    printed =
        let few : handler_count s.rules.properties ≤ length (names_of s.rules) = omega (arith, count_names s.rules) in
        printable (lexicon objects s) (meaning_of s) few h named_steps done legal

    fitting : All (λ x. FitsStep x.step x.outcome) h
    fitting = All-from_recursion (λ (x : Entry). FitsStep x.step x.outcome) h (replies_fit (meaning_of s) [] h legal)

    entry_told : (x : Entry) → Contains h x → IsTold (lexicon objects s) x
    entry_told x among = record {
      printable = All-contains (IsPrintable (lexicon objects s)) h x printed among;
      fits = All-contains (λ (y : Entry). FitsStep y.step y.outcome) h x fitting among;
      caller = callers_small x among;
      line = (steps_in x among).1;
    }

    pub legal_told : AreTold (lexicon objects s) h
    legal_told = each h (recursion_from_All (IsTold (lexicon objects s)) h (All-weaker (Contains h) (IsTold (lexicon objects s)) entry_told h (All-contains_itself h)))
      where
        each : (g : List Entry) → AllByRecursion (IsTold (lexicon objects s)) g → AreTold (lexicon objects s) g
        each [] all = tt
        each (x ∷ g) all = (all.0, each g all.1)

  -- what is said of a legal history by itself
  pub tellable_told : (h : List Entry) → IsTellable (meaning_of s) (length objects) h → AreTold (lexicon objects s) h
  tellable_told h tellable =
      legal_told h tellable.legal tellable.done
      (λ x among. (within_has (length objects) x.step (All-contains (λ (y : Entry). NamesWithin (length objects) y.step) h x tellable.named among), All-contains (λ (y : Entry). y.line < 2 ^ 64) h x tellable.lines among))
      (λ x among. All-contains (λ (y : Entry). y.caller < 2 ^ 64) h x tellable.callers among)

  -- a history of scripts
  module _ (number : ℕ) (scripts : List (List ScriptLine)) (few_scripts : length scripts ≤ 16) (lines : AllByRecursion (AllByRecursion (IsLineIn (length objects) (2 ^ 64))) scripts) (h : List Entry) (is : IsHistoryOf number s scripts h) where
    script_steps : (x : Entry) → Contains h x → IsStepIn (length objects) (x.line, x.step)
    script_steps x among = entry_of_lists (IsStepIn (length objects)) (map (λ script. projection_of (script_of script) number) scripts) h (all_projected (length objects) number scripts lines) is.woven x among

    caller_small : (x : Entry) → Contains h x → x.caller < 2 ^ 64
    caller_small x among =
        let below = All-contains (λ (y : Entry). y.caller < length (map (λ script. projection_of (script_of script) number) scripts)) h x is.woven.callers among in
        let many = length-map scripts (λ script. projection_of (script_of script) number) in
        omega (arith, below, many, few_scripts)

    pub history_told : AreTold (lexicon objects s) h
    history_told = legal_told h is.legal is.woven.done script_steps caller_small
