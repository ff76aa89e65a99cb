-- Why a command stops before its text is written.
use Rattle.std.proofs.Common.{◌≡◌, ◌+◌, ◌≤◌, ℕ, inl, inr, Bool, true, false, List, [], ◌∷◌, ◌++◌, length, Option, Some, None, Result, IfOk, refl, sym, ap, subst, ◌∙◌}
use Rattle.std.specs.Prelude.{All, map, is_some, option_map}
use Rattle.std.proofs.lemmas.Bool.{false≢true}
use Rattle.std.proofs.lemmas.List.{length-map}
use Rattle.std.proofs.lemmas.List.Elements.{All-nil, All-cons, All-head, All-tail}
use Rattle.jm_model.specs.declared.fault.SpecFault.{SpecFault}
use Rattle.jm_model.specs.declared.fault.SpecFault.TheVariants.{DuplicateSpec}
use Rattle.jm_events.specs.Names.{number_of}
use Rattle.jm_text.specs.declared.token.Token.{Token}
use Rattle.jm_events.specs.Events.{EventDefinitions}
use Rattle.jm_reading.specs.Faults.{or_else}
use Rattle.jm_spec.specs.declared.tree.Logic.{Logic}
use Rattle.jm_spec.specs.declared.tree.Logic.TheVariants.{Fsm, Ere, Cfg, Ptltl}
use Rattle.jm_spec.specs.Trees.{PropertyFacts, properties_of}
use Rattle.jm_machine.specs.declared.formula.Formula.{Formula}
use Rattle.jm_machine.specs.declared.formula.Formula.TheVariants.{Machine, Regular, RegularSuffix, Temporal, Grammatical, GrammaticalSuffix}
use Rattle.jm_machine.specs.Formulas.{is_grammar, IsReadAs}
use Rattle.jm_machine.specs.Meanings.{RuleDefinition, has_grammar}
use Rattle.jm_machine.specs.Compiling.{formula_of, IsFormula, AreFormulas, properties_said}
use Rattle.jm_script.specs.Catalogs.{spec_names}
use Rattle.jm_cli.specs.Words.CommandWords.{Replay, Run, Check, Coenable, Gen, Sweep, Audit}
use Rattle.jm_inputs.specs.declared.status.Status.{Status}
use Rattle.jm_model.specs.declared.fault.ScriptFault.TheVariants as script
use Rattle.jm_inputs.specs.declared.status.Status.TheVariants.{Done, Usage, BadSpec, BadScript, ReadFailed, WriteFailed, NoMemory, BadHistory}
use Rattle.jm_inputs.specs.declared.spec_set.SpecSet.{SpecSet}
use Rattle.jm_inputs.specs.declared.scripts.Scripts.{Scripts}
use Rattle.jm_inputs.specs.declared.inputs.Inputs.{Inputs}
use Rattle.jm_inputs.specs.Sources.{Source, Named, Given, Gives, IsFile}
use Rattle.jm_inputs.specs.Commands.{named, given_files, workload_specs, workload_scripts, most_of_history}
use Rattle.jm_inputs.specs.Specifications.{Specification, most_bytes, line_or, grammar_line_of, IsSpecification}
use Rattle.jm_inputs.specs.Scripts.{catalog_of}
use Rattle.jm_inputs.specs.Inputs.{grammar_fault, SaySpecifications, step_count, asked_by}
use Rattle.jm_inputs.specs.Causes.{IsNotLoaded, IsNoSpec, IsNoOrder, IsNoScript, IsNoRecording, StopsSpecs, StopsScripts, StopsInputs, StopsCommand, short, at_history, at_spec, at_script, at_recording, IsNoRecordingIn}
use Rattle.jm_inputs.specs.Reading.{Listed, listed_in, specification_of, specs_in, IsSpecSetOf, AreScriptsOf, AreInputsOf}
use Rattle.jm_inputs.specs.Recordings.{too_long}
use Rattle.jm_inputs.proofs.JobLemmas.{too_long_bytes, history_not_loaded}
use Rattle.jm_inputs.proofs.OneReadingLemmas.{never_some}
use Rattle.jm_inputs.proofs.SpecSetLemmas.{length-specs_in}
use Rattle.jm_inputs.proofs.InputLemmas.{length-said, length-scripts}

-- ---- specifications and scripts

module _ (contents later : List ℕ → Option (List ℕ)) (same : (name : List ℕ) → later name ≡ contents name) where
  held : later ≡ contents
  held = λ i name. same name i

  pub scripts_before : (ordered : Bool) (specs : List Specification) (count : ℕ) (sources : List Source) (scripts : Scripts) → AreScriptsOf later ordered specs count sources scripts → AreScriptsOf contents ordered specs count sources scripts
  scripts_before ordered specs count sources scripts h = subst (λ (v : List ℕ → Option (List ℕ)). AreScriptsOf v ordered specs count sources scripts) held h

  -- nor were inputs
  pub inputs_before : (ordered : Bool) (count : ℕ) (specs scripts : List Source) (inputs : Inputs) → AreInputsOf later ordered count specs scripts inputs → AreInputsOf contents ordered count specs scripts inputs
  inputs_before ordered count specs scripts inputs h = subst (λ (v : List ℕ → Option (List ℕ)). AreInputsOf v ordered count specs scripts inputs) held h

  pub stops_before : (ordered : Bool) (files count : ℕ) (specs scripts : List Source) (status : Status) → StopsInputs later ordered files count specs scripts status → StopsInputs contents ordered files count specs scripts status
  stops_before ordered files count specs scripts status h = subst (λ (v : List ℕ → Option (List ℕ)). StopsInputs v ordered files count specs scripts status) held h

  -- nor was a file loaded, or what it gives
  pub not_loaded_before : (name : List ℕ) (number most : ℕ) (long status : Status) → IsNotLoaded later name number most long status → IsNotLoaded contents name number most long status
  not_loaded_before name number most long status h = subst (λ (v : List ℕ → Option (List ℕ)). IsNotLoaded v name number most long status) held h

  pub given_before : (name bytes : List ℕ) → Gives later (Named name) bytes → Gives contents (Named name) bytes
  given_before name bytes h = subst (λ (v : List ℕ → Option (List ℕ)). Gives v (Named name) bytes) held h

  -- the scripts weren't read, after these specifications
  pub stopped_behind : (ordered : Bool) (files count before : ℕ) (specs scripts : List Source) (spec_set : SpecSet) (status : Status) → IsSpecSetOf contents false specs spec_set → before ≡ files + length specs
      → StopsScripts later ordered (specs_in spec_set) before count scripts status → StopsInputs contents ordered files count specs scripts status
  stopped_behind ordered files count before specs scripts spec_set status read many h =
      inr
      (specs_in spec_set, read.said, subst (λ n. StopsScripts contents ordered (specs_in spec_set) n count scripts status) many (subst (λ (v : List ℕ → Option (List ℕ)). StopsScripts v ordered (specs_in spec_set) before count scripts status) held h))

module _ (contents : List ℕ → Option (List ℕ)) where
  pub replay_stops : (spec script : List ℕ) (status : Status) → StopsInputs contents true 0 0 (named (spec ∷ [])) (named (script ∷ [])) status → StopsCommand contents (Replay spec script) status
  replay_stops spec script status (inl h) = at_spec status tt h
  replay_stops spec script status (inr h) = at_script h.0 status tt h.1 h.2 refl

  pub run_stops : (specs scripts : List (List ℕ)) (status : Status) → StopsInputs contents true 0 0 (named specs) (named scripts) status → StopsCommand contents (Run specs scripts) status
  run_stops specs scripts status (inl h) = at_spec status tt h
  run_stops specs scripts status (inr h) = at_script h.0 status tt h.1 h.2 refl

  -- a history is audited after one file
  pub audit_stops : (history bytes : List ℕ) (specs scripts : List (List ℕ)) (status : Status) → Gives contents (Named history) bytes → length bytes ≤ most_of_history
      → StopsInputs contents false 1 198000 (named specs) (named scripts) status → StopsCommand contents (Audit history specs scripts) status
  audit_stops history bytes specs scripts status given small (inl h) = at_spec status (bytes, given, small) h
  audit_stops history bytes specs scripts status given small (inr h) = at_script h.0 status (bytes, given, small) h.1 h.2 refl

  pub audit_unloaded : (history : List ℕ) (specs scripts : List (List ℕ)) (status : Status) → IsNotLoaded contents history 0 most_of_history BadHistory status → StopsCommand contents (Audit history specs scripts) status
  audit_unloaded history specs scripts status h = at_history history specs scripts status refl (history_not_loaded contents history status h)

  pub check_stops : (specs : List (List ℕ)) (status : Status) → StopsSpecs contents 0 false (named specs) status → StopsCommand contents (Check specs) status
  check_stops specs status h = at_spec status tt h

  pub coenable_stops : (specs : List (List ℕ)) (status : Status) → StopsSpecs contents 0 true (named specs) status → StopsCommand contents (Coenable specs) status
  coenable_stops specs status h = at_spec status tt h

  pub gen_stops : (n : ℕ) (specs scripts : List (List ℕ)) (status : Status) → specs ≡ workload_specs → scripts ≡ workload_scripts n → StopsInputs contents true 0 0 (given_files specs) (given_files scripts) status → StopsCommand contents (Gen n) status
  gen_stops n specs scripts status first second h = stops (subst (λ v. StopsInputs contents true 0 0 (given_files workload_specs) (given_files v) status) second (subst (λ v. StopsInputs contents true 0 0 (given_files v) (given_files scripts) status) first h))
    where
      stops : StopsInputs contents true 0 0 (given_files workload_specs) (given_files (workload_scripts n)) status → StopsCommand contents (Gen n) status
      stops (inl h) = at_spec status tt h
      stops (inr h) = at_script h.0 status tt h.1 h.2 refl

  pub sweep_stops : (spec recording : List ℕ) (status : Status) → StopsSpecs contents 0 false (named (spec ∷ [])) status → StopsCommand contents (Sweep spec recording) status
  sweep_stops spec recording status h = at_spec status tt h

  -- the recording wasn't loaded, or says no parts
  recording_not_loaded : (specs : List Specification) (recording : List ℕ) (status : Status) → IsNotLoaded contents recording 1 most_bytes (BadScript 0 script.TooLong) status → IsNoRecording contents specs recording status
  recording_not_loaded specs recording (ReadFailed f) h = h
  recording_not_loaded specs recording NoMemory h = tt
  recording_not_loaded specs recording (BadScript n x) h =
      let first : n ≡ 0 = cc (h.0) in
      let fault : x ≡ script.TooLong = cc (h.0) in
      let long = too_long_bytes most_bytes (contents recording) h.1 in
      (long.0, long.1, rw (first, fault) (too_long long.2))
  recording_not_loaded specs recording Done h = absurd (cc (h.0))
  recording_not_loaded specs recording Usage h = absurd (cc (h.0))
  recording_not_loaded specs recording (BadSpec f x) h = absurd (cc (h.0))
  recording_not_loaded specs recording WriteFailed h = absurd (cc (h.0))
  recording_not_loaded specs recording BadHistory h = absurd (cc (h.0))

  recording_from : (specs : List Specification) (recording bytes : List ℕ) → Gives contents (Named recording) bytes → (status : Status) → IsNoRecordingIn specs bytes status → IsNoRecording contents specs recording status
  recording_from specs recording bytes given (BadScript n x) h = (bytes, given, h)
  recording_from specs recording bytes given NoMemory h = tt
  recording_from specs recording bytes given (ReadFailed f) h = absurd h
  recording_from specs recording bytes given Done h = absurd h
  recording_from specs recording bytes given Usage h = absurd h
  recording_from specs recording bytes given (BadSpec f x) h = absurd h
  recording_from specs recording bytes given WriteFailed h = absurd h
  recording_from specs recording bytes given BadHistory h = absurd h

  pub sweep_unloaded : (spec recording : List ℕ) (spec_set : SpecSet) (status : Status) → IsSpecSetOf contents false (named (spec ∷ [])) spec_set → IsNotLoaded contents recording 1 most_bytes (BadScript 0 script.TooLong) status → StopsCommand contents (Sweep spec recording) status
  sweep_unloaded spec recording spec_set status read h = at_recording spec recording (specs_in spec_set) status refl read.said (recording_not_loaded (specs_in spec_set) recording status h)

  pub sweep_faulty : (spec recording bytes : List ℕ) (spec_set : SpecSet) (status : Status) → IsSpecSetOf contents false (named (spec ∷ [])) spec_set → Gives contents (Named recording) bytes → IsNoRecordingIn (specs_in spec_set) bytes status → StopsCommand contents (Sweep spec recording) status
  sweep_faulty spec recording bytes spec_set status read given h = at_recording spec recording (specs_in spec_set) status refl read.said (recording_from (specs_in spec_set) recording bytes given status h)

  -- what was read of files that are those of a workload
  pub inputs_are : (n : ℕ) (specs scripts : List (List ℕ)) (r : Result Inputs Status) → specs ≡ workload_specs → scripts ≡ workload_scripts n → IfOk r (AreInputsOf contents true 0 (given_files specs) (given_files scripts))
      → IfOk r (AreInputsOf contents true 0 (given_files workload_specs) (given_files (workload_scripts n)))
  inputs_are n specs scripts r first second h =
      subst (λ v. IfOk r (AreInputsOf contents true 0 (given_files workload_specs) (given_files v))) second (subst (λ v. IfOk r (AreInputsOf contents true 0 (given_files v) (given_files scripts))) first h)

-- ---- files that are given

-- a workload has two specifications, and four scripts
pub specs_length : length workload_specs ≡ 2
unfolding workload_specs
specs_length = refl

pub scripts_length_of : (n : ℕ) → length (workload_scripts n) ≡ 4
unfolding workload_scripts
scripts_length_of n = refl

pub given_length : {V : Type 0} (items : V → List ℕ) (files : List V) (texts : List (List ℕ)) (n : ℕ) → map items files ≡ texts → length texts ≡ n → length files ≡ n
given_length {V} items files texts n is many = sym (length-map files items) ∙ ap (λ v. length v) is ∙ many

pub workload_spec_set : (contents : List ℕ → Option (List ℕ)) (spec_set : SpecSet) → IsSpecSetOf contents false (given_files workload_specs) spec_set → length spec_set.specs.items ≡ 2
workload_spec_set contents spec_set h =
    sym (length-specs_in spec_set h.catalogued) ∙ length-said contents false [] (given_files workload_specs) (specs_in spec_set) h.said ∙ length-map workload_specs (λ bytes. Given bytes) ∙ specs_length

pub workload_many : (contents : List ℕ → Option (List ℕ)) (specs : List Specification) (n : ℕ) (scripts : Scripts) → AreScriptsOf contents true specs 0 (given_files (workload_scripts n)) scripts → length scripts.list.items ≡ 4
workload_many contents specs n scripts h =
    length-scripts contents true specs 0 [] (given_files (workload_scripts n)) scripts.list.items scripts.objects h.read.texts h.read.said ∙ length-map (workload_scripts n) (λ bytes. Given bytes) ∙ scripts_length_of n

-- no file is among them
no_file : (files : List (List ℕ)) (first rest : List Source) (source : Source) → given_files files ≡ first ++ source ∷ rest → IsFile source → ⊥
no_file [] [] rest source split is = absurd cc
no_file [] (x ∷ first) rest source split is = absurd cc
no_file (bytes ∷ files) [] rest source split is = let same : source ≡ Given bytes = cc in subst IsFile same is
no_file (bytes ∷ files) (x ∷ first) rest source split is = no_file files first rest source (cc) is

module _ (contents : List ℕ → Option (List ℕ)) (file : ℕ) where
  given_specs_unread : (files : List (List ℕ)) (status : Status) → StopsSpecs contents 0 false (given_files files) status → status ≡ ReadFailed file → ⊥
  given_specs_unread files status h is = no_file files h.reached.first h.reached.rest h.source h.reached.split (subst (λ (s : Status). IsNoSpec contents false h.before 0 h.number h.source s) is h.stopped).1

  given_scripts_unread : (specs : List Specification) (count : ℕ) (files : List (List ℕ)) (status : Status) → StopsScripts contents true specs count 0 (given_files files) status → status ≡ ReadFailed file → ⊥
  given_scripts_unread specs count files status (inl h) is =
      no_file files h.reached.first h.reached.rest h.source h.reached.split (subst (λ (s : Status). IsNoScript contents true specs count (0 + step_count h.before) h.names h.number h.source s) is h.stopped).1
  given_scripts_unread specs count files status (inr h) is = subst (λ (s : Status). IsNoOrder (asked_by true h.texts) s) is h.wrong

  pub unread : (n : ℕ) (status : Status) → StopsCommand contents (Gen n) status → status ≡ ReadFailed file → ⊥
  unread n _ short is = absurd cc
  unread n _ (at_history history specs scripts status same h) is = absurd (cc same)
  unread n _ (at_spec status sound h) is = given_specs_unread workload_specs status h is
  unread n _ (at_recording spec recording specs status same said h) is = absurd (cc same)
  unread n _ (at_script specs status sound said h separate) is = given_scripts_unread specs (0 + length (given_files workload_specs)) (workload_scripts n) status h is

-- ---- families

-- a word that names no grammar isn't looked for further
no_line : (families : Bool) (line : Option ℕ) (o : Option SpecFault) → families ≡ true → or_else (grammar_fault families line) o ≡ None → line ≡ None
no_line true None o asked h = refl
no_line true (Some l) o asked h = absurd (never_some (sym h))
no_line false line o asked h = absurd (false≢true asked)

-- a formula is a grammar where the word of its logic names one
module _ (bytes : List ℕ) (tokens : List Token) (table : EventDefinitions) (suffix : Bool) where
  no_grammar : (p : PropertyFacts) (later : Option ℕ) (f : Formula) → IsFormula bytes tokens table suffix p f → line_or p.logic p.logic_line later ≡ None → (is_grammar f ≡ false) × (later ≡ None)
  no_grammar p later f read none = by_logic p.logic suffix f read none
    where
      by_logic : (logic : Logic) (anywhere : Bool) (g : Formula) → IsReadAs bytes (formula_of tokens p) table logic anywhere g → line_or logic p.logic_line later ≡ None → (is_grammar g ≡ false) × (later ≡ None)
      by_logic Cfg anywhere g h e = absurd (never_some (sym e))
      by_logic Fsm anywhere (Machine m) h e = (refl, e)
      by_logic Fsm anywhere (Regular m) h e = absurd h
      by_logic Fsm anywhere (RegularSuffix m) h e = absurd h
      by_logic Fsm anywhere (Temporal m) h e = absurd h
      by_logic Fsm anywhere (Grammatical m) h e = absurd h
      by_logic Fsm anywhere (GrammaticalSuffix m) h e = absurd h
      by_logic Ere false (Regular m) h e = (refl, e)
      by_logic Ere false (Machine m) h e = absurd h
      by_logic Ere false (RegularSuffix m) h e = absurd h
      by_logic Ere false (Temporal m) h e = absurd h
      by_logic Ere false (Grammatical m) h e = absurd h
      by_logic Ere false (GrammaticalSuffix m) h e = absurd h
      by_logic Ere true (RegularSuffix m) h e = (refl, e)
      by_logic Ere true (Machine m) h e = absurd h
      by_logic Ere true (Regular m) h e = absurd h
      by_logic Ere true (Temporal m) h e = absurd h
      by_logic Ere true (Grammatical m) h e = absurd h
      by_logic Ere true (GrammaticalSuffix m) h e = absurd h
      by_logic Ptltl anywhere (Temporal m) h e = (refl, e)
      by_logic Ptltl anywhere (Machine m) h e = absurd h
      by_logic Ptltl anywhere (Regular m) h e = absurd h
      by_logic Ptltl anywhere (RegularSuffix m) h e = absurd h
      by_logic Ptltl anywhere (Grammatical m) h e = absurd h
      by_logic Ptltl anywhere (GrammaticalSuffix m) h e = absurd h

  no_grammars : (ps : List PropertyFacts) (fs : List Formula) → AreFormulas bytes tokens table suffix ps fs → grammar_line_of ps ≡ None → has_grammar (properties_said bytes tokens ps fs) ≡ false
  no_grammars [] [] read none = refl
  no_grammars [] (f ∷ fs) read none = absurd read
  no_grammars (p ∷ ps) [] read none = absurd read
  no_grammars (p ∷ ps) (f ∷ fs) read none =
      let here = no_grammar p (grammar_line_of ps) f read.0 none in
      rw here.0 (no_grammars ps fs read.1 here.1)

-- so a specification without such a word has no grammar
without_grammar : (bytes : List ℕ) (s : Specification) → IsSpecification bytes s → s.grammar_line ≡ None → has_grammar s.rules.properties ≡ false
without_grammar bytes s is none =
    ap (λ (r : RuleDefinition). has_grammar r.properties) is.rules.rules
    ∙ no_grammars bytes is.tokens is.tree.table (is_some is.tree.suffix) (properties_of is.tree) is.rules.formulas is.rules.read (sym is.grammar_line ∙ none)

tables_said : (contents : List ℕ → Option (List ℕ)) (before : List Specification) (sources : List Source) (specs : List Specification) → SaySpecifications contents true before sources specs → All (λ s. has_grammar s.rules.properties ≡ false) specs
tables_said contents before [] specs none = subst (All (λ (s : Specification). has_grammar s.rules.properties ≡ false)) (sym none) (All-nil (λ (s : Specification). has_grammar s.rules.properties ≡ false))
tables_said contents before (x ∷ sources) specs (bytes, s, more, e, given, is, rest) =
    subst (All (λ (t : Specification). has_grammar t.rules.properties ≡ false)) (sym e)
    (All-cons (λ (t : Specification). has_grammar t.rules.properties ≡ false) s more
    (without_grammar bytes s is.said (no_line true s.grammar_line (option_map (λ earlier. DuplicateSpec) (number_of (spec_names (catalog_of before)) s.name)) refl is.sound))
    (tables_said contents (before ++ s ∷ []) sources more rest))

unmapped : (P : Specification → Type 0) (ls : List Listed) → All P (map specification_of ls) → All (λ l. P (specification_of l)) ls
unmapped P [] all = All-nil (λ l. P (specification_of l))
unmapped P (l ∷ ls) all = All-cons (λ l. P (specification_of l)) l ls (All-head P (specification_of l) (map specification_of ls) all) (unmapped P ls (All-tail P (specification_of l) (map specification_of ls) all))

-- where families were asked for, no specification has a grammar
pub tables_in : (contents : List ℕ → Option (List ℕ)) (sources : List Source) (spec_set : SpecSet) → IsSpecSetOf contents true sources spec_set → All (λ l. has_grammar l.rules.definition.properties ≡ false) (listed_in spec_set)
tables_in contents sources spec_set h = unmapped (λ (s : Specification). has_grammar s.rules.properties ≡ false) (listed_in spec_set) (tables_said contents [] sources (specs_in spec_set) h.said)
