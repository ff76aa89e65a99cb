-- The histories of an accepted command are told by their texts.
use Rattle.std.proofs.Common.{◌≡◌, ℕ, ◌+◌, ◌≤◌, ◌^◌, Bool, true, List, [], ◌∷◌, ◌++◌, length, map, Option, sym, ap, subst, ◌∙◌, arith}
use Rattle.std.specs.List.{AllByRecursion}
use Rattle.std.proofs.lemmas.List.{length-map}
use Rattle.jm_model.specs.declared.step.Entry.{Entry}
use Rattle.jm_events.specs.Events.{EventDefinition, EventDefinitions}
use Rattle.jm_script.specs.declared.script.ScriptLine.{ScriptLine}
use Rattle.jm_sync.specs.declared.line.SyncLine.{SyncLine}
use Rattle.jm_sync.specs.Cuts.{rest_of}
use Rattle.jm_machine.specs.Meanings.{RuleDefinition}
use Rattle.jm_print.specs.Told.{AreToldBy}
use Rattle.jm_cli.specs.Words.{CommandWords}
use Rattle.jm_cli.specs.Words.CommandWords.{Replay, Run, Check, Coenable, Gen, Sweep, Audit}
use Rattle.jm_inputs.specs.Sources.{Source, Named}
use Rattle.jm_inputs.specs.Commands.{IsWithin, script_sources, workload_scripts}
use Rattle.jm_inputs.specs.Specifications.{Specification, IsSpecification}
use Rattle.jm_inputs.specs.Scripts.{catalog_of, meaning_over}
use Rattle.jm_inputs.specs.Inputs.{SaySpecifications, SayScripts}
use Rattle.jm_top.specs.Histories.{AreHistoriesFrom, lexicon}
use Rattle.jm_inputs.specs.Jobs.{IsJob, Accepted, accepted}
use Rattle.jm_top.proofs.FewLemmas.{few_named}
use Rattle.jm_telling.proofs.JobNames.{specification_tables}
use Rattle.jm_telling.proofs.ScriptSteps.{IsLineIn, more_lines, fit_script}
use Rattle.jm_telling.proofs.HistorySteps.{history_told}

-- ---- scripts

-- the lines of scripts name some of so many objects
abbrev AreLinesIn : ℕ → List (List ScriptLine) → Type 0
AreLinesIn n scripts = AllByRecursion (AllByRecursion (IsLineIn n (2 ^ 64))) scripts

-- scripts, as many as there are sources, and what their lines name is among the objects in the end
record AreFitScripts (names : List (List ℕ)) (sources : List Source) (scripts : List (List ScriptLine)) (objects : List (List ℕ)) : Type 0 where
  grown : length names ≤ length objects
  many : length scripts ≡ length sources
  lines : AreLinesIn (length objects) scripts

fit_scripts : (contents : List ℕ → Option (List ℕ)) (specs : List Specification) (count : ℕ) (names : List (List ℕ)) (sources : List Source) (scripts : List (List ScriptLine)) (objects texts : List (List ℕ)) → SayScripts contents true specs count names sources scripts objects texts → AreFitScripts names sources scripts objects
fit_scripts contents specs count names [] scripts objects texts said =
    subst (λ (ss : List (List ScriptLine)). AreFitScripts names [] ss objects) (sym said.0)
    (record { grown = omega (arith, ap (λ (os : List (List ℕ)). length os) said.1); many = omega arith; lines = tt })
fit_scripts contents specs count names (source ∷ sources) scripts objects texts said =
    let is = said.8.said in
    let more = fit_scripts contents specs (count + length said.1) said.3 sources said.2 objects said.4 said.9 in
    let meaning = meaning_over specs count names (rest_of said.0) in
    let fits = fit_script (catalog_of specs) count (rest_of said.0) names is.small in
    let grows : length meaning.names ≤ length objects = omega (arith, ap (λ (os : List (List ℕ)). length os) is.named, more.grown) in
    let here : AllByRecursion (IsLineIn (length objects) (2 ^ 64)) said.1 =
    subst (λ (ls : List ScriptLine). AllByRecursion (IsLineIn (length objects) (2 ^ 64)) ls) (sym is.lines) (more_lines (length meaning.names) (length objects) (2 ^ 64) meaning.lines grows fits.lines) in
    subst (λ (ss : List (List ScriptLine)). AreFitScripts names (source ∷ sources) ss objects) (sym said.5)
    (record { grown = omega (arith, fits.grown, grows); many = omega (arith, more.many); lines = (here, more.lines) })

-- a command has few scripts
few_sources : (c : CommandWords) → IsWithin c → length (script_sources c) ≤ 16
unfolding workload_scripts
few_sources (Replay spec script) within = omega arith
few_sources (Run specs scripts) within = omega (arith, within.1.1, length-map scripts (λ name. Named name))
few_sources (Check specs) within = omega arith
few_sources (Coenable specs) within = omega arith
few_sources (Gen n) within = omega arith
few_sources (Sweep spec recording) within = omega arith
few_sources (Audit history specs scripts) within = omega (arith, within.1.1, length-map scripts (λ name. Named name))

-- ---- specifications

-- some bytes say the specification
abbrev IsSaid : Specification → Type 0
IsSaid s = (bytes : List ℕ) × IsSpecification bytes s

each_said : (contents : List ℕ → Option (List ℕ)) (families : Bool) (before : List Specification) (sources : List Source) (specs : List Specification) → SaySpecifications contents families before sources specs → AllByRecursion IsSaid specs
each_said contents families before [] specs said = subst (λ (ss : List Specification). AllByRecursion IsSaid ss) (sym said) tt
each_said contents families before (source ∷ sources) specs said =
    subst (λ (ss : List Specification). AllByRecursion IsSaid ss) (sym said.3) ((said.0, said.5.said), each_said contents families (before ++ said.1 ∷ []) sources said.2 said.6)

-- the letters of a specification have the sets of its events
pub said_masks : (bytes : List ℕ) (s : Specification) → IsSpecification bytes s → s.rules.masks ≡ map (λ (e : EventDefinition). e.mask) s.table.events
said_masks bytes s is =
    ap (λ (r : RuleDefinition). r.masks) is.rules.rules ∙ ap (λ (t : EventDefinitions). map (λ (e : EventDefinition). e.mask) t.events) (sym is.table)

histories_told : (objects : List (List ℕ)) (scripts : List (List ScriptLine)) → length scripts ≤ 16 → AreLinesIn (length objects) scripts → (number : ℕ) (specs : List Specification) (hs : List (List Entry)) → AllByRecursion IsSaid specs → AreHistoriesFrom number specs scripts hs → AreToldBy (map (lexicon objects) specs) hs
histories_told objects scripts short lines number [] [] said are = tt
histories_told objects scripts short lines number [] (h ∷ hs) said are = absurd are
histories_told objects scripts short lines number (s ∷ specs) [] said are = absurd are
histories_told objects scripts short lines number (s ∷ specs) (h ∷ hs) said are = (
  history_told s objects (said_masks said.0.0 s said.0.1) (specification_tables said.0.0 s said.0.1).masks number scripts short lines h are.0,
  histories_told objects scripts short lines (number + 1) specs hs said.1 are.1,
)

pub job_told : (words : List (List ℕ)) (contents : List ℕ → Option (List ℕ)) (command : CommandWords) (specs : List Specification) (scripts : List (List ScriptLine)) (objects : List (List ℕ)) (asked : List (List SyncLine)) (hs : List (List Entry)) → IsJob words contents (Accepted command specs scripts objects asked) → AreHistoriesFrom 0 specs scripts hs → AreToldBy (map (lexicon objects) specs) hs
job_told words contents _ _ _ _ _ hs (accepted command specs scripts objects texts spelled said tells sound separate plain) are =
    let fits = fit_scripts contents specs 0 [] (script_sources command) scripts objects texts tells in
    let short : length scripts ≤ 16 = omega (arith, fits.many, few_sources command (few_named words command spelled)) in
    histories_told objects scripts short fits.lines 0 specs hs (each_said contents _ [] _ specs said) are
