-- The names of what an accepted command reads.
use Rattle.std.proofs.Common.{ℕ, ◌+◌, Bool, true, List, [], ◌∷◌, ◌++◌, length, map, Option, sym, subst}
use Rattle.jm_script.specs.declared.script.ScriptLine.{ScriptLine}
use Rattle.jm_sync.specs.declared.line.SyncLine.{SyncLine}
use Rattle.jm_sync.specs.Cuts.{rest_of}
use Rattle.jm_print.specs.Told.{AreNames, HasNames, HaveNames}
use Rattle.jm_cli.specs.Words.{CommandWords}
use Rattle.jm_inputs.specs.Sources.{Source}
use Rattle.jm_inputs.specs.Specifications.{Specification, IsSpecification}
use Rattle.jm_inputs.specs.Scripts.{catalog_of}
use Rattle.jm_inputs.specs.Inputs.{SaySpecifications, SayScripts}
use Rattle.jm_top.specs.Histories.{lexicon}
use Rattle.jm_inputs.specs.Jobs.{IsJob, Accepted, accepted}
use Rattle.jm_telling.proofs.NameLists.{no_names}
use Rattle.jm_telling.proofs.TableNames.{HasTableNames, table_names}
use Rattle.jm_telling.proofs.HandlerNames.{handlers_named}
use Rattle.jm_telling.proofs.ObjectNames.{script_named}

-- the parameters and events of a specification
pub specification_tables : (bytes : List ℕ) (s : Specification) → IsSpecification bytes s → HasTableNames s.table
specification_tables bytes s is = subst HasTableNames (sym is.table) (table_names bytes is.told.told.0.params is.told.told.0.events is.tree.table is.told.told.3.table)

pub specification_names : (objects : List (List ℕ)) → AreNames objects → (bytes : List ℕ) (s : Specification) → IsSpecification bytes s → HasNames (lexicon objects s)
specification_names objects named bytes s is =
    let tables = specification_tables bytes s is in
    record { parameters = tables.parameters; events = tables.events; handlers = handlers_named bytes s is; objects = named }

specifications_names : (objects : List (List ℕ)) → AreNames objects → (contents : List ℕ → Option (List ℕ)) (families : Bool) (before : List Specification) (sources : List Source) (specs : List Specification) → SaySpecifications contents families before sources specs → HaveNames (map (lexicon objects) specs)
specifications_names objects named contents families before [] specs said = subst (λ (ss : List Specification). HaveNames (map (lexicon objects) ss)) (sym said) tt
specifications_names objects named contents families before (source ∷ sources) specs said =
    subst (λ (ss : List Specification). HaveNames (map (lexicon objects) ss)) (sym said.3)
    (specification_names objects named said.0 said.1 said.5.said, specifications_names objects named contents families (before ++ said.1 ∷ []) sources said.2 said.6)

scripts_names : (contents : List ℕ → Option (List ℕ)) (specs : List Specification) (count : ℕ) (names : List (List ℕ)) (sources : List Source) (scripts : List (List ScriptLine)) (objects texts : List (List ℕ)) → AreNames names → SayScripts contents true specs count names sources scripts objects texts → AreNames objects
scripts_names contents specs count names [] scripts objects texts before said = subst AreNames (sym said.1) before
scripts_names contents specs count names (source ∷ sources) scripts objects texts before said =
    scripts_names contents specs (count + length said.1) said.3 sources said.2 objects said.4 (subst AreNames (sym said.8.said.named) (script_named (catalog_of specs) count (rest_of said.0) names before)) said.9

pub job_names : (words : List (List ℕ)) (contents : List ℕ → Option (List ℕ)) (command : CommandWords) (specs : List Specification) (scripts : List (List ScriptLine)) (objects : List (List ℕ)) (asked : List (List SyncLine)) → IsJob words contents (Accepted command specs scripts objects asked) → HaveNames (map (lexicon objects) specs)
job_names words contents _ _ _ _ _ (accepted command specs scripts objects texts spelled said tells sound separate plain) =
    specifications_names objects (scripts_names contents specs 0 [] _ scripts objects texts no_names tells) contents _ [] _ specs said
