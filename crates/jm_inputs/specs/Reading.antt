-- What the calls that read specifications answer.
use Rattle.std.specs.Prelude.{ℕ, ◌+◌, ◌≡◌, ◌<◌, ◌≤◌, ◌*◌, ◌^◌, Bool, false, List, [], ◌∷◌, ◌++◌, length, map, All}
use Rattle.jm_model.specs.Words.{Text}
use Rattle.jm_script.specs.declared.script.ScriptLine.{ScriptLine}
use Rattle.jm_script.specs.Catalogs.{CatalogEntry}
use Rattle.jm_script.specs.Fitting.{FitsCatalog}
use Rattle.jm_script.specs.Meanings.{RisesFrom as StepsRiseFrom}
use Rattle.jm_script.specs.Objects.{IsExtension}
use Rattle.jm_sync.specs.declared.line.Cut.{Cut}
use Rattle.jm_sync.specs.declared.line.SyncLine.{SyncLine}
use Rattle.jm_sync.specs.Checks.{AreSound, sync_of}
use Rattle.jm_sync.specs.Cuts.{RisesFrom}
use Rattle.jm_events.specs.Events.{EventDefinitions}
use Rattle.jm_goal.specs.Goals.{most_handlers}
use Rattle.jm_machine.specs.Meanings.{RuleDefinition, handler_count}
use Rattle.jm_machine.specs.RuleSets.{CompiledRules}
use Rattle.jm_inputs.specs.declared.specification.SpecHeader.{SpecHeader}
use Rattle.jm_inputs.specs.declared.specification.CompiledSpec.{CompiledSpec}
use Rattle.jm_inputs.specs.declared.specification.NamedSpec.{NamedSpec}
use Rattle.jm_inputs.specs.declared.spec_set.SpecSet.{SpecSet}
use Rattle.jm_inputs.specs.declared.scripts.Scripts.{Scripts}
use Rattle.jm_inputs.specs.declared.inputs.Inputs.{Inputs}
use Rattle.jm_inputs.specs.Sources.{FileContents, Source, Gives}
use Rattle.jm_inputs.specs.Specifications.{Specification, IsSpecification}
use Rattle.jm_inputs.specs.Scripts.{catalog_of, IsScript, IsScriptFile}
use Rattle.jm_inputs.specs.Inputs.{IsAdmitted, SaySpecifications, step_count, SayScripts, lines_in, names_in, asked_by, names_behind_all}

-- ---- specifications

-- what is kept of a specification: what its catalog has, its header and its rules
pub record Listed : Type 0 where
  pub entry : CatalogEntry
  pub header : SpecHeader
  pub rules : CompiledRules

-- what is kept under this entry
abbrev pub listing : CatalogEntry → CompiledSpec → Listed
listing e l = record { entry = e; header = l.header; rules = l.rules }

-- each is kept under the entry of its place
abbrev pub listed : List CatalogEntry → List CompiledSpec → List Listed
listed (e ∷ es) (l ∷ ls) = listing e l ∷ listed es ls
listed _ _ = []

-- the entry of this name, parameters and events
abbrev pub named_entry : Text → EventDefinitions → CatalogEntry
named_entry name table = record { name = name; table = table }

-- what was read
abbrev pub listing_of : NamedSpec → Listed
listing_of r = listing (named_entry r.name.now r.table) r.compiled

-- the specification of this entry, with this header and these rules
abbrev pub titled : CatalogEntry → SpecHeader → RuleDefinition → Specification
titled entry header rules = record {
  name = entry.name;
  table = entry.table;
  logics = header.logics.items;
  grammar_line = header.grammar_line;
  full_binding = header.full_binding;
  suffix = header.suffix;
  rules = rules;
  texts = header.texts.items;
}

-- the specification that is kept
abbrev pub specification_of : Listed → Specification
specification_of l = titled l.entry l.header l.rules.definition

-- the letters of the rules are the events of the entry, whose sets of parameters are there; and few are handled
pub record AreRulesOf (entry : CatalogEntry) (rules : RuleDefinition) : Type 0 where
  pub masks : rules.masks ≡ map (λ e. e.mask) entry.table.events
  pub fit : All (λ mask. mask < 2 ^ length entry.table.parameters) rules.masks
  pub few : handler_count rules.properties ≤ most_handlers

-- the rules that are kept are those of the entry
abbrev pub FitsEntry : Listed → Type 0
FitsEntry l = AreRulesOf l.entry l.rules.definition

-- the bytes say the specification that is kept
pub record IsRead (bytes : Text) (r : NamedSpec) : Type 0 where
  pub said : IsSpecification bytes (specification_of (listing_of r))
  pub kept : FitsEntry (listing_of r)

-- the specifications of a spec set
abbrev pub listed_in : SpecSet → List Listed
listed_in spec_set = listed spec_set.catalog spec_set.specs.items

abbrev pub specs_in : SpecSet → List Specification
specs_in spec_set = map specification_of (listed_in spec_set)

-- the catalog has an entry for each specification, and the rules of each fit its entry
pub record IsCatalogued (spec_set : SpecSet) : Type 0 where
  pub many : length spec_set.catalog ≡ length spec_set.specs.items
  pub kept : All FitsEntry (listed_in spec_set)

-- the spec set has one specification more, which these bytes say
pub record HasNext (families : Bool) (bytes : Text) (old new : SpecSet) : Type 0 where
  pub specification : Specification
  pub admitted : IsAdmitted families (specs_in old) bytes specification
  pub specs : specs_in new ≡ specs_in old ++ specification ∷ []
  pub catalogued : IsCatalogued new

-- which a file of this name says
pub record HasNextFrom (contents : FileContents) (source : Source) (families : Bool) (old new : SpecSet) : Type 0 where
  pub bytes : Text
  pub given : Gives contents source bytes
  pub next : HasNext families bytes old new

-- the spec set has what the sources say
pub record IsSpecSetOf (contents : FileContents) (families : Bool) (sources : List Source)
    (spec_set : SpecSet) : Type 0 where
  pub said : SaySpecifications contents families [] sources (specs_in spec_set)
  pub catalogued : IsCatalogued spec_set

-- ---- scripts

-- Each script fits the specifications and the names of objects, and its lines rise; the counts are within their limits.
-- Each script has a cut, whose lines rise, and whose names have numbers; these are few enough.
pub record AreCounted (specs : List Specification) (s : Scripts) : Type 0 where
  pub fit : All (FitsCatalog (catalog_of specs) (length s.objects)) s.list.items
  pub steps_rise : All (StepsRiseFrom 1) s.list.items
  pub few_steps : s.count ≤ 200000
  pub few_names : length s.objects ≤ 65536
  pub cut : length s.cuts.items ≡ length s.list.items
  pub rising : All (λ cut. RisesFrom 1 cut.lines.items) s.cuts.items
  pub numbered : All (λ cut. All (λ l. l.name < length s.posted) cut.lines.items) s.cuts.items
  pub few_posted : length s.posted ≤ length s.list.items * 4194305

-- there is one script more, which these bytes say as they stand, and one cut more, which has these lines
pub record HasSteps (specs : List Specification) (bytes : Text) (lines : List SyncLine) (old new : Scripts) : Type 0
  where
    pub script : List ScriptLine
    pub said : IsScript specs old.count old.objects bytes script new.objects
    pub fits : FitsCatalog (catalog_of specs) (length new.objects) script
    pub steps_rise : StepsRiseFrom 1 script
    pub grown : length old.objects ≤ length new.objects
    pub scripts : new.list.items ≡ old.list.items ++ script ∷ []
    pub longer : new.count ≡ old.count + length script
    pub few_steps : new.count ≤ 200000
    pub few_names : length new.objects ≤ 65536
    pub cut : Cut
    pub asked : cut.lines.items ≡ lines
    pub cuts : new.cuts.items ≡ old.cuts.items ++ cut ∷ []
    pub posted : new.posted ≡ old.posted

-- no script more was read: the others are as before, and there may be new names of objects at the end
pub record AreLeft (old new : Scripts) : Type 0 where
  pub list : new.list ≡ old.list
  pub cuts : new.cuts ≡ old.cuts
  pub posted : new.posted ≡ old.posted
  pub names : IsExtension old.objects new.objects

-- there is one script more, which the bytes of this file say, and what it asks for
pub record HasScript (ordered : Bool) (specs : List Specification) (bytes : Text) (old new : Scripts) : Type 0 where
  pub script : List ScriptLine
  pub said : IsScriptFile ordered specs old.count old.objects bytes script new.objects
  pub scripts : new.list.items ≡ old.list.items ++ script ∷ []
  pub longer : new.count ≡ old.count + length script
  pub asked : sync_of new.cuts.items ≡ sync_of old.cuts.items ++ lines_in ordered old.posted bytes ∷ []
  pub posted : new.posted ≡ names_in ordered old.posted bytes
  pub counted : AreCounted specs new

-- which a file of this name says
pub record HasScriptFrom (contents : FileContents) (source : Source) (ordered : Bool) (specs : List Specification)
    (old new : Scripts) : Type 0 where
  pub bytes : Text
  pub given : Gives contents source bytes
  pub next : HasScript ordered specs bytes old new

module _ (contents : FileContents) (ordered : Bool) where
  -- the scripts are what the sources say, after so many steps, which are counted with theirs, and what they ask for
  pub record AreScriptsRead (specs : List Specification) (count : ℕ) (sources : List Source) (s : Scripts) : Type 0
    where
      pub texts : List Text
      pub said : SayScripts contents ordered specs count [] sources s.list.items s.objects texts
      pub many : s.count ≡ count + step_count s.list.items
      pub asked : sync_of s.cuts.items ≡ asked_by ordered texts
      pub posted : s.posted ≡ names_behind_all ordered [] texts
      pub counted : AreCounted specs s

  -- and nothing is wrong with that
  pub record AreScriptsOf (specs : List Specification) (count : ℕ) (sources : List Source) (s : Scripts) : Type 0
    where
      pub read : AreScriptsRead specs count sources s
      pub sound : AreSound (sync_of s.cuts.items)

  -- what was read is what these sources of specifications and of scripts say, these after so many steps
  pub record AreInputsOf (count : ℕ) (specs scripts : List Source) (inputs : Inputs) : Type 0 where
    pub spec_set : IsSpecSetOf contents false specs inputs.spec_set
    pub read : AreScriptsOf (specs_in inputs.spec_set) count scripts inputs.scripts
