-- What fits the specifications that a script was read over.
use Rattle.std.specs.Prelude.{ℕ, ◌≡◌, ◌<◌, List, length, All}
use Rattle.jm_model.specs.declared.binding.Binding.{Binding}
use Rattle.jm_model.specs.Bindings.{mask_of, objects_of}
use Rattle.jm_model.specs.declared.step.Step.{Step}
use Rattle.jm_model.specs.declared.step.Step.TheVariants.{Event as EventStep, Death as DeathStep, Pass as PassStep}
use Rattle.jm_script.specs.Catalogs.{CatalogEntry, table_of}
use Rattle.jm_script.specs.Events.{mask_at}
use Rattle.jm_script.specs.declared.script.Target.{Target}
use Rattle.jm_script.specs.declared.script.Target.TheVariants.{Event, Death, Pass}
use Rattle.jm_script.specs.declared.script.ScriptLine.{ScriptLine}

-- the specification of this number is there, and has an event of this letter with this set of parameters
pub record HasEvent (catalog : List CatalogEntry) (spec letter mask : ℕ) : Type 0 where
  pub specification : spec < length catalog
  pub event : letter < length (table_of catalog spec).events
  pub parameters : mask ≡ mask_at (table_of catalog spec) letter

-- the binding gives an object that has a name, among so many, to each parameter of an event that is there, and to no
-- other
pub record FitsEvent (catalog : List CatalogEntry) (names spec letter : ℕ) (binding : Binding) : Type 0 where
  pub event : HasEvent catalog spec letter (mask_of binding)
  pub eight : length binding ≡ 8
  pub named : All (λ object. object < names) (objects_of binding)

-- a target of specifications that are there, with objects that have names
abbrev pub FitsTarget : List CatalogEntry → ℕ → Target → Type 0
FitsTarget catalog names (Event spec letter binding) = FitsEvent catalog names spec letter.0 binding
FitsTarget catalog names (Death object) = object < names
FitsTarget catalog names (Pass spec) = spec < length catalog

-- each step of a script has such a target
abbrev pub FitsCatalog : List CatalogEntry → ℕ → List ScriptLine → Type 0
FitsCatalog catalog names script = All (λ l. FitsTarget catalog names l.target) script

-- a step for the specification of this number: its event is one of it, and its objects have names
abbrev pub FitsSpecification : List CatalogEntry → ℕ → ℕ → Step → Type 0
FitsSpecification catalog names spec (EventStep letter binding) = FitsEvent catalog names spec letter.0 binding
FitsSpecification catalog names spec (DeathStep object) = object < names
FitsSpecification catalog names spec PassStep = Unit {0}
