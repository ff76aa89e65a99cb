-- What the files of a command say, one after the other.
use Rattle.std.specs.Prelude.{ℕ, ◌+◌, ◌≡◌, Bool, true, false, List, [], ◌∷◌, ◌++◌, length, Option, Some, None, option_map, if◌then◌else◌}
use Rattle.jm_model.specs.Words.{Text}
use Rattle.jm_model.specs.declared.fault.SpecFault.{SpecFault}
use Rattle.jm_model.specs.declared.fault.SpecFault.TheVariants.{UnsupportedLogic, DuplicateSpec}
use Rattle.jm_events.specs.Names.{number_of}
use Rattle.jm_reading.specs.Faults.{or_else}
use Rattle.jm_script.specs.declared.script.ScriptLine.{ScriptLine}
use Rattle.jm_script.specs.Catalogs.{spec_names}
use Rattle.jm_sync.specs.declared.line.SyncLine.{SyncLine}
use Rattle.jm_sync.specs.Cuts.{names_after, sync_lines_of}
use Rattle.jm_inputs.specs.declared.spec_set.Purpose.{Purpose}
use Rattle.jm_inputs.specs.declared.spec_set.Purpose.TheVariants.{Rules, Families}
use Rattle.jm_inputs.specs.Sources.{FileContents, Source, Gives}
use Rattle.jm_inputs.specs.Specifications.{Specification, IsSpecification, IsSpecFault}
use Rattle.jm_inputs.specs.Scripts.{catalog_of, IsScriptFile}

-- ---- specifications

-- what is read for families asks for them
abbrev pub asks_families : Purpose → Bool
asks_families Rules = false
asks_families Families = true

-- where families are asked for, the first grammar, whose word stands in this line
abbrev pub grammar_fault : Bool → Option ℕ → Option SpecFault
grammar_fault families line = if families then option_map (λ l. UnsupportedLogic l) line else None

-- Why a specification is refused though its bytes have no fault: families are asked for, and one of its properties is a
-- grammar; or one before it has its name.
abbrev pub refusal_of : Bool → List Specification → Specification → Option SpecFault
refusal_of families before s =
    or_else (grammar_fault families s.grammar_line)
    (option_map (λ earlier. DuplicateSpec) (number_of (spec_names (catalog_of before)) s.name))

-- the bytes say this specification, and it isn't refused after these
pub record IsAdmitted (families : Bool) (before : List Specification) (bytes : Text)
    (s : Specification) : Type 0 where
  pub said : IsSpecification bytes s
  pub sound : refusal_of families before s ≡ None

-- this is what is wrong with the bytes, or with the specification that they say, after these
pub data IsRefusal (families : Bool) (before : List Specification) (bytes : Text) (fault : SpecFault) : Type 0 where
  faulty : IsSpecFault bytes fault → IsRefusal families before bytes fault
  refused : (s : Specification) → IsSpecification bytes s → refusal_of families before s ≡ Some fault
      → IsRefusal families before bytes fault

module _ (contents : FileContents) (families : Bool) where
  -- the sources say these specifications, in order, after those that were read before
  abbrev pub SaySpecifications : List Specification → List Source → List Specification → Type 0
  SaySpecifications before [] specs = specs ≡ []
  SaySpecifications before (source ∷ sources) specs =
      (bytes : Text) × (s : Specification) × (more : List Specification) × (specs ≡ s ∷ more)
      × Gives contents source bytes × IsAdmitted families before bytes s
      × SaySpecifications (before ++ s ∷ []) sources more

  -- this source has this number among the sources, and those before it say these specifications
  pub record AreReadUpTo (sources : List Source) (number : ℕ) (source : Source)
      (specs : List Specification) : Type 0 where
    pub first : List Source
    pub rest : List Source
    pub split : sources ≡ first ++ source ∷ rest
    pub numbered : number ≡ length first
    pub read : SaySpecifications [] first specs

-- ---- scripts

-- how many steps scripts have
abbrev pub step_count : List (List ScriptLine) → ℕ
step_count [] = 0
step_count (script ∷ scripts) = length script + step_count scripts

module _ (contents : FileContents) (ordered : Bool) (specs : List Specification) where
  -- the sources say these scripts, in order, after so many steps and with these names of objects; the names in the
  -- end, and the bytes of each source
  abbrev pub SayScripts : ℕ → List Text → List Source → List (List ScriptLine) → List Text → List Text → Type 0
  SayScripts count names [] scripts objects texts = (scripts ≡ []) × (objects ≡ names) × (texts ≡ [])
  SayScripts count names (source ∷ sources) scripts objects texts =
      (bytes : Text) × (script : List ScriptLine) × (more : List (List ScriptLine)) × (later : List Text)
      × (others : List Text) × (scripts ≡ script ∷ more) × (texts ≡ bytes ∷ others)
      × Gives contents source bytes × IsScriptFile ordered specs count names bytes script later
      × SayScripts (count + length script) later sources more objects others

  -- This source has this number among the sources, and those before it say these scripts, with these names of objects,
  -- after so many steps.
  pub record AreScriptsUpTo (count : ℕ) (sources : List Source) (number : ℕ) (source : Source)
      (scripts : List (List ScriptLine)) (objects : List Text) : Type 0 where
    pub first : List Source
    pub rest : List Source
    pub texts : List Text
    pub split : sources ≡ first ++ source ∷ rest
    pub numbered : number ≡ length first
    pub read : SayScripts count [] first scripts objects texts

-- ---- what scripts ask for

-- what a text asks for, after these names, where it may ask for something; and the names then
abbrev pub lines_in : Bool → List Text → Text → List SyncLine
lines_in ordered names text = if ordered then sync_lines_of names text else []

abbrev pub names_in : Bool → List Text → Text → List Text
names_in ordered names text = if ordered then names_after names text else names

-- what the texts of scripts ask for, one by one, after these names
abbrev pub asked_behind : Bool → List Text → List Text → List (List SyncLine)
asked_behind ordered names [] = []
asked_behind ordered names (text ∷ texts) =
    lines_in ordered names text ∷ asked_behind ordered (names_in ordered names text) texts

-- and the names then
abbrev pub names_behind_all : Bool → List Text → List Text → List Text
names_behind_all ordered names [] = names
names_behind_all ordered names (text ∷ texts) = names_behind_all ordered (names_in ordered names text) texts

-- what the texts of scripts ask for: the names are told apart in all of them
abbrev pub asked_by : Bool → List Text → List (List SyncLine)
asked_by ordered texts = asked_behind ordered [] texts
