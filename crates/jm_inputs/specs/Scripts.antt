-- What a file says that is a script, after others, and what is wrong with one that isn't.
use Rattle.std.specs.Prelude.{ℕ, ◌≡◌, ◌<◌, ◌≤◌, Bool, List, [], length, map, Some, None, if◌then◌else◌}
use Rattle.jm_model.specs.Words.{Text}
use Rattle.jm_model.specs.declared.fault.ScriptFault.{ScriptFault}
use Rattle.jm_model.specs.declared.fault.ScriptFault.TheVariants.{TooLong}
use Rattle.jm_script.specs.declared.script.ScriptLine.{ScriptLine}
use Rattle.jm_script.specs.Catalogs.{CatalogEntry}
use Rattle.jm_script.specs.Meanings.{ScriptMeaning, script_meaning}
use Rattle.jm_sync.specs.Cuts.{rest_of, sync_lines_of, names_after}
use Rattle.jm_inputs.specs.Specifications.{Specification, most_bytes}

-- a specification as scripts may name it
abbrev pub entry_of : Specification → CatalogEntry
entry_of s = record { name = s.name; table = s.table }

-- the specifications that scripts may name
abbrev pub catalog_of : List Specification → List CatalogEntry
catalog_of specs = map entry_of specs

-- what a script means, after so many steps and with these names of objects, which the scripts before it have
abbrev pub meaning_over : List Specification → ℕ → List Text → Text → ScriptMeaning
meaning_over specs count names bytes = script_meaning (catalog_of specs) count bytes names

-- the bytes say these steps, and these are the names of objects then: no line has a fault
pub record IsScript (specs : List Specification) (count : ℕ) (names : List Text) (bytes : Text)
    (script : List ScriptLine) (objects : List Text) : Type 0 where
  pub small : length bytes ≤ most_bytes
  pub sound : (meaning_over specs count names bytes).fault ≡ None
  pub lines : script ≡ (meaning_over specs count names bytes).lines
  pub named : objects ≡ (meaning_over specs count names bytes).names

-- the first fault of the bytes: they are too many, or a line has it
pub data IsScriptFault (specs : List Specification) (count : ℕ) (names : List Text) (bytes : Text) : ScriptFault
    → Type 0 where
  too_long : most_bytes < length bytes → IsScriptFault specs count names bytes TooLong
  in_line : (fault : ScriptFault)
      → length bytes ≤ most_bytes
      → (meaning_over specs count names bytes).fault ≡ Some fault
      → IsScriptFault specs count names bytes fault

-- what is read of a file: all of it, or what is left once the lines that ask for order are taken out
abbrev pub steps_text : Bool → Text → Text
steps_text ordered bytes = if ordered then rest_of bytes else bytes

-- The bytes of a file say these steps, and these are the names of objects then: no line of what is read has a fault.
pub record IsScriptFile (ordered : Bool) (specs : List Specification) (count : ℕ) (names : List Text) (bytes : Text)
    (script : List ScriptLine) (objects : List Text) : Type 0 where
  pub small : length bytes ≤ most_bytes
  pub said : IsScript specs count names (steps_text ordered bytes) script objects

-- the first fault of the bytes of such a file: they are too many, or a line that is read has it
pub data IsScriptFileFault (ordered : Bool) (specs : List Specification) (count : ℕ) (names : List Text)
    (bytes : Text) : ScriptFault → Type 0 where
  file_too_long : most_bytes < length bytes → IsScriptFileFault ordered specs count names bytes TooLong
  in_file : (fault : ScriptFault)
      → length bytes ≤ most_bytes
      → (meaning_over specs count names (steps_text ordered bytes)).fault ≡ Some fault
      → IsScriptFileFault ordered specs count names bytes fault

-- bytes that ask for no order: nothing is taken out of them, whatever names were read before
pub record IsSilent (bytes : Text) : Type 0 where
  pub rest : rest_of bytes ≡ bytes
  pub lines : (names : List Text) → sync_lines_of names bytes ≡ []
  pub names : (names : List Text) → names_after names bytes ≡ names
