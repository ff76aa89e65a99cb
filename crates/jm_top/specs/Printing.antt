-- What the calls that print histories answer.
use Rattle.std.specs.Prelude.{List, [], ◌∷◌, ◌++◌, All}
use Rattle.jm_model.specs.Words.{Text}
use Rattle.jm_model.specs.declared.step.Entry.{Entry}
use Rattle.jm_machine.specs.RuleSets.{CompiledRules}
use Rattle.jm_print.specs.Lexicons.{Lexicon}
use Rattle.jm_print.specs.Texts.{IsPrintable}
use Rattle.jm_print.specs.Summaries.{summary_text}
use Rattle.jm_script.specs.Catalogs.{CatalogEntry}
use Rattle.jm_inputs.specs.declared.specification.SpecHeader.{SpecHeader}
use Rattle.jm_inputs.specs.Specifications.{Specification}
use Rattle.jm_inputs.specs.Reading.{titled}

-- the specifications of these entries, with these headers and rules
abbrev pub titled_by : List CatalogEntry → List SpecHeader → List CompiledRules → List Specification
titled_by (e ∷ es) (t ∷ ts) (r ∷ rs) = titled e t r.definition ∷ titled_by es ts rs
titled_by _ _ _ = []

-- each history can be printed by its lexicon
abbrev pub ArePrintable : List Lexicon → List (List Entry) → Type 0
ArePrintable (l ∷ ls) (h ∷ hs) = All (IsPrintable l) h × ArePrintable ls hs
ArePrintable _ _ = Unit {0}

-- the summaries of histories by these entries
abbrev pub entry_summaries : List CatalogEntry → List (List Entry) → Text
entry_summaries (e ∷ es) (h ∷ hs) = summary_text e.name h ++ entry_summaries es hs
entry_summaries _ _ = []
