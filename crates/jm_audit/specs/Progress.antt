-- A history that is being written.
use Rattle.std.specs.Prelude.{ℕ, ◌≡◌, ◌≤◌, List, [], ◌∷◌, ◌++◌, All, Option, Some, length}
use mathlib.Core.List.{IsPrefix}
use Rattle.jm_model.specs.Words.{Text}
use Rattle.jm_model.specs.Meanings.{Meaning}
use Rattle.jm_model.specs.declared.step.Entry.{Entry}
use Rattle.jm_model.specs.declared.step.Step.{Step}
use Rattle.jm_semantics.specs.Histories.{trace_of}
use Rattle.jm_semantics.specs.Traces.{seen_of}
use Rattle.jm_script.specs.Catalogs.{most_scripts}
use Rattle.jm_print.specs.Lexicons.{Lexicon}
use Rattle.jm_print.specs.Names.{IsNamed}
use Rattle.jm_print.specs.Texts.{full_entry_text}
use Rattle.jm_audit.specs.Accounts.{IsAccountOf}
use Rattle.jm_audit.specs.Pending.{AreUnderway, HasLeft, mark}
use Rattle.jm_audit.specs.Places.{IsNextEntry, IsLeftBehind}
use Rattle.jm_audit.specs.Sheets.{IsFit}
use Rattle.jm_audit.specs.declared.progress.Progress.{Progress}

-- The account is that of the entries, what was seen has names, each object has a flag, and the steps that are left fit.
pub record IsReady (m : Meaning) (l : Lexicon) (now : Progress) : Type 0 where
  pub handlers : m.handlers ≤ length l.handlers
  pub account : IsAccountOf m now.history.items now.account
  pub seen : All (IsNamed l) (seen_of (trace_of now.history.items))
  pub room : length now.account.dead.items ≡ length l.objects
  pub fit : All (λ p. IsFit m l p.step) now.pending.items

-- the entry may follow, and of the callers that have a step left the text begins with the mark of no other
pub record IsPickedEntry (m : Meaning) (lists : List (List (ℕ × Step))) (h : List Entry) (rest : Option Text)
    (x : Entry) : Type 0 where
  pub entry : IsNextEntry m lists h x.caller x
  pub left : HasLeft lists h x.caller
  pub picked : (r : Text) → rest ≡ Some r → (j : ℕ) → HasLeft lists h j → IsPrefix (mark j) r → j ≡ x.caller

-- One entry was written, and one step less is to be done, where each caller's steps were underway.
pub record IsWrittenNext (m : Meaning) (l : Lexicon) (before after : Progress) (rest left : Option Text)
    (old new : Text) : Type 0 where
  pub entry : Entry
  pub history : after.history.items ≡ before.history.items ++ entry ∷ []
  pub written : new ≡ old ++ full_entry_text l entry
  pub behind : IsLeftBehind (full_entry_text l entry) rest left
  pub picked : (lists : List (List (ℕ × Step))) → length lists ≤ most_scripts
      → AreUnderway lists before.history.items before.pending.items
      → IsPickedEntry m lists before.history.items rest entry
  pub under : (lists : List (List (ℕ × Step))) → AreUnderway lists before.history.items before.pending.items
      → AreUnderway lists after.history.items after.pending.items
