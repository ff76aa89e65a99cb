-- The text of a command.
use Rattle.std.specs.Prelude.{ℕ, ◌≡◌, List, [], ◌∷◌, ◌++◌, length, slice_get, IfSome, codes}
use Rattle.std.specs.Fmt.{decimal}
use Rattle.std.specs.List.{flat_map}
use Rattle.jm_model.specs.Words.{Text, Mask}
use Rattle.jm_semantics.specs.Families.{IsFamily}
use Rattle.jm_machine.specs.HandlerNames.{names_of}
use Rattle.jm_script.specs.declared.script.ScriptLine.{ScriptLine}
use Rattle.jm_audit.specs.declared.verdict.Verdict.{Verdict}
use Rattle.jm_audit.specs.declared.verdict.Verdict.TheVariants.{Yes, No}
use Rattle.jm_audit.specs.Verdicts.{IsVerdict}
use Rattle.jm_print.specs.Checks.{check_text}
use Rattle.jm_print.specs.Coenables.{coenable_text}
use Rattle.jm_cli.specs.Words.CommandWords.{Replay, Run, Check, Coenable, Gen, Sweep, Audit}
use Rattle.jm_inputs.specs.Specifications.{Specification, meaning_of}
use Rattle.jm_top.specs.Histories.{IsTextOfHistories, IsTextOfOrdered, IsTextOfSummaries, IsTextOfParts}
use Rattle.jm_inputs.specs.Jobs.{Job, Refused, Accepted, AcceptedParts, AcceptedAudit}

-- what a specification declares
abbrev pub declared_text : Specification → Text
declared_text s = check_text s.name s.logics s.full_binding s.suffix s.table (names_of s.rules)

-- each letter of the specification has its coenable family among these
pub record AreFamiliesOf (s : Specification) (families : List (List Mask)) : Type 0 where
  pub many : length families ≡ length s.table.events
  pub each : (letter : ℕ) → IfSome (slice_get families letter) (IsFamily (meaning_of s) letter)

-- the text is that of the coenable families of a specification
pub record IsTextOfFamily (s : Specification) (text : Text) : Type 0 where
  pub families : List (List Mask)
  pub each : AreFamiliesOf s families
  pub printed : text ≡ coenable_text s.name s.table families

-- and of each of these, in order
abbrev pub IsTextOfFamilies : List Specification → Text → Type 0
IsTextOfFamilies [] text = text ≡ []
IsTextOfFamilies (s ∷ specs) text =
    (first : Text) × (more : Text) × (text ≡ first ++ more) × IsTextOfFamily s first × IsTextOfFamilies specs more

-- what is said of a verdict
abbrev pub verdict_text : Verdict → Text
verdict_text Yes = codes "yes" ++ 10 ∷ []
verdict_text (No line) = codes "no, line " ++ decimal line ++ 10 ∷ []

-- The text says the verdict on a history: whether it is a text that a run of the scripts over the specifications may
-- print, or the line after the greatest number of whole lines with which such a text begins too.
pub record IsTextOfVerdict (specs : List Specification) (scripts : List (List ScriptLine)) (objects : List Text)
    (history text : Text) : Type 0 where
  pub verdict : Verdict
  pub right : IsVerdict (IsTextOfHistories specs scripts objects) history verdict
  pub printed : text ≡ verdict_text verdict

-- the text is one of the job, which isn't refused
abbrev pub IsTextOf : Job → Text → Type 0
IsTextOf (Refused status) text = ⊥
IsTextOf (Accepted (Replay spec script) specs scripts objects asked) text =
    IsTextOfOrdered specs scripts asked objects text
IsTextOf (Accepted (Run names files) specs scripts objects asked) text =
    IsTextOfOrdered specs scripts asked objects text
IsTextOf (Accepted (Check names) specs scripts objects asked) text = text ≡ flat_map declared_text specs
IsTextOf (Accepted (Coenable names) specs scripts objects asked) text = IsTextOfFamilies specs text
IsTextOf (Accepted (Gen n) specs scripts objects asked) text = IsTextOfSummaries specs scripts text
IsTextOf (Accepted (Sweep spec recording) specs scripts objects asked) text = ⊥
IsTextOf (Accepted (Audit history names files) specs scripts objects asked) text = ⊥
IsTextOf (AcceptedParts specs parts) text = IsTextOfParts specs parts text
IsTextOf (AcceptedAudit specs scripts objects history) text = IsTextOfVerdict specs scripts objects history text
