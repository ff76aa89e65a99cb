-- What a call of the reader answers.
use Rattle.std.specs.Prelude.{ℕ, ◌≡◌, ◌≤◌, ◌++◌, List, Option, Some, Result, Ok, Err, length}
use Rattle.jm_model.specs.Words.{Text}
use Rattle.jm_model.specs.declared.fault.SpecError.{SpecError}
use Rattle.jm_reading.specs.declared.cursor.Cursor.{Cursor}
use Rattle.jm_reading.specs.Answers.{FailsAt}
use Rattle.jm_text.specs.declared.token.Token.{Token}
use Rattle.jm_ptltl.specs.declared.formula.Node.{Node}
use Rattle.jm_ptltl.specs.Formulas.{Formula, postfix}
use Rattle.jm_ptltl.specs.Rules.{Read, Reader, formula_from}

-- the formula that is read stands after these nodes, and these tokens are left
abbrev pub AddsNodes : List (Node Token) → List (Node Token) → List Token → Option Read → Type 0
AddsNodes before after left read = (f : Formula Token) × (read ≡ Some (f, left)) × (after ≡ before ++ postfix f)

-- it adds the nodes of what the grammar reads after these, and leaves these tokens
abbrev pub Adds : {X : Type 0} → Result X SpecError → List (Node Token) → List (Node Token) → List Token → Option Read
    → Type 0
Adds (Ok x) before after left read = AddsNodes before after left read
Adds (Err e) before after left read = FailsAt e read

-- it answers the nodes of what the grammar reads
abbrev pub Gives : Result (List (Node Token)) SpecError → Option (Formula Token) → Type 0
Gives (Ok nodes) read = (f : Formula Token) × (read ≡ Some f) × (nodes ≡ postfix f)
Gives (Err e) read = FailsAt e read

-- it adds the nodes of what the grammar reads, where `rule` is given a reader for what stands in parentheses: for each
-- limit on their number that these tokens can't reach
abbrev pub AddsBy : {X : Type 0} → Text → (Reader → Reader) → Result X SpecError
    → List (Node Token) → List (Node Token) → List Token → List Token → Type 0
AddsBy bytes rule r before after tokens left =
    (n : ℕ) → length tokens ≤ n → Adds r before after left (rule (formula_from bytes n) tokens)

-- a call takes what the rule reads from the front of what is left, and adds its nodes after these
abbrev pub Takes : {X : Type 0} → Cursor → Result X SpecError → Cursor → (Text → Reader → Reader)
    → List (Node Token) → List (Node Token) → Type 0
Takes old r new rule before after =
    AddsBy old.bytes.now (rule old.bytes.now) r before after old.rest.now new.rest.now
