-- What a call of the reader answers.
use Rattle.std.specs.Prelude.{◌≡◌, List, Option, Some, None, Result, Ok, Err}
use Rattle.jm_model.specs.declared.fault.SpecError.{SpecError}
use Rattle.jm_model.specs.declared.fault.SpecError.TheVariants.{Bad, NoMemory}
use Rattle.jm_model.specs.declared.fault.SpecFault.TheVariants.{Syntax}
use Rattle.jm_text.specs.declared.token.Token.{Token}

-- a call fails where the grammar reads nothing, unless memory is short
abbrev pub FailsAt : {X : Type 0} → SpecError → Option X → Type 0
FailsAt NoMemory read = Unit {0}
FailsAt (Bad (Syntax line)) read = read ≡ None
FailsAt (Bad _) read = ⊥

-- it answers what the grammar reads
abbrev pub Gives : {X : Type 0} → Result X SpecError → Option X → Type 0
Gives (Ok x) read = read ≡ Some x
Gives (Err e) read = FailsAt e read

-- it answers what the grammar reads, and leaves these tokens
abbrev pub Reads : {X : Type 0} → Result X SpecError → List Token → Option (X × List Token) → Type 0
Reads (Ok x) left read = read ≡ Some (x, left)
Reads (Err e) left read = FailsAt e read

-- it leaves these tokens
abbrev pub Leaves : {X : Type 0} → Result X SpecError → List Token → Option (List Token) → Type 0
Leaves (Ok x) left read = read ≡ Some left
Leaves (Err e) left read = FailsAt e read

-- the fault of the grammar
abbrev pub IsSyntax : SpecError → Type 0
IsSyntax (Bad (Syntax line)) = Unit {0}
IsSyntax _ = ⊥
