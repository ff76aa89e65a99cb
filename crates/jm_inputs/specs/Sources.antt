-- Where the files of a command come from, and what they hold.
use Rattle.std.specs.Prelude.{ℕ, ◌≡◌, ◌≤◌, List, [], ◌∷◌, Option, IfSome, IsSome}
use Rattle.jm_model.specs.Words.{Text}

-- what is told of files: the bytes of the file of a name, where they are told
abbrev pub FileContents : Type 0
FileContents = Text → Option Text

-- files of a folder were read: each holds what it held, and the count of faults didn't fall
pub record AreOnlyRead (contents left : FileContents) (faults counted : ℕ) : Type 0 where
  pub same : (name : Text) → left name ≡ contents name
  pub never_falls : faults ≤ counted

-- a file that a folder has by this name, or one whose bytes are given
pub data Source : Type 0 where
  Named : (name : Text) → Source
  Given : (bytes : Text) → Source

-- it is one of a folder
abbrev pub IsFile : Source → Type 0
IsFile (Named name) = Unit {0}
IsFile (Given bytes) = ⊥

-- the file of this name holds these bytes, as far as it is told what files hold
abbrev pub FileHolds : FileContents → Text → Text → Type 0
FileHolds contents name bytes = IfSome (contents name) (λ held. bytes ≡ held)

-- the source gives these bytes
abbrev pub Gives : FileContents → Source → Text → Type 0
Gives contents (Named name) bytes = FileHolds contents name bytes
Gives contents (Given given) bytes = bytes ≡ given

-- it is told what the source gives
abbrev pub IsSourceTold : FileContents → Source → Type 0
IsSourceTold contents (Named name) = IsSome (contents name)
IsSourceTold contents (Given given) = Unit {0}

-- and what each of these does
abbrev pub AllTold : FileContents → List Source → Type 0
AllTold contents [] = Unit {0}
AllTold contents (source ∷ sources) = IsSourceTold contents source × AllTold contents sources
