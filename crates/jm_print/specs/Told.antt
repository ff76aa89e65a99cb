-- What a text has to know of its names and its entries to be read back.
use Rattle.std.specs.Prelude.{ℕ, ◌≡◌, ◌≢◌, ◌<◌, ◌^◌, ◌++◌, List, [], ◌∷◌, length, slice_get, Some, None}
use Rattle.jm_model.specs.Words.{Text}
use Rattle.jm_model.specs.declared.binding.Binding.{Binding}
use Rattle.jm_model.specs.declared.firings.Firing.{Firing}
use Rattle.jm_model.specs.declared.step.Step.{Step}
use Rattle.jm_model.specs.declared.step.Step.TheVariants.{Event, Pass}
use Rattle.jm_model.specs.declared.step.Outcome.{Outcome}
use Rattle.jm_model.specs.declared.step.Outcome.TheVariants.{Fired, Refused, Kept}
use Rattle.jm_model.specs.declared.step.Entry.{Entry}
use Rattle.jm_print.specs.Lexicons.{Lexicon}
use Rattle.jm_print.specs.Texts.{IsPrintable, history_text}

-- a byte that stands in no name: none of line feed, space, `,` and `=`
abbrev pub IsNameByte : ℕ → Type 0
IsNameByte c = (c ≢ 10) × (c ≢ 32) × (c ≢ 44) × (c ≢ 61)

-- each byte of a text is one of a name
abbrev pub IsName : Text → Type 0
IsName [] = Unit {0}
IsName (c ∷ cs) = IsNameByte c × IsName cs

-- these are names, each a different one
pub record AreNames (names : List Text) : Type 0 where
  pub each : (k : ℕ) (name : Text) → slice_get names k ≡ Some name → IsName name
  pub distinct : (j k : ℕ) (name : Text) → slice_get names j ≡ Some name → slice_get names k ≡ Some name → j ≡ k

-- the parameters, events, handlers and objects of a lexicon are names
pub record HasNames (l : Lexicon) : Type 0 where
  pub parameters : AreNames l.parameters
  pub events : AreNames l.events
  pub handlers : AreNames l.handlers
  pub objects : AreNames l.objects

-- some parameter is bound
abbrev pub BindsSome : Binding → Type 0
BindsSome [] = ⊥
BindsSome (None ∷ b) = BindsSome b
BindsSome (Some o ∷ b) = Unit {0}

-- a firing's instance has eight places
abbrev pub HaveEight : List Firing → Type 0
HaveEight [] = Unit {0}
HaveEight (f ∷ fs) = (length f.instance ≡ 8) × HaveEight fs

-- bindings have eight places, a refused event binds an object, and the count of a pass fits 64 bits
abbrev pub FitsStep : Step → Outcome → Type 0
FitsStep (Event e b) (Fired firings) = (length b ≡ 8) × HaveEight firings
FitsStep (Event e b) (Refused o) = (length b ≡ 8) × BindsSome b
FitsStep Pass (Kept n) = n < 2 ^ 64
FitsStep _ _ = Unit {0}

-- an entry that its line tells
pub record IsTold (l : Lexicon) (x : Entry) : Type 0 where
  pub printable : IsPrintable l x
  pub fits : FitsStep x.step x.outcome
  pub caller : x.caller < 2 ^ 64
  pub line : x.line < 2 ^ 64

-- each entry is told by its line
abbrev pub AreTold : Lexicon → List Entry → Type 0
AreTold l [] = Unit {0}
AreTold l (x ∷ h) = IsTold l x × AreTold l h

-- ---- several specifications
-- the parameters, events, handlers and objects of each lexicon are names
abbrev pub HaveNames : List Lexicon → Type 0
HaveNames [] = Unit {0}
HaveNames (l ∷ ls) = HasNames l × HaveNames ls

-- a history for each lexicon, each told by its text
abbrev pub AreToldBy : List Lexicon → List (List Entry) → Type 0
AreToldBy [] [] = Unit {0}
AreToldBy (l ∷ ls) (h ∷ hs) = AreTold l h × AreToldBy ls hs
AreToldBy _ _ = ⊥

-- the texts of these histories, one after another
abbrev pub texts_of : List Lexicon → List (List Entry) → Text
texts_of (l ∷ ls) (h ∷ hs) = history_text l h ++ texts_of ls hs
texts_of _ _ = []
