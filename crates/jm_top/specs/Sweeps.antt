-- What the calls that sweep a recording answer.
use Rattle.std.specs.Prelude.{ℕ, ◌+◌, ◌≡◌, ◌≤◌, List, [], ◌∷◌, ◌++◌, length}
use Rattle.jm_model.specs.Words.{Text}
use Rattle.jm_sweep.specs.Recordings.{LiesWithin}
use Rattle.jm_inputs.specs.declared.spec_set.SpecSet.{SpecSet}
use Rattle.jm_top.specs.declared.sweep.Piece.{Piece}
use Rattle.jm_inputs.specs.Specifications.{Specification, most_bytes}
use Rattle.jm_inputs.specs.Scripts.{IsScript}
use Rattle.jm_top.specs.Histories.{IsTextOfHistories, IsTextOfParts}
use Rattle.jm_inputs.specs.Recordings.{RecordedPart, steps_of_parts, SayParts, IsRecording}
use Rattle.jm_inputs.specs.Reading.{IsCatalogued}

-- a spec set of one specification
pub record IsOfOne (spec_set : SpecSet) : Type 0 where
  pub one : length spec_set.specs.items ≡ 1
  pub catalogued : IsCatalogued spec_set

-- the bytes of a span can be replayed over the specification of the spec set
pub record CanReplay (spec_set : SpecSet) (bytes : Text) (span : ℕ × ℕ) : Type 0 where
  pub of_one : IsOfOne spec_set
  pub small : length bytes ≤ most_bytes
  pub within : LiesWithin bytes span

-- the bytes say a part, after so many steps, of which the piece has the number of steps and the text
pub record IsPieceOf (specs : List Specification) (count : ℕ) (bytes : Text) (piece : Piece) : Type 0 where
  pub part : RecordedPart
  pub said : IsScript specs count [] bytes part.script part.objects
  pub counted : piece.steps ≡ length part.script
  pub is_text : IsTextOfHistories specs (part.script ∷ []) part.objects piece.text.items

-- the bytes say one part more, after so many steps, whose text was added; and how many steps there are then
pub record HasPart (specs : List Specification) (count : ℕ) (bytes old new : Text) (count_then : ℕ) : Type 0 where
  pub part : RecordedPart
  pub text : Text
  pub said : IsScript specs count [] bytes part.script part.objects
  pub counted : count_then ≡ count + length part.script
  pub few : count_then ≤ 200000
  pub added : new ≡ old ++ text
  pub is_text : IsTextOfHistories specs (part.script ∷ []) part.objects text

-- these are the parts that the texts say, how many steps they have, and their text
pub record IsSweptSoFar (specs : List Specification) (texts : List Text) (count : ℕ) (text : Text) : Type 0 where
  pub parts : List RecordedPart
  pub said : SayParts specs 0 texts parts
  pub counted : count ≡ steps_of_parts parts
  pub few : count ≤ 200000
  pub is_text : IsTextOfParts specs parts text

-- the bytes say parts, none of which has a fault, and this is their text
pub record IsSweptWhole (specs : List Specification) (bytes text : Text) : Type 0 where
  pub parts : List RecordedPart
  pub said : IsRecording specs bytes parts
  pub is_text : IsTextOfParts specs parts text
