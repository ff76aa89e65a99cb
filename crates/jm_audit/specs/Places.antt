-- How an allowed text goes on, block by block.
use Rattle.std.specs.Prelude.{ℕ, ◌+◌, ◌≡◌, ◌≢◌, ◌⊎◌, List, [], ◌∷◌, ◌++◌, Option, Some, None, length, slice_get, codes, decimal}
use Rattle.jm_model.specs.Words.{Text}
use Rattle.jm_model.specs.Meanings.{Meaning}
use Rattle.jm_model.specs.declared.step.Entry.{Entry}
use Rattle.jm_model.specs.declared.step.Outcome.TheVariants.{NoMemory}
use Rattle.jm_model.specs.declared.step.Step.{Step}
use Rattle.jm_semantics.specs.Scripts.{steps_of}
use Rattle.jm_semantics.specs.Legality.{IsStepOf, IsReply}
use Rattle.jm_print.specs.Lexicons.{Lexicon}
use Rattle.jm_print.specs.Texts.{full_entry_text}
use Rattle.jm_script.specs.declared.script.ScriptLine.{ScriptLine}
use Rattle.jm_audit.specs.Allowed.{steps_on}
use Rattle.jm_audit.specs.Guides.{IsOneLine, Says, Guided}

-- where a text stands: in front of the history of the specification of this number, or within it, after these entries
pub data Place : Type 0 where
  before : ℕ → Place
  within : ℕ → List Entry → Place

-- the first line of a history
abbrev pub head_text : Lexicon → Text
head_text l = codes "spec " ++ l.specification ++ codes "\n"

-- the last line of a history with so many entries
abbrev pub end_text : ℕ → Text
end_text entries = codes "end " ++ decimal entries ++ codes "\n"

-- the entry may follow: it is of the caller and the first of its steps that isn't done, with the reply to it
pub record IsNextEntry (m : Meaning) (lists : List (List (ℕ × Step))) (h : List Entry) (caller : ℕ)
    (x : Entry) : Type 0 where
  pub by : x.caller ≡ caller
  pub later : List (ℕ × Step)
  pub first : slice_get lists caller ≡ Some (steps_of caller h ++ (x.line, x.step) ∷ later)
  pub own : IsStepOf m x.step
  pub reply : IsReply m h x.step x.outcome
  pub done : x.outcome ≢ NoMemory

-- each caller has done all of its steps
abbrev pub AreAllDone : List (List (ℕ × Step)) → List Entry → Type 0
AreAllDone lists h = (k : ℕ) (own : List (ℕ × Step)) → slice_get lists k ≡ Some own → own ≡ steps_of k h

module _ {X : Type 0} (mean : X → Meaning) (words : X → Lexicon) (scripts : List (List ScriptLine))
    (xs : List X) where
  -- From a place a text goes on with a block to the next place. The head of a history is said by caller 0, an entry by
  -- its caller, and the last line by none of the callers but by the number after theirs.
  abbrev pub Writes : Place → ℕ → Text → Place → Type 0
  Writes (before n) k block next =
      (x : X) × (slice_get xs n ≡ Some x) × (k ≡ 0) × (block ≡ head_text (words x)) × (next ≡ within n [])
  Writes (within n h) k block next =
      (x : X) × (slice_get xs n ≡ Some x)
      × (((e : Entry) × IsNextEntry (mean x) (steps_on scripts n) h k e × (block ≡ full_entry_text (words x) e)
      × (next ≡ within n (h ++ e ∷ [])))
      ⊎ (AreAllDone (steps_on scripts n) h × (k ≡ length scripts) × (block ≡ end_text (length h))
      × (next ≡ before (n + 1))))

  -- the same by the first line of the block and the lines after it
  abbrev pub Goes : Place → ℕ → Text → Text → Place → Type 0
  Goes s k line more next = IsOneLine line × Writes s k (line ++ 10 ∷ [] ++ more) next

  -- all histories are told
  abbrev pub Ends : Place → Text → Type 0
  Ends (before n) v = (slice_get xs n ≡ None) × (v ≡ [])
  Ends (within n h) v = ⊥

  -- What may be said from a place on: where the text that guides was left, whatever may; else what it guides to.
  abbrev pub GoesOn : Place → Option Text → Text → Type 0
  GoesOn s None w = Says Goes Ends s w
  GoesOn s (Some rest) w = Guided Goes Ends s rest w

  -- So much was written under the guidance of the text, up to this place, where this is left of the text, unless it was
  -- left.
  abbrev pub IsWritten : Text → Text → Option Text → Place → Type 0
  IsWritten text written rest s = (w : Text) → GoesOn s rest w → Guided Goes Ends (before 0) text (written ++ w)

-- what is left of the text after a block, if the text goes on with it
abbrev pub IsLeftBehind : Text → Option Text → Option Text → Type 0
IsLeftBehind block None None = Unit {0}
IsLeftBehind block None (Some r) = ⊥
IsLeftBehind block (Some rest) None = (r : Text) → rest ≢ block ++ r
IsLeftBehind block (Some rest) (Some r) = rest ≡ block ++ r
