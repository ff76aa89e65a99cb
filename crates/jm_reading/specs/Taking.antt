-- What a rule takes from the front of the tokens, and what it answers.
use Rattle.std.specs.Prelude.{◌≡◌, ◌<◌, Bool, List, [], ◌∷◌, ◌++◌, length, Option, Some, Result, Ok, Err, IfErr, OnOk}
use Rattle.jm_model.specs.Words.{Text}
use Rattle.jm_model.specs.declared.fault.SpecError.{SpecError}
use Rattle.jm_model.specs.declared.fault.SpecError.TheVariants.{Bad}
use Rattle.jm_model.specs.declared.fault.SpecFault.TheVariants.{Syntax}
use Rattle.jm_text.specs.declared.token.Token.{Token}
use Rattle.jm_reading.specs.declared.cursor.Cursor.{Cursor}
use Rattle.jm_reading.specs.Answers.{FailsAt}
use Rattle.jm_reading.specs.Reading.{◌>>=◌, line_of, mark_at, at_most}

-- what a rule of the grammar reads at the front of tokens, in such bytes
abbrev pub Rule : Type 0 → Type 0
Rule X = Text → List Token → Option (X × List Token)

-- a call takes what the rule reads from the front of what is left, and answers it
abbrev pub Takes : {X : Type 0} → Cursor → Result X SpecError → Cursor → Rule X → Type 0
Takes old (Ok x) new rule = (new.bytes.now ≡ old.bytes.now) × (rule old.bytes.now old.rest.now ≡ Some (x, new.rest.now))
Takes old (Err e) new rule = FailsAt e (rule old.bytes.now old.rest.now)

-- a call that takes one token, or none where it fails, at the next token
pub record TakesOne {X : Type 0} (old : Cursor) (result : Result X SpecError) (new : Cursor) : Type 0 where
  pub err : IfErr result (λ e. e ≡ Bad (Syntax (line_of old.last_line old.rest.now)))
  pub kept : IfErr result (λ e. new.rest.now ≡ old.rest.now)
  pub bytes : new.bytes.now ≡ old.bytes.now
  pub last_line : new.last_line ≡ old.last_line
  pub left : OnOk result (length new.rest.now < length old.rest.now)

-- a rule one time after the other, as long as the tokens go on so: each adds to what was read before, at first this
unfoldable pub folded_at : {X : Type 0} → (Text → List Token → Bool) → (X → Rule X) → X → Rule X
folded_at goes_on rule first bytes tokens =
    at_most (goes_on bytes) (λ x. rule x bytes) (length tokens) first tokens

-- an item more, after those that were read before
abbrev pub with_item : {X : Type 0} → Rule X → List X → Rule (List X)
with_item rule xs bytes tokens = rule bytes tokens >>= λ x. Some (xs ++ x.0 ∷ [], x.1)

-- the items of a rule one after the other, after these, as long as the tokens go on so
abbrev pub many_at : {X : Type 0} → (Text → List Token → Bool) → Rule X → List X → Rule (List X)
many_at goes_on rule xs = folded_at goes_on (with_item rule) xs

-- items with a mark between each two, at least one item, as long as the tokens go on so: One { mark One }
module _ {X : Type 0} (mark : Text) (one : Rule X) where
  abbrev pub more_at : Rule X
  more_at bytes tokens = mark_at bytes mark tokens >>= λ inner. one bytes inner

  unfoldable pub parted_at : (Text → List Token → Bool) → Rule (List X)
  parted_at goes_on bytes tokens = do
    first ← one bytes tokens
    many_at goes_on more_at (first.0 ∷ []) bytes first.1
