-- The states and the aliases of a machine by what is written of them in the formula, with no word of how they are made.
use Rattle.std.specs.Prelude.{ℕ, ◌≡◌, ◌==◌, false, List, [], ◌∷◌, map, Option, Some, None, MatchOption, option_map, unwrap_or, if◌then◌else◌}
use Rattle.std.specs.Option.{option_or}
use Rattle.jm_model.specs.Words.{Text}
use Rattle.jm_text.specs.declared.token.Token.{Token}
use Rattle.jm_reading.specs.Tokens.{name_of}
use Rattle.jm_events.specs.Names.{number_of}
use Rattle.jm_fsm.specs.declared.machine.Destination.TheVariants.{Fail}
use Rattle.jm_fsm.specs.declared.formula.TransitionText.{TransitionText}
use Rattle.jm_fsm.specs.declared.formula.TransitionText.TheVariants.{On, Fallback}
use Rattle.jm_fsm.specs.declared.formula.Part.{Part}
use Rattle.jm_fsm.specs.declared.formula.Part.TheVariants.{Declaration, Alias}
use Rattle.jm_fsm.specs.Faults.{destination_named}
use Rattle.jm_fsm.specs.Machines.{StateDefinition, AliasDefinition}
use Rattle.jm_fsm.specs.Meanings.{destination_of}

-- the name after `default`, if it is written
abbrev pub default_of : List TransitionText → Option Token
default_of [] = None
default_of (On event destination ∷ ts) = default_of ts
default_of (Fallback word destination ∷ ts) = option_or (default_of ts) (Some destination)

module _ (bytes : Text) (events : List Text) where
  -- the name after the arrow of the event that has the letter, if it is written
  abbrev pub arrow_of : List TransitionText → ℕ → Option Token
  arrow_of [] letter = None
  arrow_of (On event destination ∷ ts) letter =
      if unwrap_or (option_map (λ (k : ℕ). k == letter) (number_of events (name_of bytes event))) false
      then Some destination else arrow_of ts letter
  arrow_of (Fallback word destination ∷ ts) letter = arrow_of ts letter

-- A state is as it is written: it has this name, and each letter leads to the state whose name is after the arrow of
-- its event; without an arrow, to the state whose name is after `default`; and without that, to `fail`.
pub record IsAsWritten (bytes : Text) (events states : List Text) (name : Token) (ts : List TransitionText)
    (s : StateDefinition) : Type 0 where
  pub named : s.name ≡ name_of bytes name
  pub leads : (letter : ℕ)
      → MatchOption (arrow_of bytes events ts letter)
      (MatchOption (default_of ts) (destination_of s letter ≡ Fail)
      (λ destination. destination_named states (name_of bytes destination) ≡ Some (destination_of s letter)))
      (λ destination. destination_named states (name_of bytes destination) ≡ Some (destination_of s letter))

-- the states are those that are declared, in their order, each as it is written
module _ (bytes : Text) (events states : List Text) where
  abbrev pub AreAsWritten : List Part → List StateDefinition → Type 0
  AreAsWritten [] ss = ss ≡ []
  AreAsWritten (Declaration name ts ∷ ps) [] = ⊥
  AreAsWritten (Declaration name ts ∷ ps) (s ∷ ss) = IsAsWritten bytes events states name ts s × AreAsWritten ps ss
  AreAsWritten (Alias name members ∷ ps) ss = AreAsWritten ps ss

-- An alias is as it is written: it has this name, and its members are the states that are named, in their order.
pub record IsAliasAsWritten (bytes : Text) (states : List Text) (name : Token) (members : List Token)
    (a : AliasDefinition) : Type 0 where
  pub named : a.name ≡ name_of bytes name
  pub listed : map (λ member. destination_named states (name_of bytes member)) members ≡ map Some a.members

-- the aliases are those that are written, in their order, each as it is written
module _ (bytes : Text) (states : List Text) where
  abbrev pub AreAliasesAsWritten : List Part → List AliasDefinition → Type 0
  AreAliasesAsWritten [] aliases = aliases ≡ []
  AreAliasesAsWritten (Alias name members ∷ ps) [] = ⊥
  AreAliasesAsWritten (Alias name members ∷ ps) (a ∷ aliases) =
      IsAliasAsWritten bytes states name members a × AreAliasesAsWritten ps aliases
  AreAliasesAsWritten (Declaration name ts ∷ ps) aliases = AreAliasesAsWritten ps aliases
