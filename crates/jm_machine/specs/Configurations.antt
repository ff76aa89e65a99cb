-- What a state of compiled rules stands for.
use Rattle.std.specs.Prelude.{ℕ, ◌≡◌, List, [], Some, length, slice_get, unwrap_or}
use Rattle.jm_model.specs.Words.{Word}
use Rattle.jm_machine.specs.declared.place.Place.{Place}
use Rattle.jm_machine.specs.declared.place.Place.TheVariants as place
use Rattle.jm_machine.specs.declared.configuration.Configuration.{Configuration}
use Rattle.jm_machine.specs.declared.configuration.Configuration.TheVariants.{Start, Trap, State, Single, Several}
use Rattle.jm_machine.specs.CompiledProperties.{CompiledProperty}
use Rattle.jm_machine.specs.Places.{IsPlaceAfter}
use Rattle.jm_machine.specs.RuleSets.{CompiledRules}

-- the place of property k: that of the list, or else this one
abbrev pub place_at : List Place → Place → ℕ → Place
place_at places otherwise k = unwrap_or (slice_get places k) otherwise

-- after the word each property is at its place
abbrev pub AreAfter : List CompiledProperty → List Place → Place → Word → Type 0
AreAfter parts places otherwise w =
    (k : ℕ) (part : CompiledProperty) → slice_get parts k ≡ Some part
    → IsPlaceAfter part (place_at places otherwise k) w

-- the configuration of a word: one where each property is at its place after the word
abbrev pub IsConfigurationOf : CompiledRules → Configuration → Word → Type 0
IsConfigurationOf r Start w = AreAfter r.parts [] place.Start w
IsConfigurationOf r Trap w = AreAfter r.parts [] place.Trap w
IsConfigurationOf r (State s) w = (length r.parts ≡ 1) × AreAfter r.parts [] (place.State s) w
IsConfigurationOf r (Single here) w = (length r.parts ≡ 1) × AreAfter r.parts [] here.value w
IsConfigurationOf r (Several each) w = AreAfter r.parts each.value.items place.Start w
