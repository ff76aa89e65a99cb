-- What a place of a compiled property stands for.
use Rattle.std.specs.Prelude.{◌≡◌, ◌≢◌, []}
use Rattle.jm_model.specs.Words.{Word}
use Rattle.jm_model.specs.Meanings.{IsCreated}
use Rattle.jm_machine.specs.declared.place.Place.{Place}
use Rattle.jm_machine.specs.declared.place.Place.TheVariants.{Start, Trap, State, Parse}
use Rattle.jm_machine.specs.Rests.{IsAsked}
use Rattle.jm_machine.specs.PropertyMeanings.{Resets, property_meaning}
use Rattle.jm_machine.specs.Engines.{IsPlaceOf}
use Rattle.jm_machine.specs.CompiledProperties.{CompiledProperty}

module _ (r : CompiledProperty) where
  -- the word has a letter, and its first one may begin an instance's life
  abbrev pub IsBegun : Word → Type 0
  IsBegun w = (w ≢ []) × IsCreated (property_meaning r.definition) w

  -- the word has a letter, and its first one may not
  abbrev pub IsTrap : Word → Type 0
  IsTrap w = (w ≢ []) × (IsCreated (property_meaning r.definition) w → ⊥)

  -- The place stands for the word: what a category is asked of after the word leads to it. Where that resets
  -- the property, the next letter leads on from the start.
  abbrev pub Stands : Place → Word → Type 0
  Stands place w =
      (asked : Word) × IsAsked (Resets r.definition) w asked × IsPlaceOf r.engine place asked

  -- the place of a word: that of the empty word, that of words that can't begin so, and those of the states and
  -- charts that stand for the others
  abbrev pub IsPlaceAfter : Place → Word → Type 0
  IsPlaceAfter Start w = w ≡ []
  IsPlaceAfter Trap w = IsTrap w
  IsPlaceAfter (State s) w = IsBegun w × Stands (State s) w
  IsPlaceAfter (Parse c) w = IsBegun w × Stands (Parse c) w
