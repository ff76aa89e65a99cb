-- What a step of a case may be done on.
use Rattle.std.specs.Prelude.{ℕ, ◌≡◌, ◌<◌, All, length, slice_index, count_ones}
use Rattle.jm_model.specs.Meanings.{Meaning}
use Rattle.jm_dispatch.specs.Masks.{AreMasksOf}
use Rattle.test_dispatch.specs.declared.steps.Act.{Act}
use Rattle.test_dispatch.specs.declared.steps.Act.TheVariants.{Emit, Die, PassBy}
use Rattle.test_dispatch.specs.declared.steps.Letters.{Letters}

-- they are the letters of the meaning, with their parameters
pub record AreLettersOf (m : Meaning) (l : Letters) : Type 0 where
  pub count : l.count ≡ m.letters
  pub masks : AreMasksOf m l.masks

-- the letter is there, and has as many objects as parameters, each below n
abbrev pub Suits : Letters → ℕ → Act → Type 0
Suits l n (Emit letter args) = (letter.0 < l.count) × (length args.items ≡ count_ones (slice_index l.masks letter.0))
    × All (λ o. o < n) args.items
Suits l n (Die object) = object < n
Suits l n PassBy = Unit {0}
