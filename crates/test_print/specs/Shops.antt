-- Histories that can be printed with any names of which there are enough.
use Rattle.std.specs.Prelude.{◌≡◌, length}
use Rattle.jm_model.specs.declared.step.Entry.{Entry}
use Rattle.jm_print.specs.Lexicons.{Lexicon}
use Rattle.jm_print.specs.Texts.{IsPrintable}

-- names of eight parameters, two events, two handlers and two objects
pub record HasEnough (l : Lexicon) : Type 0 where
  pub parameters : length l.parameters ≡ 8
  pub events : length l.events ≡ 2
  pub handlers : length l.handlers ≡ 2
  pub objects : length l.objects ≡ 2

-- an entry that can be printed with these
abbrev pub IsModest : Entry → Type 0
IsModest x = (l : Lexicon) → HasEnough l → IsPrintable l x
