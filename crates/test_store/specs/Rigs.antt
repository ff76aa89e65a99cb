-- A store that fits rules and a table of objects, with no plan open.
use Rattle.std.specs.Prelude.{◌≡◌, List, Bool, false}
use Rattle.jm_model.specs.Words.{Word}
use Rattle.jm_model.specs.Meanings.{Meaning}
use Rattle.jm_store.specs.Contents.{Contents, IsFitFor}

pub record FitsRules (m : Meaning) {S : Type 0} (Stands : S → Word → Type 0) (store : Contents S)
    (dead : List Bool) : Type 0 where
  pub closed : store.is_open ≡ false
  pub fits : IsFitFor m Stands store dead
