-- What becomes of a list to which a slot is added.
use Rattle.std.specs.Prelude.{◌≡◌, ◌≢◌, ◌⊎◌, true, List, Contains, AllPairs}
use Rattle.jm_awake.specs.Awake.{SlotList, is_there}
use Rattle.jm_awake.specs.declared.card.Listed.{Listed}
use Rattle.jm_awake.specs.declared.card.Card.{Card}

-- The list was kept, and is the same letter's and binding's. It has the new entry, what it had, but for what counts for
-- nothing, and nothing else. It has none twice, if it had none twice and hadn't the new one.
pub record IsAddedTo (cards : List Card) (entry : Listed) (old new : SlotList) : Type 0 where
  pub kept : old.is_kept ≡ true
  pub letter : new.letter ≡ old.letter
  pub binding : new.binding ≡ old.binding
  pub here : Contains new.entries entry
  pub all : (x : Listed) → Contains old.entries x → is_there cards x ≡ true → Contains new.entries x
  pub among : (x : Listed) → Contains new.entries x → Contains old.entries x ⊎ (x ≡ entry)
  pub apart : AllPairs (λ x y. x ≢ y) old.entries → (Contains old.entries entry → ⊥)
      → AllPairs (λ x y. x ≢ y) new.entries
