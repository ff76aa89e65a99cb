-- What tables of states mean: tables of states, four letters wide, with a mask of handlers for each state.
use Rattle.std.specs.Prelude.{ℕ, ◌+◌, ◌*◌, List, [], ◌∷◌, Bool, true, false, slice_index, length, IsBitSet}
use Rattle.jm_model.specs.Meanings.{Meaning}

-- the masks of the letters' parameters, the states that the letters lead to, the handlers that the states hit, and
-- the parameters that a reported instance has to bind
pub record Table : Type 0 where
  pub params : List ℕ
  pub places : List ℕ
  pub hits : List ℕ
  pub must_bind : ℕ

-- the state that a letter leads to
abbrev pub next_state : Table → ℕ → ℕ → ℕ
next_state t s e = slice_index t.places (4 * s + e)

-- the state that a word leads to from a state
abbrev pub state_from : Table → ℕ → List ℕ → ℕ
state_from t s [] = s
state_from t s (e ∷ w) = state_from t (next_state t s e) w

-- whether the word has a letter
abbrev pub has_letter : List ℕ → Bool
has_letter [] = false
has_letter (e ∷ w) = true

-- Handler k's category holds of a word where the state that it leads to has bit k. An instance is cut only where no
-- letter is available to it.
abbrev pub table_meaning : Table → Meaning
table_meaning t = record {
  letters = length t.params;
  params = λ e. slice_index t.params e;
  must_bind = t.must_bind;
  creation = [];
  handlers = 16;
  property_of = λ k. 0;
  Holds = λ w k. IsBitSet (slice_index t.hits (state_from t 0 w)) k;
  coarse_cut = λ j. true;
}
