-- Chain: the letters a, g and d are 0, 1 and 2, over three parameters. The word `a d` matches.
use Rattle.std.specs.Prelude.{ℕ, zero, suc, Bool, true, false, List, [], ◌∷◌, ◌++◌, None, Some}
use Rattle.jm_model.specs.Meanings.{Meaning}
use Rattle.jm_model.specs.declared.firings.Firing.{Firing}
use Rattle.jm_model.specs.declared.step.Entry.{Entry}
use Rattle.jm_semantics.specs.ExampleEntries.{one_handler, binding, event_of, event, death, pass, refused, fires}

-- whether w is `a d`
abbrev pub is_chain : List ℕ → Bool
is_chain (zero ∷ suc (suc zero) ∷ []) = true
is_chain _ = false

-- a binds the first parameter, g the first two, d the last two
abbrev pub chain_params : ℕ → ℕ
chain_params zero = 1
chain_params (suc zero) = 3
chain_params _ = 6

abbrev pub chain : Meaning
chain = one_handler 3 chain_params is_chain

-- the three events, at a line
abbrev pub a : ℕ → ℕ → List Firing → Entry
a line x firings = event line 0 (binding (Some x) None None) firings

abbrev pub g : ℕ → ℕ → ℕ → List Firing → Entry
g line x y firings = event line 1 (binding (Some x) (Some y) None) firings

abbrev pub d : ℕ → ℕ → ℕ → List Firing → Entry
d line y z firings = event line 2 (binding None (Some y) (Some z)) firings

-- the instance that binds the dead object alone isn't cut, and becomes the base of a larger one
abbrev pub kept_base : List Entry
kept_base = a 1 0 [] ∷ death 2 0 ∷ pass 3 2 ∷ d 4 1 2 (fires (binding (Some 0) (Some 1) (Some 2)) ∷ []) ∷ []

-- the instance of objects 0 and 1 is cut, and its letters stand in the slice of the larger one
abbrev pub before_larger : List Entry
before_larger = a 1 0 [] ∷ g 2 0 1 [] ∷ death 3 0 ∷ pass 4 2 ∷ []

abbrev pub disposed_base : List Firing → List Entry
disposed_base answer = before_larger ++ d 5 1 2 answer ∷ []

-- A refused event leaves no trace: the `a` that was refused is in no slice. Of two dead objects the first in
-- the order of the parameters is named.
abbrev pub no_trace : List Entry
no_trace =
    death 1 5 ∷
    refused 2 (event_of 0 (binding (Some 5) None None)) 5 ∷
    d 3 1 2 [] ∷
    death 4 1 ∷
    refused 5 (event_of 1 (binding (Some 5) (Some 1) None)) 5 ∷ []
