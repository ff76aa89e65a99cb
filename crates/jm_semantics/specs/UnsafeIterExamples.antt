-- UnsafeIter: an iterator is used after its collection was changed. The letters create, update and next are 0, 1
-- and 2, the parameters are a collection and an iterator, and `create next* update+ next` matches.
use Rattle.std.specs.Prelude.{ℕ, zero, suc, Bool, true, false, List, [], ◌∷◌, ◌++◌, None, Some}
use Rattle.jm_model.specs.Meanings.{Meaning}
use Rattle.jm_model.specs.declared.binding.Binding.{Binding}
use Rattle.jm_model.specs.declared.firings.Firing.{Firing}
use Rattle.jm_model.specs.declared.step.Step.TheVariants.{Death}
use Rattle.jm_model.specs.declared.step.Entry.{Entry}
use Rattle.jm_semantics.specs.ExampleEntries.{one_handler, binding, event_of, event, death, pass, refused, out_of_memory, fires}

-- whether w is in `update* next`
abbrev pub after_update : List ℕ → Bool
after_update (suc zero ∷ w) = after_update w
after_update (suc (suc zero) ∷ []) = true
after_update _ = false

-- whether w is in `next* update+ next`
abbrev pub after_create : List ℕ → Bool
after_create (suc (suc zero) ∷ w) = after_create w
after_create (suc zero ∷ w) = after_update w
after_create _ = false

-- whether w is in `create next* update+ next`
abbrev pub is_unsafe_use : List ℕ → Bool
is_unsafe_use (zero ∷ w) = after_create w
is_unsafe_use _ = false

-- create binds both parameters, update the collection, next the iterator
abbrev pub unsafe_iter_params : ℕ → ℕ
unsafe_iter_params zero = 3
unsafe_iter_params (suc zero) = 1
unsafe_iter_params _ = 2

abbrev pub unsafe_iter : Meaning
unsafe_iter = one_handler 3 unsafe_iter_params is_unsafe_use

-- the binding of a collection and an iterator
abbrev pub both : ℕ → ℕ → Binding
both c i = binding (Some c) (Some i) None

-- the three events, at a line
abbrev pub create : ℕ → ℕ → ℕ → List Firing → Entry
create line c i firings = event line 0 (both c i) firings

abbrev pub update : ℕ → ℕ → List Firing → Entry
update line c firings = event line 1 (binding (Some c) None None) firings

abbrev pub next : ℕ → ℕ → List Firing → Entry
next line i firings = event line 2 (binding None (Some i) None) firings

-- an iterator is used after its collection was changed
abbrev pub unsafe_use : List Entry
unsafe_use = create 1 0 1 [] ∷ update 2 0 [] ∷ next 3 1 (fires (both 0 1) ∷ []) ∷ []

-- of two iterators over one collection the second is used
abbrev pub two_iterators : List Entry
two_iterators = create 1 0 1 [] ∷ create 2 0 2 [] ∷ update 3 0 [] ∷ next 4 2 (fires (both 0 2) ∷ []) ∷ []

-- the iterator was used before it was created, and is used again
abbrev pub before_second_use : List Entry
before_second_use = next 1 1 [] ∷ create 2 0 1 [] ∷ update 3 0 [] ∷ []

abbrev pub early_use : List Firing → List Entry
early_use answer = before_second_use ++ next 4 1 answer ∷ []

-- the collection dies before the iterator is used
abbrev pub before_last_pass : List Entry
before_last_pass =
    create 1 0 1 [] ∷
    update 2 0 [] ∷
    death 3 0 ∷
    pass 4 2 ∷
    next 5 1 (fires (both 0 1) ∷ []) ∷ []

abbrev pub use_after_death : ℕ → List Entry
use_after_death kept = before_last_pass ++ pass 6 kept ∷ []

-- the iterator dies, and its instance could have fired before
abbrev pub before_cut : List Entry
before_cut = create 1 0 1 [] ∷ pass 2 2 ∷ death 3 1 ∷ []

abbrev pub cut_by_death : ℕ → List Entry
cut_by_death kept = before_cut ++ pass 4 kept ∷ []

-- a dead object is refused, in a death and in an event
abbrev pub refusals : List Entry
refusals = death 1 0 ∷ refused 2 (Death 0) 0 ∷ refused 3 (event_of 1 (binding (Some 0) None None)) 0 ∷ []

-- an event that ran out of memory is in no slice: the iterator is not known to stem from the collection
abbrev pub forgotten : List Entry
forgotten = out_of_memory 1 (event_of 0 (both 0 1)) ∷ update 2 0 [] ∷ next 3 1 [] ∷ []

-- update binds the collection alone
abbrev pub misfit : List Entry
misfit = event 1 1 (both 0 1) [] ∷ []
